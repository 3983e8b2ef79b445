use Rattle.std.proofs.Common.{ap, sym, ◌∙◌}
use Rattle.deal_rules.specs.Marks.{is_marked_at}
use Rattle.deal_rules.proofs.Marking.{none_has, ruled_out}
use Rattle.deal_rules.proofs.texts.may_be_among.Goals as goal

pub returns-then-is_empty : goal.returns-then-is_empty
returns-then-is_empty c = λ e. none_has c.args.texts.now c.args.text.now c.is_empty-then-is_empty.result c.is_empty-then-is_empty.ensures e

pub returns : goal.returns
returns c = λ e. ruled_out c.args.marks.now c.args.texts.now c.args.text.now c.requires (sym c.is_empty.ensures ∙ c.if-is_empty.false) (ap (is_marked_at c.args.marks.now) (sym c.mark_of.ensures.value) ∙ sym c.is_marked.ensures ∙ e)
