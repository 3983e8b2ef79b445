use Rattle.std.proofs.Common.{ap, sym, ◌∙◌}
use Rattle.deal_rules.specs.Marks.{is_marked_at}
use Rattle.deal_rules.proofs.Marking.{none_has, ruled_out}
use Rattle.deal_rules.proofs.texts.may_have_mark.Goals as goal

pub returns-then-is_empty : goal.returns-then-is_empty
returns-then-is_empty c = λ text is e. none_has c.args.texts.now text c.is_empty-then-is_empty.result c.is_empty-then-is_empty.ensures e

pub returns : goal.returns
returns c = λ text is e. ruled_out c.args.marks.now c.args.texts.now text c.requires (sym c.is_empty.ensures ∙ c.if-is_empty.false) (ap (is_marked_at c.args.marks.now) (sym is) ∙ sym c.is_marked.ensures ∙ e)
