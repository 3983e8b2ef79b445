use Rattle.std.proofs.Common.{sym, ◌∙◌}
use Rattle.deal_rules.proofs.Same.{alike}
use Rattle.deal_rules.proofs.alike.is_alike.Goals as goal

pub returns : goal.returns
returns c = λ e.
    alike c.args.a.now c.args.b.now (c.are_ruled_alike.ensures c.if-not-are_ruled_alike.false) (c.is_same_tag.ensures c.if-not-is_same_tag.false) (sym c.position_of.ensures ∙ c.is_same_position.ensures e ∙ c.position_of-2.ensures)
