use Rattle.std.proofs.Common.{sym, ◌∙◌}
use Rattle.std.specs.Cmp.Rules.{signed_items}
use Rattle.deal_rules.proofs.alike.are_same_numbers.Goals as goal

pub returns : goal.returns
returns c = λ e. (signed_items c.args.a.now c.args.b.now).0 (sym c.eq.ensures ∙ e)
