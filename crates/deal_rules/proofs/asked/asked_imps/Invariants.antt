use Rattle.std.proofs.Common.{◌≡◌, take}
use Rattle.deal_rules.proofs.asked.asked_imps.Given as goal

abbrev pub invariant-loop-imp : goal.invariant-loop-imp
invariant-loop-imp l = l.all.items ≡ take l.imp-index l.imps
