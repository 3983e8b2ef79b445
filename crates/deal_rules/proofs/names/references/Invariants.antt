use Rattle.std.proofs.Common.{◌≡◌, List, map, take, ℕ}
use Rattle.std.specs.Borrow.{Bor}
use Rattle.deal_rules.proofs.names.references.Given as goal

abbrev pub invariant-loop-text : goal.invariant-loop-text
invariant-loop-text l = map (λ (t : Bor (List ℕ)). t.now) l.all.items ≡ take l.text-index l.texts
