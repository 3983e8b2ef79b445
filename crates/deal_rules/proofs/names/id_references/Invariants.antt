use Rattle.std.proofs.Common.{◌≡◌, List, map, take, ℕ}
use Rattle.std.specs.Borrow.{Bor}
use Rattle.deal_rules.specs.Named.{ids_of}
use Rattle.deal_rules.proofs.names.id_references.Given as goal

abbrev pub invariant-loop-deal : goal.invariant-loop-deal
invariant-loop-deal l = map (λ (t : Bor (List ℕ)). t.now) l.all.items ≡ ids_of (take l.deal-index l.deals)
