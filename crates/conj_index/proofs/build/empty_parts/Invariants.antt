use Rattle.std.proofs.Common.{◌≡◌, [], length}
use Rattle.conj_index.specs.Growing.{AreGrown}
use Rattle.conj_index.proofs.build.empty_parts.Given as goal

abbrev pub invariant-loop : goal.invariant-loop
invariant-loop l = record { count : length l.parts.items ≡ l.counter; empty : AreGrown [] l.parts.items }
