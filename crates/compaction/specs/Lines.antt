-- What is told of the state that was written.
use Rattle.std.specs.Prelude.{ℕ, List, ◌++◌, codes, decimal, length}
use Rattle.plain_exchange.specs.State.{State, forgotten}

abbrev pub counts_line : ℕ → ℕ → List ℕ
counts_line sales forgotten = codes "compacted sales=" ++ decimal sales ++ codes " forgotten=" ++ decimal forgotten ++ codes "\n"

-- how many sales are in the list, and how many are forgotten
abbrev pub compact_line : State → List ℕ
compact_line s = counts_line (length s.sales) (forgotten s)
