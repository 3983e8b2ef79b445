-- Where a reading stands at a gate of the file, and whether that is open. Private.
use Rattle.std.specs.Prelude.{ℕ, nat_eq, List, [], ◌∷◌, Bool, true, false}
use Rattle.journal_file.specs.declared.reading.Found.{Found}
use Rattle.journal_file.specs.declared.reading.Found.TheVariants as found

abbrev pub has_gate : Found → Bool
has_gate found.Blocks = true
has_gate found.Ended = true
has_gate found.Creation = false
has_gate found.Failed = false
has_gate found.Damaged = false

-- these bytes begin with an open gate
abbrev pub begins_open : List ℕ → Bool
begins_open [] = false
begins_open (gate ∷ rest) = nat_eq gate 1
