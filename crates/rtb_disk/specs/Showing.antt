-- What calls showed of a disk, also of one whose bytes others change between its calls.
use Rattle.std.specs.Prelude.{ℕ, List, [], ◌∷◌, ◌++◌, Option}
use Rattle.std.specs.Option.{option_map}

-- What a call showed: from a place on, of so many bytes that were asked for, these, which are fewer where it ended; or
-- the length.
pub data Shown : Type 0 where
  bytes_from : ℕ → ℕ → List ℕ → Shown
  length_was : ℕ → Shown

-- this behind what was shown before, where that is told
abbrev pub one_more_shown : Shown → Option (List Shown) → Option (List Shown)
one_more_shown one before = option_map (λ shown. shown ++ one ∷ []) before
