-- How the code goes from line to line. Private: only the crate's own functions cite this file.
use Rattle.std.specs.Prelude.{◌≡◌, ℕ, ◌+◌, ◌<◌, ◌≤◌, ◌-◌, List, length, drop, None, option_map, slice_index}
use Rattle.http_wire.specs.Heads.{head_end}

-- up to the LF before the place there is no end of a head
pub record GoesTo (bytes : List ℕ) (at place : ℕ) : Type 0 where
  pub ahead : at < place
  pub within : place ≤ length bytes
  pub line : slice_index bytes (place - 1) ≡ 10
  pub passed : head_end (drop at bytes) ≡ option_map (λ n. (place - 1 - at) + n) (head_end (drop (place - 1) bytes))

-- from the place on no line ends, and so no head
abbrev pub HasNoEnd : List ℕ → ℕ → Type 0
HasNoEnd bytes at = head_end (drop at bytes) ≡ None
