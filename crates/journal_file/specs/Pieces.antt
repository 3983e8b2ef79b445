-- Bytes that were read ahead. Private.
use Rattle.std.specs.Prelude.{◌≡◌, ℕ, List, length, take, drop}

-- from this place on the file begins with these bytes
abbrev pub BeginsFrom : ℕ → List ℕ → List ℕ → Type 0
BeginsFrom place front file = front ≡ take (length front) (drop place file)
