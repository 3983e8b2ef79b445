-- What a door does, where it is told what it holds.
use Rattle.std.specs.Prelude.{◌≡◌, ℕ, ◌+◌, ◌-◌, nat_lt, if◌then◌else◌, List, [], ◌∷◌, ◌++◌, length, Option, None, Some, Result, Ok, Err, ⊤}
use Rattle.std.specs.Option.{option_to_list}

-- the links that are left, the moments that are left, the links that came back, and how many that were
-- given are still to come back
pub record Held (Link : Type 0) : Type 0 where
  pub left : List Link
  pub moments : List ℕ
  pub served : List Link
  pub out : ℕ

-- the first of the links was taken, if there is one
abbrev pub TakesFirst : {Link : Type 0} → List Link → List Link → Option Link → Type 0
TakesFirst old new link = (old ≡ option_to_list link ++ new) × (link ≡ None → new ≡ [])

-- the first link that is left was given; none is given exactly where none is left
abbrev pub GivesLink : {Link E : Type 0} → Option (Held Link) → Option (Held Link) → Result (Option Link) E → Type 0
GivesLink None new r = ⊤
GivesLink (Some h) new (Err e) = new ≡ Some h
GivesLink {Link} (Some h) new (Ok link) = (rest : List Link) × TakesFirst h.left rest link × (new ≡ Some (record h { left = rest; out = h.out + length (option_to_list link) }))

-- the moments behind the first; the last repeats
abbrev pub later : List ℕ → List ℕ
later [] = []
later (m ∷ []) = m ∷ []
later (m ∷ n ∷ moments) = n ∷ moments

abbrev pub with_later : {Link : Type 0} → Held Link → Held Link
with_later h = record h { moments = later h.moments }

-- a link that was given has come back
abbrev pub with_served : {Link : Type 0} → Link → Held Link → Held Link
with_served link h = if nat_lt 0 h.out then record h { served = h.served ++ link ∷ []; out = h.out - 1 } else h
