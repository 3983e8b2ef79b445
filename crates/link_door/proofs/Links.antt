-- What a door that keeps its links in the other order gives.
use Rattle.std.proofs.Common.{◌≡◌, ℕ, List, [], ◌∷◌, ◌++◌, length, reverse, Option, Some, None, refl, sym, ap, ◌∙◌, arith}
use Rattle.std.specs.Prelude.{MatchOption}
use Rattle.std.specs.Option.{option_to_list}
use Rattle.std.proofs.lemmas.List.{append-nil, reverse-append}
use Rattle.link_door.specs.Doors.{TakesFirst}

empty_back : {L : Type 0} → (xs : List L) → length xs ≡ 0 → reverse xs ≡ []
empty_back [] e = refl
empty_back (x ∷ xs) e = absurd (omega arith)

-- what was taken from the end stood first in the other order
pub taken_last : {L : Type 0} → (old new : List L) (r : Option L) (n m : ℕ) (P : L → Type 0) → old ≡ new ++ option_to_list r → m ≡ length new → MatchOption r ((n ≡ 0) × (m ≡ 0)) P → TakesFirst (reverse old) (reverse new) r
taken_last old new None n m P e size none = (ap reverse (e ∙ append-nil new), λ is. empty_back new (sym size ∙ none.1))
taken_last old new (Some link) n m P e size none = (ap reverse e ∙ reverse-append new (link ∷ []), λ is. cc)
