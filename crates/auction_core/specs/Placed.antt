-- Lists by their places.
use Rattle.std.specs.Prelude.{ℕ, nat_lt, Bool, List, [], length, slice_get}
use Rattle.std.specs.Option.{option_map_or}

-- the list at the place, or none where it is past the end
abbrev pub list_at : {X : Type 0} → List (List X) → ℕ → List X
list_at {X} lists place = option_map_or (λ (l : List X). l) (slice_get lists place) []

abbrev pub is_placed : {X : Type 0} → List (List X) → ℕ → Bool
is_placed lists place = nat_lt place (length lists)
