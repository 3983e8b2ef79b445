-- A list read item by item.
use Rattle.std.specs.Prelude.{List, [], ◌∷◌, Option, Some, option_map, option_and_then}

-- what each item is read as, where each can be read
unfoldable pub each_of : {A B : Type 0} → (A → Option B) → List A → Option (List B)
each_of read [] = Some []
each_of read (x ∷ xs) = option_and_then (λ y. option_map (λ ys. y ∷ ys) (each_of read xs)) (read x)
