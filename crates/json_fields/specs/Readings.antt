-- What a text is read as: all that is wrong with it, in the order in which it is read, and the value where nothing is. A
-- definition of an object is one `do` block: each field stands once, where it is read.
use Rattle.std.specs.Prelude.{ℕ, List, [], ◌∷◌, ◌++◌, map, Option, Some, None, Result, Ok, Err}
use Rattle.std.specs.List.{enumerate_from, flat_map}

-- What stands for the value where something is wrong is never answered.
pub record Reading (F A : Type 0) : Type 0 where
  pub faults : List F
  pub value : A

-- x, with which nothing is wrong
abbrev pub give : {A F : Type 0} → A → Reading F A
give x = record { faults = []; value = x }

-- these faults, and then those of the reading
infixl 10 ◌>>◌
abbrev pub ◌>>◌ : {A F : Type 0} → List F → Reading F A → Reading F A
faults >> r = record { faults = faults ++ r.faults; value = r.value }

-- one reading and then the next, which may need what the first one gave: the faults of both, in that order
infixl 10 ◌>>=◌
abbrev pub ◌>>=◌ : {A B F : Type 0} → Reading F A → (A → Reading F B) → Reading F B
r >>= next = r.faults >> next r.value

-- the value seen through f
abbrev pub map_value : {A B F : Type 0} → (A → B) → Reading F A → Reading F B
map_value f r = record { faults = r.faults; value = f r.value }

-- each fault seen through g
abbrev pub map_faults : {A F G : Type 0} → (F → G) → Reading F A → Reading G A
map_faults g r = record { faults = map g r.faults; value = r.value }

-- what is found, or d and its flaw as a fault
abbrev pub found_or : {A E F : Type 0} → (E → F) → A → Result A E → Reading F A
found_or fault d (Ok x) = give x
found_or fault d (Err flaw) = record { faults = fault flaw ∷ []; value = d }

-- ---- what is inside a value that has to be an object or an array, or may be absent

-- what is read in x, or in d and its flaw as the only fault
abbrev pub within : {A E F X : Type 0} → (E → F) → X → (X → Reading F A) → Result X E → Reading F A
within fault d read (Ok x) = read x
within fault d read (Err flaw) = record { faults = fault flaw ∷ []; value = (read d).value }

-- what is read in x, d where it is absent, or d and its flaw as a fault
abbrev pub inside_or : {A E F X : Type 0} → A → (E → F) → (X → Reading F A) → Result (Option X) E → Reading F A
inside_or d fault read (Ok None) = give d
inside_or d fault read (Ok (Some x)) = read x
inside_or d fault read (Err flaw) = record { faults = fault flaw ∷ []; value = d }

-- ---- arrays

-- what f gives for each element and its place, counted from 0, all in a row
unfoldable pub each_at : {A B : Type 0} → (ℕ → A → List B) → List A → List B
each_at f xs = flat_map (λ p. f p.0 p.1) (enumerate_from 0 xs)

-- each element at its place, counted from 0
unfoldable pub each_in : {A F X : Type 0} → (ℕ → X → Reading F A) → List X → Reading F (List A)
each_in read xs = record {
  faults = each_at (λ k x. (read k x).faults) xs;
  value = each_at (λ k x. (read k x).value ∷ []) xs;
}

-- these faults and x, which private clauses cite
abbrev pub with_faults : {A F : Type 0} → List F → A → Reading F A
with_faults faults x = record { faults = faults; value = x }
