-- What one more item changes.
use Rattle.std.proofs.Common.{◌≡◌, ℕ, suc, List, [], ◌∷◌, ◌++◌, length, ◌&&◌, Option, None, Some, option_map, option_and_then, is_some, refl, sym, ap, ◌∙◌}
use Rattle.std.specs.List.{list_all}
use Rattle.exchange_run.specs.Each.{each_of}

abbrev pub onto : {B : Type 0} → Option (List B) → List B → Option (List B)
onto later ys = option_map (λ zs. ys ++ zs) later

regrouped : {B : Type 0} (a : Option B) (b later : Option (List B)) → option_and_then (λ y. option_map (λ ys. y ∷ ys) (option_and_then (onto later) b)) a ≡ option_and_then (onto later) (option_and_then (λ y. option_map (λ ys. y ∷ ys) b) a)
regrouped None b later = refl
regrouped (Some y) None later = refl
regrouped (Some y) (Some ys) None = refl
regrouped (Some y) (Some ys) (Some zs) = refl

from_nothing : {B : Type 0} (o : Option (List B)) → o ≡ option_and_then (onto o) (Some [])
from_nothing None = refl
from_nothing (Some ys) = refl

-- one list and then another
pub each_append : {A B : Type 0} (read : A → Option B) (xs zs : List A) → each_of read (xs ++ zs) ≡ option_and_then (onto (each_of read zs)) (each_of read xs)
unfolding each_of
each_append read [] zs = from_nothing (each_of read zs)
each_append read (x ∷ xs) zs = ap (λ o. option_and_then (λ y. option_map (λ ys. y ∷ ys) o) (read x)) (each_append read xs zs) ∙ regrouped (read x) (each_of read xs) (each_of read zs)

one_alone : {A B : Type 0} (read : A → Option B) (x : A) → each_of read (x ∷ []) ≡ option_map (λ y. y ∷ []) (read x)
unfolding each_of
one_alone {A} {B} read x = alone (read x)
  where
    alone : (o : Option B) → option_and_then (λ y. option_map (λ ys. y ∷ ys) (Some [])) o ≡ option_map (λ y. y ∷ []) o
    alone None = refl
    alone (Some y) = refl

pub none_yet : {A B : Type 0} (read : A → Option B) → each_of read [] ≡ Some []
unfolding each_of
none_yet read = refl

-- one item more
pub one_more : {A B : Type 0} (read : A → Option B) (xs : List A) (x : A) (ys : List B) (y : B) → each_of read xs ≡ Some ys → Some y ≡ read x → each_of read (xs ++ x ∷ []) ≡ Some (ys ++ y ∷ [])
one_more read xs x ys y e f = each_append read xs (x ∷ []) ∙ ap (option_and_then (onto (each_of read (x ∷ [])))) e ∙ ap (λ o. onto o ys) (one_alone read x ∙ ap (option_map (λ z. z ∷ [])) (sym f))

nothing : {B : Type 0} (o : Option (List B)) → option_and_then (onto None) o ≡ None
nothing None = refl
nothing (Some ys) = refl

-- an item that can't be read
pub none_there : {A B : Type 0} (read : A → Option B) (xs zs : List A) (x : A) → None ≡ read x → each_of read (xs ++ x ∷ zs) ≡ None
unfolding each_of
none_there read xs zs x f =
    each_append read xs (x ∷ zs) ∙ ap (λ o. option_and_then (onto (option_and_then (λ y. option_map (λ ys. y ∷ ys) (each_of read zs)) o)) (each_of read xs)) (sym f)
    ∙ nothing (each_of read xs)

both : {B : Type 0} (a : Option B) (b : Option (List B)) → (is_some a && is_some b) ≡ is_some (option_and_then (λ y. option_map (λ ys. y ∷ ys) b) a)
both None b = refl
both (Some y) None = refl
both (Some y) (Some ys) = refl

-- whether each can be read
pub all_are : {A B : Type 0} (read : A → Option B) (xs : List A) → list_all (λ x. is_some (read x)) xs ≡ is_some (each_of read xs)
unfolding each_of
all_are read [] = refl
all_are read (x ∷ xs) = ap (λ b. is_some (read x) && b) (all_are read xs) ∙ both (read x) (each_of read xs)

counted : {B : Type 0} (n : ℕ) (y : B) (zs ys : List B) → Some (y ∷ zs) ≡ Some ys → length zs ≡ n → length ys ≡ suc n
counted n y zs ys e h = let same : y ∷ zs ≡ ys = cc in sym (ap length same) ∙ ap suc h

longer : {B : Type 0} (n : ℕ) (a : Option B) (b : Option (List B)) → ((ys : List B) → b ≡ Some ys → length ys ≡ n) → (ys : List B) → option_and_then (λ y. option_map (λ zs. y ∷ zs) b) a ≡ Some ys → length ys ≡ suc n
longer n None b h ys e = cc
longer n (Some y) None h ys e = cc
longer n (Some y) (Some zs) h ys e = counted n y zs ys e (h zs refl)

empty : {B : Type 0} (ys : List B) → Some [] ≡ Some ys → length ys ≡ 0
empty [] e = refl
empty (y ∷ ys) e = cc

-- as many are read as there are
pub each_length : {A B : Type 0} (read : A → Option B) (xs : List A) (ys : List B) → each_of read xs ≡ Some ys → length ys ≡ length xs
unfolding each_of
each_length read [] ys e = empty ys e
each_length read (x ∷ xs) ys e = longer (length xs) (read x) (each_of read xs) (each_length read xs) ys e
