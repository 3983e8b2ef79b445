-- Lists by place.
use Rattle.std.proofs.Common.{◌≡◌, ℕ, zero, suc, ◌<◌, List, [], ◌∷◌, ◌++◌, length, get_or, map, set, refl, ap, arith, Option, Some}

pub some_same : {X : Type 0} (o : Option X) (x y : X) → o ≡ Some x → o ≡ Some y → x ≡ y
some_same o x y is too = cc (is, too)

pub get_same : {X : Type 0} (l : List X) (k : ℕ) (d e : X) → k < length l → get_or l k d ≡ get_or l k e
get_same [] k d e lt = absurd (omega arith)
get_same (x ∷ l) zero d e lt = refl
get_same (x ∷ l) (suc k) d e lt = get_same l k d e (omega arith)

pub get_front : {X : Type 0} (l m : List X) (k : ℕ) (d : X) → k < length l → get_or (l ++ m) k d ≡ get_or l k d
get_front [] m k d lt = absurd (omega arith)
get_front (x ∷ l) m zero d lt = refl
get_front (x ∷ l) m (suc k) d lt = get_front l m k d (omega arith)

pub get_last : {X : Type 0} (l : List X) (x d : X) (k : ℕ) → k ≡ length l → get_or (l ++ x ∷ []) k d ≡ x
get_last [] x d zero e = refl
get_last [] x d (suc k) e = absurd (omega arith)
get_last (y ∷ l) x d zero e = absurd (omega arith)
get_last (y ∷ l) x d (suc k) e = get_last l x d k (omega arith)

pub map_set : {X Y : Type 0} (f : X → Y) (l : List X) (i : ℕ) (x d : X) → i < length l → f x ≡ f (get_or l i d) → map f (set l i x) ≡ map f l
map_set f [] i x d lt e = refl
map_set f (y ∷ l) zero x d lt e = ap (λ z. z ∷ map f l) e
map_set f (y ∷ l) (suc i) x d lt e = ap (λ z. f y ∷ z) (map_set f l i x d (omega arith) e)

pub get_set : {X : Type 0} (l : List X) (i : ℕ) (x d : X) → i < length l → get_or (set l i x) i d ≡ x
get_set [] i x d lt = absurd (omega arith)
get_set (y ∷ l) zero x d lt = refl
get_set (y ∷ l) (suc i) x d lt = get_set l i x d (omega arith)
