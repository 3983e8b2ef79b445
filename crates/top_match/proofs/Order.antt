-- Lists in the order of the best: there is one such list of the same expressions.
use Rattle.std.proofs.Common.{◌≡◌, ℕ, ◌+◌, ◌<◌, ◌≤◌, ◌==◌, ◌&&◌, ◌||◌, ◌⊎◌, inl, inr, nat_lt, List, [], ◌∷◌, ◌++◌, Bool, true, false, cond, refl, sym, ◌∙◌, ap, subst, arith}
use Rattle.std.proofs.lemmas.Bool.{and_from, and_parts, cases_Bool, false≢true, ne_eqb}
use Rattle.std.proofs.lemmas.Bool.Decides.{nat_tests}
use Rattle.target_expr.specs.Kept.{rise}
use Rattle.cnf_match.proofs.Members.{Has}
use Rattle.top_match.specs.declared.scored.Scored.{Scored}
use Rattle.top_match.specs.Top.{in_order, is_before, put_in}

-- ---- the order, over numbers

not_itself : (p m : ℕ) → (nat_lt p p || ((p == p) && nat_lt m m)) ≡ false
not_itself p m = grind (arith, nat_tests)

passed_on : (p m q n r k : ℕ) → (nat_lt q p || ((p == q) && nat_lt m n)) ≡ true → (nat_lt r q || ((q == r) && nat_lt n k)) ≡ true
    → (nat_lt r p || ((p == r) && nat_lt m k)) ≡ true
passed_on p m q n r k h g = grind (arith, nat_tests, h, g)

other_way : (p m q n : ℕ) → (nat_lt q p || ((p == q) && nat_lt m n)) ≡ false → (m == n) ≡ false → (nat_lt p q || ((q == p) && nat_lt n m)) ≡ true
other_way p m q n h g = grind (arith, nat_tests, h, g)

-- ---- the order of expressions

pub not_before_itself : (s : Scored) → is_before s s ≡ true → ⊥
not_before_itself s h = false≢true (sym (not_itself s.score s.number) ∙ h)

pub before_on : (s t u : Scored) → is_before s t ≡ true → is_before t u ≡ true → is_before s u ≡ true
before_on s t u h g = passed_on s.score s.number t.score t.number u.score u.number h g

pub not_both : (s t : Scored) → is_before s t ≡ true → is_before t s ≡ true → ⊥
not_both s t h g = not_before_itself s (before_on s t s h g)

pub before_or : (s t : Scored) → (s.number ≡ t.number → ⊥) → is_before s t ≡ false → is_before t s ≡ true
before_or s t other h = other_way s.score s.number t.score t.number h (ne_eqb s.number t.number other)

-- ---- lists in order

abbrev pub Ordered : List Scored → Type 0
Ordered [] = Unit {0}
Ordered (s ∷ ss) = ((t : Scored) → Has t ss → is_before s t ≡ true) × Ordered ss

pub ordered_from_rise : (ss : List Scored) → rise is_before ss ≡ true → Ordered ss
ordered_from_rise [] h = tt
ordered_from_rise (s ∷ []) h = (λ t k. absurd k, tt)
ordered_from_rise (s ∷ t ∷ ss) h =
    let parts = and_parts (is_before s t) (rise is_before (t ∷ ss)) h in
    let later = ordered_from_rise (t ∷ ss) parts.1 in
    (behind parts.0 later.0, later)
  where
    behind : is_before s t ≡ true → ((u : Scored) → Has u ss → is_before t u ≡ true) → (u : Scored) → Has u (t ∷ ss) → is_before s u ≡ true
    behind first later u (inl e) = subst (λ (v : Scored). is_before s v ≡ true) (sym e) first
    behind first later u (inr k) = before_on s t u first (later u k)

pub rise_from_ordered : (ss : List Scored) → Ordered ss → rise is_before ss ≡ true
rise_from_ordered [] o = refl
rise_from_ordered (s ∷ []) o = refl
rise_from_ordered (s ∷ t ∷ ss) o = and_from (is_before s t) (rise is_before (t ∷ ss)) (o.0 t (inl refl)) (rise_from_ordered (t ∷ ss) o.1)

same_heads : (x y : Scored) (xs ys : List Scored) → Ordered (x ∷ xs) → Ordered (y ∷ ys) → Has x (y ∷ ys) → Has y (x ∷ xs) → x ≡ y
same_heads x y xs ys o p (inl e) k = e
same_heads x y xs ys o p (inr h) (inl e) = sym e
same_heads x y xs ys o p (inr h) (inr k) = absurd (not_both x y (o.0 y k) (p.0 x h))

in_rest : (x y z : Scored) (xs ys : List Scored) → x ≡ y → Ordered (x ∷ xs) → Has z xs → Has z (y ∷ ys) → Has z ys
in_rest x y z xs ys e o h (inr k) = k
in_rest x y z xs ys e o h (inl f) = absurd (not_before_itself z (subst (λ (w : Scored). is_before w z ≡ true) (e ∙ sym f) (o.0 z h)))

pub one_order : (xs ys : List Scored) → Ordered xs → Ordered ys → ((z : Scored) → Has z xs → Has z ys) → ((z : Scored) → Has z ys → Has z xs) → xs ≡ ys
one_order [] [] o p to back = refl
one_order [] (y ∷ ys) o p to back = absurd (back y (inl refl))
one_order (x ∷ xs) [] o p to back = absurd (to x (inl refl))
one_order (x ∷ xs) (y ∷ ys) o p to back =
    let e : x ≡ y = same_heads x y xs ys o p (to x (inl refl)) (back y (inl refl)) in
    let rest : xs ≡ ys = one_order xs ys o.1 p.1
    (λ z h. in_rest x y z xs ys e o h (to z (inr h)))
    (λ z h. in_rest y x z ys xs (sym e) p h (back z (inr h))) in
    cc

-- the first of a list are those that another has, where each of the list is one of them or comes behind all
pub front : (xs ys : List Scored) → Ordered xs → Ordered ys → ((z : Scored) → Has z xs → Has z ys)
    → ((z : Scored) → Has z ys → Has z xs ⊎ ((w : Scored) → Has w xs → is_before w z ≡ true)) → (rest : List Scored) × (ys ≡ xs ++ rest)
front [] ys o p to back = (ys, refl)
front (x ∷ xs) [] o p to back = absurd (to x (inl refl))
front (x ∷ xs) (y ∷ ys) o p to back =
    let e : x ≡ y = heads (to x (inl refl)) (back y (inl refl)) in
    let (rest, is) = front xs ys o.1 p.1
    (λ z h. in_rest x y z xs ys e o h (to z (inr h)))
    (λ z h. later z e h (back z (inr h))) in
    (rest, cc)
  where
    heads : Has x (y ∷ ys) → Has y (x ∷ xs) ⊎ ((w : Scored) → Has w (x ∷ xs) → is_before w y ≡ true) → x ≡ y
    heads (inl e) k = e
    heads (inr h) (inl (inl f)) = sym f
    heads (inr h) (inl (inr k)) = absurd (not_both x y (o.0 y k) (p.0 x h))
    heads (inr h) (inr behind) = absurd (not_both x y (behind x (inl refl)) (p.0 x h))

    later : (z : Scored) → x ≡ y → Has z ys → Has z (x ∷ xs) ⊎ ((w : Scored) → Has w (x ∷ xs) → is_before w z ≡ true) → Has z xs ⊎ ((w : Scored) → Has w xs → is_before w z ≡ true)
    later z e h (inl (inl f)) = absurd (not_before_itself y (subst (λ (w : Scored). is_before y w ≡ true) (f ∙ e) (p.0 z h)))
    later z e h (inl (inr k)) = inl k
    later z e h (inr behind) = inr (λ w k. behind w (inr k))

-- ---- put at its place

to_cases : (s t z : Scored) (ts put : List Scored) (b : Bool) → (Has z put → (z ≡ s) ⊎ Has z ts) → Has z (cond b (s ∷ t ∷ ts) (t ∷ put)) → (z ≡ s) ⊎ Has z (t ∷ ts)
to_cases s t z ts put true later h = h
to_cases s t z ts put false later (inl e) = inr (inl e)
to_cases s t z ts put false later (inr h) = elim (later h) [ inl e ↦ inl e | inr k ↦ inr (inr k) ]

has_put : (s : Scored) (ts : List Scored) (z : Scored) → Has z (put_in s ts) → (z ≡ s) ⊎ Has z ts
has_put s [] z h = h
has_put s (t ∷ ts) z h = to_cases s t z ts (put_in s ts) (is_before s t) (has_put s ts z) h

from_cases : (s t z : Scored) (ts put : List Scored) (b : Bool) → ((z ≡ s) ⊎ Has z ts → Has z put) → (z ≡ s) ⊎ Has z (t ∷ ts) → Has z (cond b (s ∷ t ∷ ts) (t ∷ put))
from_cases s t z ts put true later h = h
from_cases s t z ts put false later (inl e) = inr (later (inl e))
from_cases s t z ts put false later (inr (inl e)) = inl e
from_cases s t z ts put false later (inr (inr h)) = inr (later (inr h))

put_has : (s : Scored) (ts : List Scored) (z : Scored) → (z ≡ s) ⊎ Has z ts → Has z (put_in s ts)
put_has s [] z h = h
put_has s (t ∷ ts) z h = from_cases s t z ts (put_in s ts) (is_before s t) (put_has s ts z) h

pub ordered_has : (ss : List Scored) (z : Scored) → Has z (in_order ss) → Has z ss
ordered_has [] z h = h
ordered_has (s ∷ ss) z h = elim (has_put s (in_order ss) z h) [ inl e ↦ inl e | inr k ↦ inr (ordered_has ss z k) ]

pub has_ordered : (ss : List Scored) (z : Scored) → Has z ss → Has z (in_order ss)
has_ordered [] z h = h
has_ordered (s ∷ ss) z (inl e) = put_has s (in_order ss) z (inl e)
has_ordered (s ∷ ss) z (inr h) = put_has s (in_order ss) z (inr (has_ordered ss z h))

put_ordered : (s : Scored) (ts : List Scored) → Ordered ts → ((t : Scored) → Has t ts → s.number ≡ t.number → ⊥) → Ordered (put_in s ts)
put_ordered s [] o apart = (λ t k. absurd k, tt)
put_ordered s (t ∷ ts) o apart = by (is_before s t) refl (put_ordered s ts o.1 (λ u k. apart u (inr k)))
  where
    first : is_before s t ≡ true → (u : Scored) → Has u (t ∷ ts) → is_before s u ≡ true
    first h u (inl e) = subst (λ (v : Scored). is_before s v ≡ true) (sym e) h
    first h u (inr k) = before_on s t u h (o.0 u k)

    behind : is_before t s ≡ true → (u : Scored) → (u ≡ s) ⊎ Has u ts → is_before t u ≡ true
    behind h u (inl e) = subst (λ (v : Scored). is_before t v ≡ true) (sym e) h
    behind h u (inr k) = o.0 u k

    by : (b : Bool) → is_before s t ≡ b → Ordered (put_in s ts) → Ordered (cond b (s ∷ t ∷ ts) (t ∷ put_in s ts))
    by true h later = (first h, o)
    by false h later = (λ u k. behind (before_or s t (apart t (inl refl)) h) u (has_put s ts u k), later)

-- no two have one number
abbrev pub Apart : List Scored → Type 0
Apart [] = Unit {0}
Apart (s ∷ ss) = ((t : Scored) → Has t ss → s.number ≡ t.number → ⊥) × Apart ss

pub in_order_ordered : (ss : List Scored) → Apart ss → Ordered (in_order ss)
in_order_ordered [] apart = tt
in_order_ordered (s ∷ ss) apart = put_ordered s (in_order ss) (in_order_ordered ss apart.1) (λ t k. apart.0 t (ordered_has ss t k))
