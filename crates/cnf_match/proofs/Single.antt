-- A predicate names at most one pair of an assignment: the one that makes "in" true.
use Rattle.std.proofs.Common.{◌≡◌, ℕ, ◌+◌, ◌==◌, ◌&&◌, ◌||◌, not, List, [], ◌∷◌, Bool, true, false, cond, Option, Some, count_by, find, refl, sym, ◌∙◌, ap, arith, inl, inr}
use Rattle.std.specs.Prelude.{option_map}
use Rattle.std.specs.List.{list_any}
use Rattle.std.specs.Option.{option_map_or}
use Rattle.std.specs.Str.{bytes_eq}
use Rattle.std.proofs.lemmas.Bool.{cases_Bool, false≢true}
use Rattle.std.proofs.lemmas.Bool.Decides.{nat_tests}
use Rattle.std.proofs.lemmas.List.Sums.{sum_by-cons}
use Rattle.target_expr.specs.declared.attr.Attr.{Attr}
use Rattle.target_expr.specs.declared.pred.Pred.{Pred}
use Rattle.target_expr.specs.Attributes.{number_of}
use Rattle.target_expr.specs.Truth.{are_single, is_in, same_attr}
use Rattle.cnf_match.specs.Content.{names}
use Rattle.cnf_match.specs.Find.{key_of}

abbrev pub named_by : Pred → Attr × List ℕ → Bool
named_by p q = names (key_of q) p

pub counted : {X : Type 0} (p : X → Bool) (x : X) (xs : List X) → count_by p (x ∷ xs) ≡ cond (p x) 1 0 + count_by p xs
counted p x xs = sum_by-cons (λ y. cond (p y) 1 0) x xs

left : (a b : Bool) → (a && b) ≡ true → a ≡ true
left true b h = refl
left false b h = absurd (false≢true h)

right : (a b : Bool) → (a && b) ≡ true → b ≡ true
right true b h = h
right false b h = absurd (false≢true h)

not_false : (a : Bool) → not a ≡ true → a ≡ false
not_false true h = absurd (false≢true h)
not_false false h = refl

or_left : (a b : Bool) → (a || b) ≡ false → a ≡ false
or_left true b h = h
or_left false b h = refl

or_right : (a b : Bool) → (a || b) ≡ false → b ≡ false
or_right true b h = absurd (false≢true (sym h))
or_right false b h = h

met : (m n k : ℕ) → (m == k) ≡ true → (n == k) ≡ true → (m == n) ≡ true
met m n k e f = grind (arith, nat_tests)

turned : (m n : ℕ) → (m == n) ≡ (n == m)
turned m n = grind (arith, nat_tests)

no_other : (p : Pred) (q : Attr × List ℕ) (a : List (Attr × List ℕ)) → list_any (λ (r : Attr × List ℕ). same_attr r.0 q.0) a ≡ false → same_attr q.0 p.attr ≡ true → list_any (named_by p) a ≡ false
no_other p q [] h e = refl
no_other p q (r ∷ a) h e =
    elim (cases_Bool (named_by p r)) [
      | inl n ↦ absurd (false≢true (sym (or_left (same_attr r.0 q.0) (list_any (λ (o : Attr × List ℕ). same_attr o.0 q.0) a) h)
          ∙ met (number_of r.0) (number_of q.0) (number_of p.attr)
          (turned (number_of r.0) (number_of p.attr) ∙ left (same_attr p.attr r.0) (list_any (λ v. bytes_eq v r.1) p.values) n) e))
      | inr n ↦ ap (λ b. b || list_any (named_by p) a) n ∙ no_other p q a (or_right (same_attr r.0 q.0) (list_any (λ (o : Attr × List ℕ). same_attr o.0 q.0) a) h) e
    ]

none_counted : {X : Type 0} (f : X → Bool) (xs : List X) → list_any f xs ≡ false → count_by f xs ≡ 0
none_counted f [] h = refl
none_counted f (x ∷ xs) h =
    let first : cond (f x) 1 0 ≡ 0 = ap (λ b. cond {A = ℕ} b 1 0) (or_left (f x) (list_any f xs) h) in
    let rest : count_by f xs ≡ 0 = none_counted f xs (or_right (f x) (list_any f xs) h) in
    omega (arith, counted f x xs, first, rest)

-- whether the predicate lists what was found
abbrev listed : Pred → Option (Attr × List ℕ) → Bool
listed p o = option_map_or (λ x. list_any (λ v. bytes_eq v x) p.values) (option_map (λ (r : Attr × List ℕ). r.1) o) false

alike : (b l : Bool) → b ≡ true → (b && l) ≡ l
alike true l h = refl
alike false l h = absurd (false≢true h)

unlike : (b l : Bool) → b ≡ false → (b && l) ≡ false
unlike true l h = absurd (false≢true (sym h))
unlike false l h = refl

or_none : (b : Bool) → (b || false) ≡ b
or_none true = refl
or_none false = refl

-- the first pair is of the predicate's attribute, and so no other is
named_first : (p : Pred) (q : Attr × List ℕ) → same_attr q.0 p.attr ≡ true → named_by p q ≡ list_any (λ v. bytes_eq v q.1) p.values
named_first p q e = alike (same_attr p.attr q.0) (list_any (λ v. bytes_eq v q.1) p.values) (turned (number_of p.attr) (number_of q.0) ∙ e)

not_named : (p : Pred) (q : Attr × List ℕ) → same_attr q.0 p.attr ≡ false → named_by p q ≡ false
not_named p q e = unlike (same_attr p.attr q.0) (list_any (λ v. bytes_eq v q.1) p.values) (turned (number_of p.attr) (number_of q.0) ∙ e)

in_first : (p : Pred) (q : Attr × List ℕ) (a : List (Attr × List ℕ)) → same_attr q.0 p.attr ≡ true → is_in (q ∷ a) p ≡ list_any (λ v. bytes_eq v q.1) p.values
in_first p q a e = ap (λ b. listed p (cond b (Some q) (find (λ (r : Attr × List ℕ). same_attr r.0 p.attr) a))) e

in_later : (p : Pred) (q : Attr × List ℕ) (a : List (Attr × List ℕ)) → same_attr q.0 p.attr ≡ false → is_in (q ∷ a) p ≡ is_in a p
in_later p q a e = ap (λ b. listed p (cond b (Some q) (find (λ (r : Attr × List ℕ). same_attr r.0 p.attr) a))) e

first_single : (q : Attr × List ℕ) (a : List (Attr × List ℕ)) → are_single (q ∷ a) ≡ true → list_any (λ (r : Attr × List ℕ). same_attr r.0 q.0) a ≡ false
first_single q a s = not_false (list_any (λ (r : Attr × List ℕ). same_attr r.0 q.0) a) (left (not (list_any (λ (r : Attr × List ℕ). same_attr r.0 q.0) a)) (are_single a) s)

later_single : (q : Attr × List ℕ) (a : List (Attr × List ℕ)) → are_single (q ∷ a) ≡ true → are_single a ≡ true
later_single q a s = right (not (list_any (λ (r : Attr × List ℕ). same_attr r.0 q.0) a)) (are_single a) s

-- at most one pair is named by a predicate
pub in_some : (p : Pred) (a : List (Attr × List ℕ)) → are_single a ≡ true → list_any (named_by p) a ≡ is_in a p
in_some p [] s = refl
in_some p (q ∷ a) s =
    elim (cases_Bool (same_attr q.0 p.attr)) [
      | inl e ↦ ap (λ b. named_by p q || b) (no_other p q a (first_single q a s) e) ∙ or_none (named_by p q) ∙ named_first p q e ∙ sym (in_first p q a e)
      | inr e ↦ ap (λ b. b || list_any (named_by p) a) (not_named p q e) ∙ in_some p a (later_single q a s) ∙ sym (in_later p q a e)
    ]

pub in_once : (p : Pred) (a : List (Attr × List ℕ)) → are_single a ≡ true → count_by (named_by p) a ≡ cond (is_in a p) 1 0
in_once p [] s = refl
in_once p (q ∷ a) s =
    elim (cases_Bool (same_attr q.0 p.attr)) [
      | inl e ↦
          let none : count_by (named_by p) a ≡ 0 = none_counted (named_by p) a (no_other p q a (first_single q a s) e) in
          let first : cond (named_by p q) 1 0 ≡ cond (is_in (q ∷ a) p) 1 0 = ap (λ b. cond {A = ℕ} b 1 0) (named_first p q e ∙ sym (in_first p q a e)) in
          omega (arith, counted (named_by p) q a, none, first)
      | inr e ↦
          let none : cond (named_by p q) 1 0 ≡ 0 = ap (λ b. cond {A = ℕ} b 1 0) (not_named p q e) in
          let later : count_by (named_by p) a ≡ cond (is_in a p) 1 0 = in_once p a (later_single q a s) in
          let same : cond (is_in (q ∷ a) p) 1 0 ≡ cond (is_in a p) 1 0 = ap (λ b. cond {A = ℕ} b 1 0) (in_later p q a e) in
          omega (arith, counted (named_by p) q a, none, later, same)
    ]
