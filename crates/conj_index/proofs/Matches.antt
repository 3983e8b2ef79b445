-- A conjunction is true exactly where no pair of the assignment has a negated entry of it, and as
-- many pairs have another entry as it has "in" predicates.
use Rattle.std.proofs.Common.{◌≡◌, ℕ, ◌+◌, ◌≤◌, ◌==◌, ◌&&◌, ◌||◌, not, nat_le, List, [], ◌∷◌, Bool, true, false, cond, Option, Some, None, count_by, find, refl, sym, ◌∙◌, ap, arith, inl, inr}
use Rattle.std.specs.Prelude.{option_map}
use Rattle.std.specs.List.{list_any}
use Rattle.std.specs.Option.{option_map_or}
use Rattle.std.specs.Str.{bytes_eq}
use Rattle.std.proofs.lemmas.Bool.{cases_Bool, false≢true}
use Rattle.std.proofs.lemmas.Bool.Decides.{nat_tests}
use Rattle.std.proofs.lemmas.List.Sums.{sum_by-cons}
use Rattle.target_expr.specs.declared.attr.Attr.{Attr}
use Rattle.target_expr.specs.declared.pred.Pred.{Pred}
use Rattle.target_expr.specs.Attributes.{number_of}
use Rattle.target_expr.specs.Pairs.{size_of}
use Rattle.target_expr.specs.Truth.{are_single, conjunction_holds, is_in, pred_holds, same_attr}
use Rattle.conj_index.specs.declared.key.Key.{Key}
use Rattle.conj_index.specs.Content.{names}

abbrev pub key_of : Attr × List ℕ → Key
key_of q = record { attr = q.0; value = q.1 }

-- the predicate that names the pair
abbrev pub under : List Pred → Attr × List ℕ → Option Pred
under c q = find (names (key_of q)) c

abbrev pub is_negated : Option Pred → Bool
is_negated o = option_map_or (λ (p : Pred). p.negated) o false

abbrev pub is_plain : Option Pred → Bool
is_plain o = option_map_or (λ (p : Pred). not p.negated) o false

abbrev pub excluded : List Pred → List (Attr × List ℕ) → Bool
excluded c a = list_any (λ q. is_negated (under c q)) a

abbrev pub asked : List Pred → List (Attr × List ℕ) → ℕ
asked c a = count_by (λ q. is_plain (under c q)) a

-- no two predicates speak of one attribute
abbrev pub are_apart : List Pred → Bool
are_apart [] = true
are_apart (p ∷ c) = not (list_any (λ (r : Pred). same_attr r.attr p.attr) c) && are_apart c

abbrev pub named_by : Pred → Attr × List ℕ → Bool
named_by p q = names (key_of q) p

pub counted : {X : Type 0} (p : X → Bool) (x : X) (xs : List X) → count_by p (x ∷ xs) ≡ cond (p x) 1 0 + count_by p xs
counted p x xs = sum_by-cons (λ y. cond (p y) 1 0) x xs

left : (a b : Bool) → (a && b) ≡ true → a ≡ true
left true b h = refl
left false b h = absurd (false≢true h)

right : (a b : Bool) → (a && b) ≡ true → b ≡ true
right true b h = h
right false b h = absurd (false≢true h)

not_false : (a : Bool) → not a ≡ true → a ≡ false
not_false true h = absurd (false≢true h)
not_false false h = refl

or_left : (a b : Bool) → (a || b) ≡ false → a ≡ false
or_left true b h = h
or_left false b h = refl

or_right : (a b : Bool) → (a || b) ≡ false → b ≡ false
or_right true b h = absurd (false≢true (sym h))
or_right false b h = h

met : (m n k : ℕ) → (m == k) ≡ true → (n == k) ≡ true → (m == n) ≡ true
met m n k e f = grind (arith, nat_tests)

turned : (m n : ℕ) → (m == n) ≡ (n == m)
turned m n = grind (arith, nat_tests)

-- where one predicate names the pair, no other of the conjunction does
pub none_else : (p : Pred) (c : List Pred) (q : Attr × List ℕ) → list_any (λ (r : Pred). same_attr r.attr p.attr) c ≡ false → named_by p q ≡ true → under c q ≡ None
none_else p [] q h n = refl
none_else p (r ∷ c) q h n =
    elim (cases_Bool (named_by r q)) [
      | inl e ↦ absurd (false≢true (sym (or_left (same_attr r.attr p.attr) (list_any (λ (o : Pred). same_attr o.attr p.attr) c) h)
          ∙ met (number_of r.attr) (number_of p.attr) (number_of q.0)
          (left (same_attr r.attr q.0) (list_any (λ v. bytes_eq v q.1) r.values) e)
          (left (same_attr p.attr q.0) (list_any (λ v. bytes_eq v q.1) p.values) n)))
      | inr e ↦ ap (λ b. cond b (Some r) (under c q)) e ∙ none_else p c q (or_right (same_attr r.attr p.attr) (list_any (λ (o : Pred). same_attr o.attr p.attr) c) h) n
    ]

split_negated : (p : Pred) (n : Bool) (u : Option Pred) → (n ≡ true → u ≡ None) → is_negated (cond n (Some p) u) ≡ ((p.negated && n) || is_negated u)
split_negated p true u h = when p.negated ∙ ap (λ o. (p.negated && true) || is_negated o) (sym (h refl))
  where
    when : (b : Bool) → b ≡ ((b && true) || false)
    when true = refl
    when false = refl
split_negated p false u h = when p.negated (is_negated u)
  where
    when : (b e : Bool) → e ≡ ((b && false) || e)
    when true e = refl
    when false e = refl

regrouped : (pn n b l e : Bool) → (((pn && n) || b) || ((pn && l) || e)) ≡ ((pn && (n || l)) || (b || e))
regrouped true true b l e = refl
regrouped true false true true e = refl
regrouped true false true false e = refl
regrouped true false false true e = refl
regrouped true false false false e = refl
regrouped false n b l e = refl

pub one_more_excluded : (p : Pred) (c : List Pred) (a : List (Attr × List ℕ)) → list_any (λ (r : Pred). same_attr r.attr p.attr) c ≡ false → excluded (p ∷ c) a ≡ ((p.negated && list_any (named_by p) a) || excluded c a)
one_more_excluded p c [] h = when p.negated
  where
    when : (b : Bool) → false ≡ ((b && false) || false)
    when true = refl
    when false = refl
one_more_excluded p c (q ∷ a) h =
    ap (λ b. b || excluded (p ∷ c) a) (split_negated p (named_by p q) (under c q) (none_else p c q h))
    ∙ ap (λ b. ((p.negated && named_by p q) || is_negated (under c q)) || b) (one_more_excluded p c a h)
    ∙ regrouped p.negated (named_by p q) (is_negated (under c q)) (list_any (named_by p) a) (excluded c a)

split_plain : (p : Pred) (n : Bool) (u : Option Pred) → (n ≡ true → u ≡ None) → cond (is_plain (cond n (Some p) u)) 1 0 ≡ cond p.negated 0 (cond n 1 0) + cond (is_plain u) 1 0
split_plain p true u h = when p.negated ∙ ap (λ o. cond p.negated 0 1 + cond (is_plain o) 1 0) (sym (h refl))
  where
    when : (b : Bool) → cond (not b) 1 0 ≡ cond b 0 1 + 0
    when true = refl
    when false = refl
split_plain p false u h = when p.negated (cond (is_plain u) 1 0)
  where
    when : (b : Bool) (n : ℕ) → n ≡ cond b 0 0 + n
    when true n = omega arith
    when false n = omega arith

gathered : (b : Bool) (n m : ℕ) → cond b 0 n + cond b 0 m ≡ cond b 0 (n + m)
gathered true n m = refl
gathered false n m = refl

nothing_asked : (b : Bool) → 0 ≡ cond b 0 0 + 0
nothing_asked true = refl
nothing_asked false = refl

pub one_more_asked : (p : Pred) (c : List Pred) (a : List (Attr × List ℕ)) → list_any (λ (r : Pred). same_attr r.attr p.attr) c ≡ false → asked (p ∷ c) a ≡ cond p.negated 0 (count_by (named_by p) a) + asked c a
one_more_asked p c [] h = nothing_asked p.negated
one_more_asked p c (q ∷ a) h =
    let head = split_plain p (named_by p q) (under c q) (none_else p c q h) in
    let tail = one_more_asked p c a h in
    let all = counted (λ r. is_plain (under (p ∷ c) r)) q a in
    let named = ap (cond p.negated 0) (counted (named_by p) q a) in
    let rest = counted (λ r. is_plain (under c r)) q a in
    let both = gathered p.negated (cond (named_by p q) 1 0) (count_by (named_by p) a) in
    omega (arith, head, tail, all, named, rest, both)

no_other : (p : Pred) (q : Attr × List ℕ) (a : List (Attr × List ℕ)) → list_any (λ (r : Attr × List ℕ). same_attr r.0 q.0) a ≡ false → same_attr q.0 p.attr ≡ true → list_any (named_by p) a ≡ false
no_other p q [] h e = refl
no_other p q (r ∷ a) h e =
    elim (cases_Bool (named_by p r)) [
      | inl n ↦ absurd (false≢true (sym (or_left (same_attr r.0 q.0) (list_any (λ (o : Attr × List ℕ). same_attr o.0 q.0) a) h)
          ∙ met (number_of r.0) (number_of q.0) (number_of p.attr)
          (turned (number_of r.0) (number_of p.attr) ∙ left (same_attr p.attr r.0) (list_any (λ v. bytes_eq v r.1) p.values) n) e))
      | inr n ↦ ap (λ b. b || list_any (named_by p) a) n ∙ no_other p q a (or_right (same_attr r.0 q.0) (list_any (λ (o : Attr × List ℕ). same_attr o.0 q.0) a) h) e
    ]

none_counted : {X : Type 0} (f : X → Bool) (xs : List X) → list_any f xs ≡ false → count_by f xs ≡ 0
none_counted f [] h = refl
none_counted f (x ∷ xs) h =
    let first : cond (f x) 1 0 ≡ 0 = ap (λ b. cond {A = ℕ} b 1 0) (or_left (f x) (list_any f xs) h) in
    let rest : count_by f xs ≡ 0 = none_counted f xs (or_right (f x) (list_any f xs) h) in
    omega (arith, counted f x xs, first, rest)

-- whether the predicate lists what was found
abbrev listed : Pred → Option (Attr × List ℕ) → Bool
listed p o = option_map_or (λ x. list_any (λ v. bytes_eq v x) p.values) (option_map (λ (r : Attr × List ℕ). r.1) o) false

alike : (b l : Bool) → b ≡ true → (b && l) ≡ l
alike true l h = refl
alike false l h = absurd (false≢true h)

unlike : (b l : Bool) → b ≡ false → (b && l) ≡ false
unlike true l h = absurd (false≢true (sym h))
unlike false l h = refl

or_none : (b : Bool) → (b || false) ≡ b
or_none true = refl
or_none false = refl

-- the first pair is of the predicate's attribute, and so no other is
named_first : (p : Pred) (q : Attr × List ℕ) → same_attr q.0 p.attr ≡ true → named_by p q ≡ list_any (λ v. bytes_eq v q.1) p.values
named_first p q e = alike (same_attr p.attr q.0) (list_any (λ v. bytes_eq v q.1) p.values) (turned (number_of p.attr) (number_of q.0) ∙ e)

not_named : (p : Pred) (q : Attr × List ℕ) → same_attr q.0 p.attr ≡ false → named_by p q ≡ false
not_named p q e = unlike (same_attr p.attr q.0) (list_any (λ v. bytes_eq v q.1) p.values) (turned (number_of p.attr) (number_of q.0) ∙ e)

in_first : (p : Pred) (q : Attr × List ℕ) (a : List (Attr × List ℕ)) → same_attr q.0 p.attr ≡ true → is_in (q ∷ a) p ≡ list_any (λ v. bytes_eq v q.1) p.values
in_first p q a e = ap (λ b. listed p (cond b (Some q) (find (λ (r : Attr × List ℕ). same_attr r.0 p.attr) a))) e

in_later : (p : Pred) (q : Attr × List ℕ) (a : List (Attr × List ℕ)) → same_attr q.0 p.attr ≡ false → is_in (q ∷ a) p ≡ is_in a p
in_later p q a e = ap (λ b. listed p (cond b (Some q) (find (λ (r : Attr × List ℕ). same_attr r.0 p.attr) a))) e

first_single : (q : Attr × List ℕ) (a : List (Attr × List ℕ)) → are_single (q ∷ a) ≡ true → list_any (λ (r : Attr × List ℕ). same_attr r.0 q.0) a ≡ false
first_single q a s = not_false (list_any (λ (r : Attr × List ℕ). same_attr r.0 q.0) a) (left (not (list_any (λ (r : Attr × List ℕ). same_attr r.0 q.0) a)) (are_single a) s)

later_single : (q : Attr × List ℕ) (a : List (Attr × List ℕ)) → are_single (q ∷ a) ≡ true → are_single a ≡ true
later_single q a s = right (not (list_any (λ (r : Attr × List ℕ). same_attr r.0 q.0) a)) (are_single a) s

-- at most one pair is named by a predicate
pub in_some : (p : Pred) (a : List (Attr × List ℕ)) → are_single a ≡ true → list_any (named_by p) a ≡ is_in a p
in_some p [] s = refl
in_some p (q ∷ a) s =
    elim (cases_Bool (same_attr q.0 p.attr)) [
      | inl e ↦ ap (λ b. named_by p q || b) (no_other p q a (first_single q a s) e) ∙ or_none (named_by p q) ∙ named_first p q e ∙ sym (in_first p q a e)
      | inr e ↦ ap (λ b. b || list_any (named_by p) a) (not_named p q e) ∙ in_some p a (later_single q a s) ∙ sym (in_later p q a e)
    ]

pub in_once : (p : Pred) (a : List (Attr × List ℕ)) → are_single a ≡ true → count_by (named_by p) a ≡ cond (is_in a p) 1 0
in_once p [] s = refl
in_once p (q ∷ a) s =
    elim (cases_Bool (same_attr q.0 p.attr)) [
      | inl e ↦
          let none : count_by (named_by p) a ≡ 0 = none_counted (named_by p) a (no_other p q a (first_single q a s) e) in
          let first : cond (named_by p q) 1 0 ≡ cond (is_in (q ∷ a) p) 1 0 = ap (λ b. cond {A = ℕ} b 1 0) (named_first p q e ∙ sym (in_first p q a e)) in
          omega (arith, counted (named_by p) q a, none, first)
      | inr e ↦
          let none : cond (named_by p q) 1 0 ≡ 0 = ap (λ b. cond {A = ℕ} b 1 0) (not_named p q e) in
          let later : count_by (named_by p) a ≡ cond (is_in a p) 1 0 = in_once p a (later_single q a s) in
          let same : cond (is_in (q ∷ a) p) 1 0 ≡ cond (is_in a p) 1 0 = ap (λ b. cond {A = ℕ} b 1 0) (in_later p q a e) in
          omega (arith, counted (named_by p) q a, none, later, same)
    ]

pub first_apart : (p : Pred) (c : List Pred) → are_apart (p ∷ c) ≡ true → list_any (λ (r : Pred). same_attr r.attr p.attr) c ≡ false
first_apart p c h = not_false (list_any (λ (r : Pred). same_attr r.attr p.attr) c) (left (not (list_any (λ (r : Pred). same_attr r.attr p.attr) c)) (are_apart c) h)

pub later_apart : (p : Pred) (c : List Pred) → are_apart (p ∷ c) ≡ true → are_apart c ≡ true
later_apart p c h = right (not (list_any (λ (r : Pred). same_attr r.attr p.attr) c)) (are_apart c) h

step : (p : Pred) (c : List Pred) (a : List (Attr × List ℕ)) → are_apart (p ∷ c) ≡ true → are_single a ≡ true → asked (p ∷ c) a ≡ cond p.negated 0 (cond (is_in a p) 1 0) + asked c a
step p c a h s = one_more_asked p c a (first_apart p c h) ∙ ap (λ n. cond p.negated 0 n + asked c a) (in_once p a s)

at_most : (b i : Bool) → cond b 0 (cond i 1 0) ≤ cond (not b) 1 0
at_most true i = omega arith
at_most false true = omega arith
at_most false false = omega arith

none_at_all : (a : List (Attr × List ℕ)) → asked [] a ≡ 0
none_at_all [] = refl
none_at_all (q ∷ a) = omega (arith, counted (λ r. is_plain (under [] r)) q a, none_at_all a)

pub few_asked : (c : List Pred) (a : List (Attr × List ℕ)) → are_apart c ≡ true → are_single a ≡ true → asked c a ≤ size_of c
few_asked [] a h s = omega (arith, none_at_all a)
few_asked (p ∷ c) a h s =
    let later : asked c a ≤ size_of c = few_asked c a (later_apart p c h) s in
    omega (arith, later, step p c a h s, at_most p.negated (is_in a p), counted (λ (r : Pred). not r.negated) p c)

not_excluded : (a : List (Attr × List ℕ)) → excluded [] a ≡ false
not_excluded [] = refl
not_excluded (q ∷ a) = not_excluded a

decided : (neg i e : Bool) (size size' n n' : ℕ) → n ≤ size → size' ≡ cond (not neg) 1 0 + size → n' ≡ cond neg 0 (cond i 1 0) + n
    → (cond neg (not i) i && (not e && nat_le size n)) ≡ (not ((neg && i) || e) && nat_le size' n')
decided true true e size size' n n' le es en = refl
decided true false e size size' n n' le es en = ap (λ b. not e && b) (same size size' n n' es en)
  where
    same : (size size' n n' : ℕ) → size' ≡ 0 + size → n' ≡ 0 + n → nat_le size n ≡ nat_le size' n'
    same size size' n n' es en = grind (arith, nat_tests)
decided false true e size size' n n' le es en = ap (λ b. not e && b) (same size size' n n' es en)
  where
    same : (size size' n n' : ℕ) → size' ≡ 1 + size → n' ≡ 1 + n → nat_le size n ≡ nat_le size' n'
    same size size' n n' es en = grind (arith, nat_tests)
decided false false e size size' n n' le es en = sym (ap (λ b. not e && b) (short size size' n n' le es en) ∙ never e)
  where
    short : (size size' n n' : ℕ) → n ≤ size → size' ≡ 1 + size → n' ≡ 0 + n → nat_le size' n' ≡ false
    short size size' n n' le es en = grind (arith, nat_tests)

    never : (e : Bool) → (not e && false) ≡ false
    never true = refl
    never false = refl

-- a conjunction is true exactly where no pair excludes it and as many pairs ask for it as it has size
pub true_where : (c : List Pred) (a : List (Attr × List ℕ)) → are_apart c ≡ true → are_single a ≡ true → conjunction_holds a c ≡ (not (excluded c a) && nat_le (size_of c) (asked c a))
true_where [] a h s = sym (ap (λ b. not b && nat_le 0 (asked [] a)) (not_excluded a) ∙ ap (nat_le 0) (none_at_all a))
true_where (p ∷ c) a h s =
    let few : asked c a ≤ size_of c = few_asked c a (later_apart p c h) s in
    let out : excluded (p ∷ c) a ≡ ((p.negated && is_in a p) || excluded c a) = one_more_excluded p c a (first_apart p c h) ∙ ap (λ b. (p.negated && b) || excluded c a) (in_some p a s) in
    ap (λ b. pred_holds a p && b) (true_where c a (later_apart p c h) s)
    ∙ decided p.negated (is_in a p) (excluded c a) (size_of c) (size_of (p ∷ c)) (asked c a) (asked (p ∷ c) a) few (counted (λ (r : Pred). not r.negated) p c) (step p c a h s)
    ∙ ap (λ b. not b && nat_le (size_of (p ∷ c)) (asked (p ∷ c) a)) (sym out)
