-- What is kept is true where what is written is.
use Rattle.std.proofs.Common.{◌≡◌, ℕ, ◌+◌, ◌<◌, List, [], ◌∷◌, ◌++◌, length, get_or, take, length-take, length-append, append_assoc, ltb, nat_eq, Bool, true, false, ◌&&◌, ◌||◌, not, cond, Option, Some, None, is_none, option_map, find, inl, inr, refl, sym, ◌∙◌, ap, arith}
use Rattle.std.specs.List.{list_all, list_any, cons_option, enumerate_from, flat_map}
use Rattle.std.specs.Option.{option_map_or}
use Rattle.std.specs.Str.{bytes_eq}
use Rattle.std.specs.Cmp.Lexicographic.{bytes_decides}
use Rattle.std.proofs.lemmas.Bool.{and_parts, and_from, false_from_ne_true, not-true, not_from_false, or_left, or_right, or_cases, both_ways}
use Rattle.std.proofs.Math.Bool.{and-true}
use Rattle.std.proofs.lemmas.List.Folds.{list_any_at}
use Rattle.std.proofs.lemmas.List.{get_or-take, get_or_at}
use Rattle.std.specs.Cmp.Derive.{one_truth}
use Rattle.target_expr.proofs.Attributes.{in_table, own}
use Rattle.rtb_num.proofs.Plain.{both_nil}
use Rattle.target_expr.specs.declared.attr.Attr.{Attr}
use Rattle.target_expr.specs.declared.pred.Pred.{Pred}
use Rattle.target_expr.specs.declared.pred.RawPred.{RawPred}
use Rattle.target_expr.specs.declared.fault.ExprFault.TheVariants.{NoConjunction, EmptyList, AttrTwice, TooMany, UnknownAttr}
use Rattle.target_expr.specs.Attributes.{attributes, name_of, attr_named}
use Rattle.target_expr.specs.Truth.{conjunction_holds, holds, pred_holds, value_at}
use Rattle.target_expr.specs.Written.{written_holds, written_pred_holds}
use Rattle.target_expr.specs.Kept.{conjunction_faults, fault_where, faults, in_order, is_too_much, keep, keep_at, keep_conjunction, keep_in, keep_pred, pred_faults}
use Rattle.target_expr.proofs.ByteOrder.{Has, has_in_order, in_order_has}
use Rattle.target_expr.proofs.Keeping.{is_of, where_false}

-- ---- the values

any_from_has : (p : List ℕ → Bool) (xs : List (List ℕ)) (z : List ℕ) → Has z xs → p z ≡ true → list_any p xs ≡ true
any_from_has p [] z h passes = absurd h
any_from_has p (x ∷ xs) z (inl e) passes = or_left (p x) (list_any p xs) (ap p (sym e) ∙ passes)
any_from_has p (x ∷ xs) z (inr h) passes = or_right (p x) (list_any p xs) (any_from_has p xs z h passes)

has_from_any : (p : List ℕ → Bool) (xs : List (List ℕ)) → list_any p xs ≡ true → (z : List ℕ) × (Has z xs × (p z ≡ true))
has_from_any p [] e = absurd (both_ways false refl e)
has_from_any p (x ∷ xs) e = elim (or_cases (p x) (list_any p xs) e) [
  | inl f ↦ (x, (inl refl, f))
  | inr f ↦ let (z, (h, g)) = has_from_any p xs f in (z, (inr h, g))
]

-- a text is one of the values where it is one of those that are kept
same_any : (p : List ℕ → Bool) (vs : List (List ℕ)) → list_any p (in_order vs) ≡ list_any p vs
same_any p vs = one_truth _ _
    (λ e. let (z, (h, g)) = has_from_any p (in_order vs) e in any_from_has p vs z (has_in_order vs z h) g)
    (λ e. let (z, (h, g)) = has_from_any p vs e in any_from_has p (in_order vs) z (in_order_has vs z h) g)

-- the predicate as it is written
abbrev as_written : Attr → RawPred → Pred
as_written a q = record { attr = a; negated = q.negated; values = q.values }

same_in : (o : Option (List ℕ)) (vs : List (List ℕ)) → option_map_or (λ x. list_any (λ v. bytes_eq v x) (in_order vs)) o false ≡ option_map_or (λ x. list_any (λ v. bytes_eq v x) vs) o false
same_in None vs = refl
same_in (Some x) vs = same_any (λ v. bytes_eq v x) vs

same_pred : (pairs : List (Attr × List ℕ)) (a : Attr) (q : RawPred) → pred_holds pairs (keep_pred a q) ≡ pred_holds pairs (as_written a q)
same_pred pairs a q = ap (λ b. cond q.negated (not b) b) (same_in (value_at pairs a) q.values)

-- ---- one predicate among the attributes

found_name : (t : List ℕ) (attrs : List Attr) (b : Attr) → find (λ a. bytes_eq (name_of a) t) attrs ≡ Some b → name_of b ≡ t
found_name t [] b e = cc
found_name t (a ∷ attrs) b e =
    elim (bytes_eq (name_of a) t) as (λ k. bytes_eq (name_of a) t ≡ k → cond k (Some a) (find (λ a. bytes_eq (name_of a) t) attrs) ≡ Some b → name_of b ≡ t) [
      | true ↦ λ same f. let one : a ≡ b = cc in ap name_of (sym one) ∙ (bytes_decides (name_of a) t).0 same
      | false ↦ λ same f. found_name t attrs b f
    ] refl e

own_is : (test : Attr → Bool) (t : List ℕ) (o : Option Attr) → attr_named t ≡ o → is_none o ≡ false → own test t attributes ≡ option_map_or test o false
own_is test t None e known = cc
own_is test t (Some b) e known = ap (λ s. own test s attributes) (sym (found_name t attributes b e)) ∙ (in_table b).named test

-- ---- one predicate more

-- none of these has the name
abbrev is_fresh : List ℕ → List RawPred → Bool
is_fresh t c = list_all (λ (p : RawPred). not (bytes_eq t p.attr)) c

no_other : (a : Attr) (t : List ℕ) (c : List RawPred) → t ≡ name_of a → is_fresh t c ≡ true → find (is_of a) c ≡ None
no_other a t [] e fresh = refl
no_other a t (p ∷ c) e fresh =
    let parts = and_parts (not (bytes_eq t p.attr)) (is_fresh t c) fresh in
    let apart : bytes_eq p.attr (name_of a) ≡ false = false_from_ne_true _ (λ f.
    let same : t ≡ p.attr = e ∙ sym ((bytes_decides p.attr (name_of a)).0 f) in
    both_ways (bytes_eq t p.attr) (not-true _ parts.0) ((bytes_decides t p.attr).1 same)) in
    ap (λ b. cond b (Some p) (find (is_of a) c)) apart ∙ no_other a t c e parts.1

four : (a b c d : Bool) → ((a && b) && (c && d)) ≡ ((a && c) && (b && d))
four true true c d = refl
four true false true d = refl
four true false false d = refl
four false b c d = refl

-- what a predicate of a fresh name adds at one attribute
add_at : (P : Pred → Bool) (a : Attr) (q : RawPred) (o : Option RawPred) (b : Bool) → (b ≡ true → o ≡ None)
    → list_all P (cons_option (option_map (keep_pred a) (cond b (Some q) o)) []) ≡ ((not b || P (keep_pred a q)) && list_all P (cons_option (option_map (keep_pred a) o) []))
add_at P a q o true none = ap (λ p. P (keep_pred a q) && list_all P (cons_option (option_map (keep_pred a) p) [])) (sym (none refl))
add_at P a q o false none = refl

split_cons : (P : Pred → Bool) (o : Option Pred) (ps : List Pred) → list_all P (cons_option o ps) ≡ (list_all P (cons_option o []) && list_all P ps)
split_cons P None ps = refl
split_cons P (Some p) ps = ap (λ b. b && list_all P ps) (sym (and-true (P p)))

add_all : (P : Pred → Bool) (q : RawPred) (c : List RawPred) (attrs : List Attr) → is_fresh q.attr c ≡ true
    → list_all P (keep_in (q ∷ c) attrs) ≡ (own (λ a. P (keep_pred a q)) q.attr attrs && list_all P (keep_in c attrs))
add_all P q c [] fresh = refl
add_all P q c (a ∷ attrs) fresh =
    split_cons P (keep_at (q ∷ c) a) (keep_in (q ∷ c) attrs)
    ∙ ap (λ b. b && list_all P (keep_in (q ∷ c) attrs)) (add_at P a q (find (is_of a) c) (is_of a q) (λ e. no_other a q.attr c ((bytes_decides q.attr (name_of a)).0 e) fresh))
    ∙ ap (λ b. ((not (is_of a q) || P (keep_pred a q)) && list_all P (cons_option (keep_at c a) [])) && b) (add_all P q c attrs fresh)
    ∙ four (not (is_of a q) || P (keep_pred a q)) (list_all P (cons_option (keep_at c a) [])) (own (λ a. P (keep_pred a q)) q.attr attrs) (list_all P (keep_in c attrs))
    ∙ ap (λ b. ((not (is_of a q) || P (keep_pred a q)) && own (λ a. P (keep_pred a q)) q.attr attrs) && b) (sym (split_cons P (keep_at c a) (keep_in c attrs)))

-- ---- conjunctions

-- every name is an attribute's, and none stands twice
abbrev are_apart : List RawPred → Bool
are_apart [] = true
are_apart (q ∷ c) = not (is_none (attr_named q.attr)) && is_fresh q.attr c && are_apart c

same_option : (pairs : List (Attr × List ℕ)) (q : RawPred) (o : Option Attr) → option_map_or (λ a. pred_holds pairs (keep_pred a q)) o false ≡ option_map_or (λ a. pred_holds pairs (as_written a q)) o false
same_option pairs q None = refl
same_option pairs q (Some a) = same_pred pairs a q

same_conjunction : (pairs : List (Attr × List ℕ)) (c : List RawPred) → are_apart c ≡ true → conjunction_holds pairs (keep_conjunction c) ≡ list_all (written_pred_holds pairs) c
same_conjunction pairs [] apart = refl
same_conjunction pairs (q ∷ c) apart =
    let parts = and_parts (not (is_none (attr_named q.attr)) && is_fresh q.attr c) (are_apart c) apart in
    let first = and_parts (not (is_none (attr_named q.attr))) (is_fresh q.attr c) parts.0 in
    add_all (pred_holds pairs) q c attributes first.1
    ∙ ap (λ b. b && list_all (pred_holds pairs) (keep_in c attributes))
    (own_is (λ a. pred_holds pairs (keep_pred a q)) q.attr (attr_named q.attr) refl (not-true _ first.0) ∙ same_option pairs q (attr_named q.attr))
    ∙ ap (λ b. written_pred_holds pairs q && b) (same_conjunction pairs c parts.1)

-- ---- what has no fault

fresh_from : (i : ℕ) (whole : List RawPred) (q : RawPred) (m : ℕ) → m < length whole → get_or whole m q ≡ q → (n : ℕ) (c : List RawPred) → m < n
    → flat_map (pred_faults i whole) (enumerate_from n c) ≡ [] → is_fresh q.attr c ≡ true
fresh_from i whole q m within is n [] before e = refl
fresh_from i whole q m within is n (p ∷ c) before e =
    let parts = both_nil (pred_faults i whole (n, p)) (flat_map (pred_faults i whole) (enumerate_from (n + 1) c)) e in
    let last = both_nil _ (fault_where (is_too_much p) (TooMany i n)) parts.0 in
    let third = both_nil _ (fault_where (nat_eq (length p.values) 0) (EmptyList i n)) last.0 in
    let second = both_nil (fault_where (is_none (attr_named p.attr)) (UnknownAttr i n)) (fault_where (list_any (λ (r : RawPred). bytes_eq r.attr p.attr) (take n whole)) (AttrTwice i n)) third.0 in
    let none : list_any (λ (r : RawPred). bytes_eq r.attr p.attr) (take n whole) ≡ false = where_false _ (AttrTwice i n) second.1 in
    let there : m < length (take n whole) = omega (arith, length-take n whole) in
    let differ : bytes_eq q.attr p.attr ≡ false = false_from_ne_true _ (λ f.
    both_ways _ none (list_any_at (λ (r : RawPred). bytes_eq r.attr p.attr) (take n whole) m q there
    (ap (λ (r : RawPred). bytes_eq r.attr p.attr) (get_or-take n whole m q before ∙ is) ∙ f))) in
    and_from _ _ (not_from_false _ differ) (fresh_from i whole q m within is (n + 1) c (omega arith) parts.1)

apart_from : (i : ℕ) (whole pre c : List RawPred) (n : ℕ) → whole ≡ pre ++ c → length pre ≡ n → flat_map (pred_faults i whole) (enumerate_from n c) ≡ [] → are_apart c ≡ true
apart_from i whole pre [] n is size e = refl
apart_from i whole pre (q ∷ c) n is size e =
    let parts = both_nil (pred_faults i whole (n, q)) (flat_map (pred_faults i whole) (enumerate_from (n + 1) c)) e in
    let last = both_nil _ (fault_where (is_too_much q) (TooMany i n)) parts.0 in
    let third = both_nil _ (fault_where (nat_eq (length q.values) 0) (EmptyList i n)) last.0 in
    let second = both_nil (fault_where (is_none (attr_named q.attr)) (UnknownAttr i n)) (fault_where (list_any (λ (r : RawPred). bytes_eq r.attr q.attr) (take n whole)) (AttrTwice i n)) third.0 in
    let known : is_none (attr_named q.attr) ≡ false = where_false _ (UnknownAttr i n) second.0 in
    let here : get_or whole n q ≡ q = ap (λ l. get_or l n q) is ∙ get_or_at pre q c q n size in
    let within : n < length whole = omega (arith, ap length is, length-append pre (q ∷ c), size) in
    let longer : length (pre ++ q ∷ []) ≡ n + 1 = omega (arith, length-append pre (q ∷ []), size) in
    and_from _ _ (and_from _ _ (not_from_false _ known) (fresh_from i whole q n within here (n + 1) c (omega arith) parts.1))
    (apart_from i whole (pre ++ q ∷ []) c (n + 1) (is ∙ sym (append_assoc pre (q ∷ []) c)) longer parts.1)

conjunction_means : (pairs : List (Attr × List ℕ)) (i : ℕ) (c : List RawPred) → conjunction_faults (i, c) ≡ [] → conjunction_holds pairs (keep_conjunction c) ≡ list_all (written_pred_holds pairs) c
conjunction_means pairs i c e =
    let parts = both_nil (fault_where (ltb 16 (length c)) (TooMany i 0)) (flat_map (pred_faults i c) (enumerate_from 0 c)) e in
    same_conjunction pairs c (apart_from i c [] c 0 refl refl parts.1)

conjunctions_mean : (pairs : List (Attr × List ℕ)) (n : ℕ) (raw : List (List RawPred)) → flat_map conjunction_faults (enumerate_from n raw) ≡ [] → holds pairs (keep raw) ≡ written_holds pairs raw
conjunctions_mean pairs n [] e = refl
conjunctions_mean pairs n (c ∷ raw) e =
    let parts = both_nil (conjunction_faults (n, c)) (flat_map conjunction_faults (enumerate_from (n + 1) raw)) e in
    ap (λ b. b || holds pairs (keep raw)) (conjunction_means pairs n c parts.0) ∙ ap (λ b. list_all (written_pred_holds pairs) c || b) (conjunctions_mean pairs (n + 1) raw parts.1)

pub kept_means : (raw : List (List RawPred)) (pairs : List (Attr × List ℕ)) → faults raw ≡ [] → holds pairs (keep raw) ≡ written_holds pairs raw
kept_means raw pairs e =
    conjunctions_mean pairs 0 raw (both_nil (fault_where (nat_eq (length raw) 0) NoConjunction ++ fault_where (ltb 64 (length raw)) (TooMany 0 0)) (flat_map conjunction_faults (enumerate_from 0 raw)) e).1
