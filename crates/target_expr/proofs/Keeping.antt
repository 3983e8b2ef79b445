-- What is kept of predicates without a fault.
use Rattle.std.proofs.Common.{◌≡◌, ℕ, ◌+◌, ◌<◌, ◌≤◌, List, [], ◌∷◌, ◌++◌, length, get_or, take, Bool, true, false, ◌&&◌, not, cond, Option, Some, None, option_map, find, sum_by, refl, sym, ◌∙◌, ap, arith, zero, suc, ltb, leb, nat_eq}
use Rattle.std.specs.List.{list_all, list_any, cons_option, enumerate_from, flat_map}
use Rattle.std.specs.Str.{bytes_eq}
use Rattle.std.specs.Cmp.Lexicographic.{bytes_decides}
use Rattle.std.proofs.lemmas.Bool.{and_from, and_parts, or_parts, lt-ltb, ltb-false, le-leb, not-true}
use Rattle.std.proofs.lemmas.List.{take_more, length-map}
use Rattle.std.proofs.lemmas.List.Elements.{filter_map-append}
use Rattle.std.proofs.lemmas.List.Sums.{sum_by-cons}
use Rattle.rtb_num.proofs.Plain.{both_nil}
use Rattle.target_expr.specs.declared.attr.Attr.{Attr}
use Rattle.target_expr.specs.declared.pred.Pred.{Pred}
use Rattle.target_expr.specs.declared.pred.RawPred.{RawPred}
use Rattle.target_expr.specs.declared.fault.ExprFault.{ExprFault}
use Rattle.target_expr.specs.declared.fault.ExprFault.TheVariants.{NoConjunction, EmptyList, TooMany}
use Rattle.target_expr.specs.Attributes.{attributes, name_of, number_of}
use Rattle.target_expr.specs.Kept.{attr_below, conjunction_faults, fault_where, faults, in_order, is_kept, is_kept_conjunction, is_kept_pred, is_too_much, keep, keep_at, keep_conjunction, keep_in, keep_pred, pred_faults, rise}
use Rattle.target_expr.proofs.ByteOrder.{all_from_has, has_in_order, has_passes, length_in_order, rise_from_up, some_in_order, up_in_order}

pub kept_more : (c : List RawPred) (attrs : List Attr) (i : ℕ) (d : Attr) → i < length attrs → keep_in c (take (i + 1) attrs) ≡ keep_in c (take i attrs) ++ keep_in c (get_or attrs i d ∷ [])
kept_more c attrs i d h = ap (keep_in c) (take_more attrs i d h) ∙ filter_map-append (keep_at c) (take i attrs) (get_or attrs i d ∷ [])

pub where_false : (b : Bool) (f : ExprFault) → fault_where b f ≡ [] → b ≡ false
where_false true f e = cc
where_false false f e = refl

-- ---- a predicate

-- its values are listed and within the limits
abbrev pub is_fine : RawPred → Bool
is_fine q = not (nat_eq (length q.values) 0) && not (is_too_much q)

pub not_false : (b : Bool) → b ≡ false → not b ≡ true
not_false b e = ap not e

pred_fine : (i n : ℕ) (c : List RawPred) (q : RawPred) → pred_faults i c (n, q) ≡ [] → is_fine q ≡ true
pred_fine i n c q e =
    let last = both_nil _ (fault_where (is_too_much q) (TooMany i n)) e in
    let third = both_nil _ (fault_where (nat_eq (length q.values) 0) (EmptyList i n)) last.0 in
    and_from _ _ (not_false _ (where_false _ (EmptyList i n) third.1)) (not_false _ (where_false _ (TooMany i n) last.1))

preds_fine : (i n : ℕ) (whole c : List RawPred) → flat_map (pred_faults i whole) (enumerate_from n c) ≡ [] → list_all is_fine c ≡ true
preds_fine i n whole [] e = refl
preds_fine i n whole (q ∷ c) e =
    let parts = both_nil (pred_faults i whole (n, q)) (flat_map (pred_faults i whole) (enumerate_from (n + 1) c)) e in
    and_from (is_fine q) (list_all is_fine c) (pred_fine i n whole q parts.0) (preds_fine i (n + 1) whole c parts.1)

none_long : (vs : List (List ℕ)) → list_any (λ v. ltb 255 (length v)) vs ≡ false → list_all (λ v. leb (length v) 255) vs ≡ true
none_long [] e = refl
none_long (v ∷ vs) e =
    let parts = or_parts (ltb 255 (length v)) (list_any (λ v. ltb 255 (length v)) vs) e in
    and_from (leb (length v) 255) (list_all (λ v. leb (length v) 255) vs) (le-leb (length v) 255 (ltb-false 255 (length v) parts.0)) (none_long vs parts.1)

pub some_values : (n : ℕ) → not (nat_eq n 0) ≡ true → 0 < n
some_values zero e = cc
some_values (suc n) e = omega arith

pub fine_kept : (a : Attr) (q : RawPred) → is_fine q ≡ true → is_kept_pred (keep_pred a q) ≡ true
fine_kept a q e =
    let vs = q.values in
    let parts = and_parts (not (nat_eq (length vs) 0)) (not (is_too_much q)) e in
    let within = or_parts (ltb 256 (length vs)) (list_any (λ v. ltb 255 (length v)) vs) (not-true (is_too_much q) parts.1) in
    let most : length vs ≤ 256 = ltb-false 256 (length vs) within.0 in
    let short : list_all (λ (v : List ℕ). leb (length v) 255) vs ≡ true = none_long vs within.1 in
    and_from _ _ (and_from _ _ (and_from _ _
    (lt-ltb 0 (length (in_order vs)) (some_in_order vs (some_values (length vs) parts.0)))
    (le-leb (length (in_order vs)) 256 (omega (arith, length_in_order vs))))
    (all_from_has (λ v. leb (length v) 255) (in_order vs) (λ z h. has_passes (λ v. leb (length v) 255) vs short z (has_in_order vs z h))))
    (rise_from_up (in_order vs) (up_in_order vs))

-- ---- the predicates of a conjunction

found_passes : (test good : RawPred → Bool) (c : List RawPred) (q : RawPred) → find test c ≡ Some q → list_all good c ≡ true → good q ≡ true
found_passes test good [] q e all = cc
found_passes test good (x ∷ c) q e all =
    let parts = and_parts (good x) (list_all good c) all in
    elim (test x) as (λ b. cond b (Some x) (find test c) ≡ Some q → good q ≡ true) [
      | true ↦ λ f. let same : x ≡ q = cc in ap good (sym same) ∙ parts.0
      | false ↦ λ f. found_passes test good c q f parts.1
    ] e

all_with : (p : Pred → Bool) (a : Attr) (o : Option RawPred) (ps : List Pred) → ((q : RawPred) → o ≡ Some q → p (keep_pred a q) ≡ true) → list_all p ps ≡ true → list_all p (cons_option (option_map (keep_pred a) o) ps) ≡ true
all_with p a None ps h all = all
all_with p a (Some q) ps h all = and_from (p (keep_pred a q)) (list_all p ps) (h q refl) all

abbrev pub is_of : Attr → RawPred → Bool
is_of a p = bytes_eq p.attr (name_of a)

all_kept : (c : List RawPred) (attrs : List Attr) → list_all is_fine c ≡ true → list_all is_kept_pred (keep_in c attrs) ≡ true
all_kept c [] fine = refl
all_kept c (a ∷ attrs) fine =
    all_with is_kept_pred a (find (is_of a) c) (keep_in c attrs) (λ q e. fine_kept a q (found_passes (is_of a) is_fine c q e fine)) (all_kept c attrs fine)

-- ---- their order

-- each number is below all behind it
abbrev climb : List Attr → Bool
climb [] = true
climb (a ∷ attrs) = list_all (λ b. ltb (number_of a) (number_of b)) attrs && climb attrs

above_all : (c : List RawPred) (n : ℕ) (attrs : List Attr) → list_all (λ b. ltb n (number_of b)) attrs ≡ true → list_all (λ (p : Pred). ltb n (number_of p.attr)) (keep_in c attrs) ≡ true
above_all c n [] e = refl
above_all c n (a ∷ attrs) e =
    let parts = and_parts (ltb n (number_of a)) (list_all (λ b. ltb n (number_of b)) attrs) e in
    all_with (λ (p : Pred). ltb n (number_of p.attr)) a (find (is_of a) c) (keep_in c attrs) (λ q f. parts.0) (above_all c n attrs parts.1)

rise_on : (p : Pred) (ps : List Pred) → list_all (attr_below p) ps ≡ true → rise attr_below ps ≡ true → rise attr_below (p ∷ ps) ≡ true
rise_on p [] all e = refl
rise_on p (q ∷ ps) all e = and_from (attr_below p q) (rise attr_below (q ∷ ps)) (and_parts (attr_below p q) (list_all (attr_below p) ps) all).0 e

rise_with : (a : Attr) (o : Option RawPred) (ps : List Pred) → list_all (λ (p : Pred). ltb (number_of a) (number_of p.attr)) ps ≡ true → rise attr_below ps ≡ true → rise attr_below (cons_option (option_map (keep_pred a) o) ps) ≡ true
rise_with a None ps all e = e
rise_with a (Some q) ps all e = rise_on (keep_pred a q) ps all e

rises : (c : List RawPred) (attrs : List Attr) → climb attrs ≡ true → rise attr_below (keep_in c attrs) ≡ true
rises c [] e = refl
rises c (a ∷ attrs) e =
    let parts = and_parts (list_all (λ b. ltb (number_of a) (number_of b)) attrs) (climb attrs) e in
    rise_with a (find (is_of a) c) (keep_in c attrs) (above_all c (number_of a) attrs parts.0) (rises c attrs parts.1)

-- ---- how many there are

-- no name twice
abbrev differ : List Attr → Bool
differ [] = true
differ (a ∷ attrs) = not (list_any (λ b. bytes_eq (name_of a) (name_of b)) attrs) && differ attrs

-- how many of these have the name
abbrev having : List ℕ → List Attr → ℕ
having t attrs = sum_by (λ a. cond (bytes_eq t (name_of a)) 1 0) attrs

having_next : (t : List ℕ) (a : Attr) (attrs : List Attr) → having t (a ∷ attrs) ≡ cond (bytes_eq t (name_of a)) 1 0 + having t attrs
having_next t a attrs = sum_by-cons (λ a. cond (bytes_eq t (name_of a)) 1 0) a attrs

none_having : (t : List ℕ) (attrs : List Attr) → list_any (λ b. bytes_eq t (name_of b)) attrs ≡ false → having t attrs ≡ 0
none_having t [] e = refl
none_having t (a ∷ attrs) e =
    let parts = or_parts (bytes_eq t (name_of a)) (list_any (λ b. bytes_eq t (name_of b)) attrs) e in
    let rest : having t attrs ≡ 0 = none_having t attrs parts.1 in
    let head : cond (bytes_eq t (name_of a)) 1 0 ≡ 0 = ap {B = ℕ} (λ b. cond b 1 0) parts.0 in
    having_next t a attrs ∙ omega (arith, head, rest)

one_having : (t : List ℕ) (attrs : List Attr) → differ attrs ≡ true → having t attrs ≤ 1
one_having t [] e = omega arith
one_having t (a ∷ attrs) e =
    let parts = and_parts (not (list_any (λ b. bytes_eq (name_of a) (name_of b)) attrs)) (differ attrs) e in
    let rest : having t attrs ≤ 1 = one_having t attrs parts.1 in
    let step : having t (a ∷ attrs) ≡ cond (bytes_eq t (name_of a)) 1 0 + having t attrs = having_next t a attrs in
    elim (bytes_eq t (name_of a)) as (λ b. bytes_eq t (name_of a) ≡ b → having t (a ∷ attrs) ≤ 1) [
      | true ↦ λ f.
          let same : t ≡ name_of a = (bytes_decides t (name_of a)).0 f in
          let none : having t attrs ≡ 0 = none_having t attrs (ap (λ s. list_any (λ b. bytes_eq s (name_of b)) attrs) same ∙ not-true _ parts.0) in
          let head : cond (bytes_eq t (name_of a)) 1 0 ≡ 1 = ap {B = ℕ} (λ b. cond b 1 0) f in omega (arith, head, step)
      | false ↦ λ f. let head : cond (bytes_eq t (name_of a)) 1 0 ≡ 0 = ap {B = ℕ} (λ b. cond b 1 0) f in omega (arith, head, step)
    ] refl

length_with : (a : Attr) (b : Bool) (q : RawPred) (o : Option RawPred) (ps qs : List Pred) (n : ℕ) → length ps ≤ n + length qs
    → length (cons_option (option_map (keep_pred a) (cond b (Some q) o)) ps) ≤ cond b 1 0 + n + length (cons_option (option_map (keep_pred a) o) qs)
length_with a true q None ps qs n le = omega arith
length_with a true q (Some r) ps qs n le = omega arith
length_with a false q None ps qs n le = omega arith
length_with a false q (Some r) ps qs n le = omega arith

-- one predicate more gives at most one more for each attribute of its name
length_one_more : (q : RawPred) (c : List RawPred) (attrs : List Attr) → length (keep_in (q ∷ c) attrs) ≤ having q.attr attrs + length (keep_in c attrs)
length_one_more q c [] = omega arith
length_one_more q c (a ∷ attrs) =
    let rest : length (keep_in (q ∷ c) attrs) ≤ having q.attr attrs + length (keep_in c attrs) = length_one_more q c attrs in
    omega (
      arith,
      length_with a (bytes_eq q.attr (name_of a)) q (find (is_of a) c) (keep_in (q ∷ c) attrs) (keep_in c attrs) (having q.attr attrs) rest,
      having_next q.attr a attrs,
    )

length_none : (attrs : List Attr) → length (keep_in [] attrs) ≡ 0
length_none [] = refl
length_none (a ∷ attrs) = length_none attrs

length_kept : (c : List RawPred) (attrs : List Attr) → differ attrs ≡ true → length (keep_in c attrs) ≤ length c
length_kept [] attrs e = omega (arith, length_none attrs)
length_kept (q ∷ c) attrs e = omega (arith, length_one_more q c attrs, one_having q.attr attrs e, length_kept c attrs e)

-- ---- the whole

conjunction_kept : (i : ℕ) (c : List RawPred) → conjunction_faults (i, c) ≡ [] → is_kept_conjunction (keep_conjunction c) ≡ true
conjunction_kept i c e =
    let parts = both_nil (fault_where (ltb 16 (length c)) (TooMany i 0)) (flat_map (pred_faults i c) (enumerate_from 0 c)) e in
    let most : length c ≤ 16 = ltb-false 16 (length c) (where_false _ (TooMany i 0) parts.0) in
    and_from _ _ (and_from _ _
    (le-leb (length (keep_conjunction c)) 16 (omega (arith, length_kept c attributes refl)))
    (all_kept c attributes (preds_fine i 0 c c parts.1)))
    (rises c attributes refl)

conjunctions_kept : (n : ℕ) (raw : List (List RawPred)) → flat_map conjunction_faults (enumerate_from n raw) ≡ [] → list_all is_kept_conjunction (keep raw) ≡ true
conjunctions_kept n [] e = refl
conjunctions_kept n (c ∷ raw) e =
    let parts = both_nil (conjunction_faults (n, c)) (flat_map conjunction_faults (enumerate_from (n + 1) raw)) e in
    and_from (is_kept_conjunction (keep_conjunction c)) (list_all is_kept_conjunction (keep raw)) (conjunction_kept n c parts.0) (conjunctions_kept (n + 1) raw parts.1)

-- what has no fault is kept within the limits
pub kept_is : (raw : List (List RawPred)) → faults raw ≡ [] → is_kept (keep raw) ≡ true
kept_is raw e =
    let parts = both_nil (fault_where (nat_eq (length raw) 0) NoConjunction ++ fault_where (ltb 64 (length raw)) (TooMany 0 0)) (flat_map conjunction_faults (enumerate_from 0 raw)) e in
    let limits = both_nil (fault_where (nat_eq (length raw) 0) NoConjunction) (fault_where (ltb 64 (length raw)) (TooMany 0 0)) parts.0 in
    let most : length raw ≤ 64 = ltb-false 64 (length raw) (where_false _ (TooMany 0 0) limits.1) in
    let some : 0 < length raw = some_values (length raw) (not_false _ (where_false _ NoConjunction limits.0)) in
    and_from _ _ (and_from _ _
    (lt-ltb 0 (length (keep raw)) (omega (arith, length-map raw keep_conjunction)))
    (le-leb (length (keep raw)) 64 (omega (arith, length-map raw keep_conjunction))))
    (conjunctions_kept 0 raw parts.1)
