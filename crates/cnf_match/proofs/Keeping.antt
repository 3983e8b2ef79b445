-- What is kept of clauses and weights without a fault.
use Rattle.std.proofs.Common.{◌≡◌, ℕ, ◌+◌, ◌<◌, ◌≤◌, List, [], ◌∷◌, ◌++◌, ◌||◌, length, get_or, take, map, Bool, true, false, cond, Option, Some, None, is_none, option_map, refl, ◌∙◌, ap, arith, zero, suc, ltb, leb, nat_eq}
use Rattle.std.specs.List.{list_all, list_any, enumerate_from, flat_map, filter_map, cons_option}
use Rattle.std.proofs.lemmas.Bool.{and_from, and_parts, or_parts, lt-ltb, ltb-false, ltb-true, le-leb, leb-true}
use Rattle.std.proofs.lemmas.List.{length-map, length-take-le}
use Rattle.rtb_num.proofs.Plain.{both_nil}
use Rattle.target_expr.proofs.Enumerated.{length_enumerated}
use Rattle.target_expr.proofs.Keeping.{fine_kept, is_fine, not_false}
use Rattle.target_expr.proofs.Limits.{sum_within}
use Rattle.target_expr.specs.declared.attr.Attr.{Attr}
use Rattle.target_expr.specs.declared.pred.Pred.{Pred}
use Rattle.target_expr.specs.declared.pred.RawPred.{RawPred}
use Rattle.target_expr.specs.Attributes.{attr_named}
use Rattle.target_expr.specs.Kept.{is_kept_pred, is_too_much, keep_pred}
use Rattle.cnf_match.specs.declared.fault.CnfFault.{CnfFault}
use Rattle.cnf_match.specs.declared.fault.CnfFault.TheVariants as fault
use Rattle.cnf_match.specs.declared.weight.RawWeight.{RawWeight}
use Rattle.cnf_match.specs.declared.weight.Weight.{Weight}
use Rattle.cnf_match.specs.Conjunctive.{are_kept_clauses, are_kept_weights, is_kept_clause, is_weighed, score_of}
use Rattle.cnf_match.specs.Making.{clause_faults, clauses_faults, fault_where, is_refused, is_wrong, keep_clause, kept_weight, pred_faults, same_pair, weight_fault, weight_faults}

where_false : (b : Bool) (f : CnfFault) → fault_where b f ≡ [] → b ≡ false
where_false true f e = cc
where_false false f e = refl

-- ---- a clause

pred_fine : (i n : ℕ) (p : RawPred) → pred_faults i (n, p) ≡ [] → (is_none (attr_named p.attr) ≡ false) × (is_fine p ≡ true)
pred_fine i n p e =
    let last = both_nil _ (fault_where (is_too_much p) (fault.TooMany i n)) e in
    let first = both_nil _ (fault_where (nat_eq (length p.values) 0) (fault.EmptyList i n)) last.0 in (
      where_false _ (fault.UnknownAttr i n) first.0,
      and_from _ _ (not_false _ (where_false _ (fault.EmptyList i n) first.1)) (not_false _ (where_false _ (fault.TooMany i n) last.1)),
    )

-- a predicate that has an attribute is kept in front of the others
kept_in_front : (p : RawPred) (ps : List Pred) (o : Option Attr) → is_none o ≡ false → is_fine p ≡ true → list_all is_kept_pred ps ≡ true
    → (list_all is_kept_pred (cons_option (option_map (λ a. keep_pred a p) o) ps) ≡ true) × (length (cons_option (option_map (λ a. keep_pred a p) o) ps) ≡ suc (length ps))
kept_in_front p ps None some fine all = cc
kept_in_front p ps (Some a) some fine all = (and_from (is_kept_pred (keep_pred a p)) (list_all is_kept_pred ps) (fine_kept a p fine) all, refl)

preds_kept : (i n : ℕ) (c : List RawPred) → flat_map (pred_faults i) (enumerate_from n c) ≡ [] → (list_all is_kept_pred (keep_clause c) ≡ true) × (length (keep_clause c) ≡ length c)
preds_kept i n [] e = (refl, refl)
preds_kept i n (p ∷ c) e =
    let parts = both_nil (pred_faults i (n, p)) (flat_map (pred_faults i) (enumerate_from (n + 1) c)) e in
    let fine = pred_fine i n p parts.0 in
    let rest = preds_kept i (n + 1) c parts.1 in
    let whole = kept_in_front p (keep_clause c) (attr_named p.attr) fine.0 fine.1 rest.0 in
    (whole.0, whole.1 ∙ ap suc rest.1)

some_preds : (n : ℕ) → nat_eq n 0 ≡ false → 0 < n
some_preds zero e = cc
some_preds (suc n) e = omega arith

clause_kept : (i : ℕ) (c : List RawPred) → clause_faults (i, c) ≡ [] → is_kept_clause (keep_clause c) ≡ true
clause_kept i c e =
    let parts = both_nil (fault_where (nat_eq (length c) 0) (fault.EmptyClause i) ++ fault_where (ltb 16 (length c)) (fault.TooMany i 0)) (flat_map (pred_faults i) (enumerate_from 0 c)) e in
    let limits = both_nil (fault_where (nat_eq (length c) 0) (fault.EmptyClause i)) (fault_where (ltb 16 (length c)) (fault.TooMany i 0)) parts.0 in
    let kept = preds_kept i 0 c parts.1 in
    let most : length c ≤ 16 = ltb-false 16 (length c) (where_false _ (fault.TooMany i 0) limits.1) in
    let some : 0 < length c = some_preds (length c) (where_false _ (fault.EmptyClause i) limits.0) in
    and_from _ _ (and_from _ _ (lt-ltb 0 (length (keep_clause c)) (omega (arith, kept.1))) (le-leb (length (keep_clause c)) 16 (omega (arith, kept.1)))) kept.0

clauses_pass : (n : ℕ) (raw : List (List RawPred)) → flat_map clause_faults (enumerate_from n raw) ≡ [] → list_all is_kept_clause (map keep_clause raw) ≡ true
clauses_pass n [] e = refl
clauses_pass n (c ∷ raw) e =
    let parts = both_nil (clause_faults (n, c)) (flat_map clause_faults (enumerate_from (n + 1) raw)) e in
    and_from (is_kept_clause (keep_clause c)) (list_all is_kept_clause (map keep_clause raw)) (clause_kept n c parts.0) (clauses_pass (n + 1) raw parts.1)

pub clauses_kept : (raw : List (List RawPred)) → clauses_faults raw ≡ [] → are_kept_clauses (map keep_clause raw) ≡ true
clauses_kept raw e =
    let parts = both_nil (fault_where (ltb 16 (length raw)) (fault.TooMany 0 0)) (flat_map clause_faults (enumerate_from 0 raw)) e in
    let most : length raw ≤ 16 = ltb-false 16 (length raw) (where_false _ (fault.TooMany 0 0) parts.0) in
    and_from _ _ (le-leb (length (map keep_clause raw)) 16 (omega (arith, length-map raw keep_clause))) (clauses_pass 0 raw parts.1)

-- ---- the weights

abbrev is_light : Weight → Bool
is_light w = leb w.weight 1000000

right : (ws : List RawWeight) (n : ℕ) (w : RawWeight) → weight_fault ws (n, w) ≡ [] → is_refused w ≡ false
right ws n w e = (or_parts _ _ (or_parts _ _ (where_false _ (fault.Weight n) e)).0).1

light : (w : RawWeight) → is_refused w ≡ false → w.weight ≤ 1000000
light w e = ltb-false 1000000 w.weight (or_parts _ _ e).1

weight_in_front : (w : RawWeight) (ks : List Weight) (o : Option Attr) (n : ℕ) → w.weight ≤ 1000000 → list_all is_light ks ≡ true → length ks ≤ n
    → (list_all is_light (cons_option (option_map (λ a. record { attr = a; value = w.value; weight = w.weight }) o) ks) ≡ true)
    × (length (cons_option (option_map (λ a. record { attr = a; value = w.value; weight = w.weight }) o) ks) ≤ suc n)
weight_in_front w ks None n most all few = (all, omega arith)
weight_in_front w ks (Some a) n most all few = (and_from _ (list_all is_light ks) (le-leb w.weight 1000000 most) all, omega arith)

weights_pass : (whole ws : List RawWeight) (n : ℕ) → flat_map (weight_fault whole) (enumerate_from n ws) ≡ [] → (list_all is_light (filter_map kept_weight ws) ≡ true) × (length (filter_map kept_weight ws) ≤ length ws)
weights_pass whole [] n e = (refl, omega arith)
weights_pass whole (w ∷ ws) n e =
    let parts = both_nil (weight_fault whole (n, w)) (flat_map (weight_fault whole) (enumerate_from (n + 1) ws)) e in
    let rest = weights_pass whole ws (n + 1) parts.1 in
    weight_in_front w (filter_map kept_weight ws) (attr_named w.attr) (length ws) (light w (right whole n w parts.0)) rest.0 rest.1

-- behind 64 weights each is wrong
one_too_many : (earlier : List RawWeight) (w : RawWeight) → length earlier ≡ 64 → is_wrong earlier w ≡ true
one_too_many earlier w h = ap (λ n. (nat_eq n 64 || is_refused w) || list_any (λ v. same_pair v w) earlier) h

few_weights : (ws : List RawWeight) → weight_faults ws ≡ [] → length ws ≤ 64
few_weights [] e = omega arith
few_weights (d ∷ ws) e =
    let whole : List RawWeight = d ∷ ws in
    let by : (b : Bool) → ltb 64 (length whole) ≡ b → length whole ≤ 64 =
    λ b. elim b as (λ b. ltb 64 (length whole) ≡ b → length whole ≤ 64) [
      | true ↦ λ t.
          let within : 64 < length whole = ltb-true 64 (length whole) t in
          let full : length (take 64 whole) ≡ 64 = length-take-le 64 whole (omega arith) in
          let one : length (weight_fault whole (64, get_or whole 64 d)) ≡ 1 =
          ap (λ b. length (fault_where b (fault.Weight 64))) (one_too_many (take 64 whole) (get_or whole 64 d) full) in
          absurd (omega (arith, length_enumerated (weight_fault whole) whole 64 d within, one, ap length e))
      | false ↦ λ f. ltb-false 64 (length whole) f
    ] in
    by (ltb 64 (length whole)) refl

pub weights_kept : (ws : List RawWeight) → weight_faults ws ≡ [] → are_kept_weights (filter_map kept_weight ws) ≡ true
weights_kept ws e =
    let pass = weights_pass ws ws 0 e in
    and_from _ _ (le-leb (length (filter_map kept_weight ws)) 64 (omega (arith, pass.1, few_weights ws e))) pass.0

-- ---- the score

weighs_little : (pairs : List (Attr × List ℕ)) (w : Weight) → is_light w ≡ true → cond (is_weighed pairs w) w.weight 0 ≤ 1000000
weighs_little pairs w e =
    let most : w.weight ≤ 1000000 = leb-true w.weight 1000000 e in
    elim (is_weighed pairs w) as (λ b. cond b w.weight 0 ≤ 1000000) [
      | true ↦ most
      | false ↦ omega arith
    ]

pub score_most : (pairs : List (Attr × List ℕ)) (ws : List Weight) → are_kept_weights ws ≡ true → score_of pairs ws ≤ 64000000
score_most pairs ws e =
    let parts = and_parts (leb (length ws) 64) (list_all is_light ws) e in
    let most : length ws ≤ 64 = leb-true (length ws) 64 parts.0 in
    let sum = sum_within is_light (λ (w : Weight). cond (is_weighed pairs w) w.weight 0) 1000000 (weighs_little pairs) ws parts.1 in
    omega (arith, sum)
