-- The pairs of campaigns, with one campaign more.
use Rattle.std.proofs.Common.{◌≡◌, ℕ, zero, suc, ◌+◌, ◌^◌, ◌≤◌, ◌<◌, max, List, [], ◌∷◌, ◌++◌, All, length, map, take, drop, get_or, refl, sym, ◌∙◌, ap, subst, arith}
use Rattle.std.specs.List.{enumerate_from, flat_map}
use Rattle.std.proofs.lemmas.List.{length-append, length-map, map-append, take-append-drop}
use Rattle.std.proofs.lemmas.List.Concat.{flat_map-append}
use Rattle.std.proofs.lemmas.List.Elements.{All-append, All-map, All-nil, All-weaker}
use Rattle.std.proofs.lemmas.List.Folds.{length-flat_map-take}
use Rattle.target_expr.specs.declared.pred.Pred.{Pred}
use Rattle.target_expr.specs.declared.pred.Pair.{Pair}
use Rattle.target_expr.specs.Pairs.{conjunction_pairs, pairs_by, pairs_of, pred_pairs, size_of, sizes_of}
use Rattle.conj_index.specs.Campaigns.{Campaigns, conjunctions_in, expression_of}
use Rattle.conj_index.specs.Growing.{greatest, shift}
use Rattle.conj_index.proofs.BuildLoops.{enumerate_from-append, expression_more}

-- ---- conjunctions counted from another number

shift_values : (first n s : ℕ) (p : Pred) (vs : List (List ℕ)) → map (shift first) (pairs_by n s p vs) ≡ pairs_by (first + n) s p vs
shift_values first n s p [] = refl
shift_values first n s p (v ∷ vs) = ap (λ l. record { conjunction = first + n; size = s; attr = p.attr; negated = p.negated; value = v } ∷ l) (shift_values first n s p vs)

shift_preds : (first n s : ℕ) (c : List Pred) → map (shift first) (flat_map (pred_pairs n s) c) ≡ flat_map (pred_pairs (first + n) s) c
shift_preds first n s [] = refl
shift_preds first n s (p ∷ c) =
    map-append (shift first) (pred_pairs n s p) (flat_map (pred_pairs n s) c)
    ∙ ap (λ l. l ++ map (shift first) (flat_map (pred_pairs n s) c)) (shift_values first n s p p.values)
    ∙ ap (λ l. pred_pairs (first + n) s p ++ l) (shift_preds first n s c)

shift_all : (first n : ℕ) (e : List (List Pred)) → map (shift first) (flat_map conjunction_pairs (enumerate_from n e)) ≡ flat_map conjunction_pairs (enumerate_from (first + n) e)
shift_all first n [] = refl
shift_all first n (c ∷ e) =
    let next : first + (n + 1) ≡ first + n + 1 = omega arith in
    map-append (shift first) (conjunction_pairs (n, c)) (flat_map conjunction_pairs (enumerate_from (n + 1) e))
    ∙ ap (λ l. l ++ map (shift first) (flat_map conjunction_pairs (enumerate_from (n + 1) e))) (shift_preds first n (size_of c) c)
    ∙ ap (λ l. conjunction_pairs (first + n, c) ++ l) (shift_all first (n + 1) e ∙ ap (λ m. flat_map conjunction_pairs (enumerate_from m e)) next)

pairs_append : (d e : List (List Pred)) → pairs_of (d ++ e) ≡ pairs_of d ++ map (shift (length d)) (pairs_of e)
pairs_append d e =
    let here : 0 + length d ≡ length d + 0 = omega arith in
    ap (flat_map conjunction_pairs) (enumerate_from-append 0 d e)
    ∙ flat_map-append conjunction_pairs (enumerate_from 0 d) (enumerate_from (0 + length d) e)
    ∙ ap (λ l. pairs_of d ++ l) (ap (λ m. flat_map conjunction_pairs (enumerate_from m e)) here ∙ sym (shift_all (length d) 0 e))

-- ---- one campaign more

pub pairs_more : (added : Campaigns) (i : ℕ) (p : ℕ × List (List Pred)) → i < length added
    → pairs_of (expression_of (take (i + 1) added)) ≡ pairs_of (expression_of (take i added)) ++ map (shift (conjunctions_in (take i added))) (pairs_of (get_or added i p).1)
pairs_more added i p h = ap pairs_of (expression_more added i p h) ∙ pairs_append (expression_of (take i added)) ((get_or added i p).1)

pub conjunctions_up : (added : Campaigns) (i : ℕ) (p : ℕ × List (List Pred)) → i < length added
    → conjunctions_in (take i added) + length ((get_or added i p).1) ≤ conjunctions_in added
conjunctions_up added i p h = length-flat_map-take (λ (q : ℕ × List (List Pred)). q.1) added i p h

pub conjunctions_next : (added : Campaigns) (i : ℕ) (p : ℕ × List (List Pred)) → i < length added
    → conjunctions_in (take (i + 1) added) ≡ conjunctions_in (take i added) + length ((get_or added i p).1)
conjunctions_next added i p h = ap length (expression_more added i p h) ∙ length-append (expression_of (take i added)) ((get_or added i p).1)

pub pairs_next : (added : Campaigns) (i : ℕ) (p : ℕ × List (List Pred)) → i < length added
    → length (pairs_of (expression_of (take (i + 1) added))) ≡ length (pairs_of (expression_of (take i added))) + length (pairs_of (get_or added i p).1)
pairs_next added i p h =
    ap length (pairs_more added i p h)
    ∙ length-append (pairs_of (expression_of (take i added))) (map (shift (conjunctions_in (take i added))) (pairs_of (get_or added i p).1))
    ∙ ap (λ n. length (pairs_of (expression_of (take i added))) + n) (length-map (pairs_of (get_or added i p).1) (shift (conjunctions_in (take i added))))

pairs_front : (added : Campaigns) (j : ℕ) → length (pairs_of (expression_of (take j added))) ≤ length (pairs_of (expression_of added))
pairs_front added j =
    let whole : pairs_of (expression_of added) ≡ pairs_of (expression_of (take j added)) ++ map (shift (conjunctions_in (take j added))) (pairs_of (expression_of (drop j added))) =
    ap (λ (l : Campaigns). pairs_of (expression_of l)) (sym (take-append-drop j added))
    ∙ ap pairs_of (flat_map-append (λ (q : ℕ × List (List Pred)). q.1) (take j added) (drop j added))
    ∙ pairs_append (expression_of (take j added)) (expression_of (drop j added)) in
    omega (arith, ap length whole, length-append (pairs_of (expression_of (take j added))) (map (shift (conjunctions_in (take j added))) (pairs_of (expression_of (drop j added)))))

pub pairs_up : (added : Campaigns) (i : ℕ) (p : ℕ × List (List Pred)) → i < length added
    → length (pairs_of (expression_of (take i added))) + length (pairs_of (get_or added i p).1) ≤ length (pairs_of (expression_of added))
pairs_up added i p h = omega (arith, pairs_next added i p h, pairs_front added (i + 1))

-- ---- sizes and numbers of the pairs

pub greatest_append : (xs ys : List ℕ) → greatest (xs ++ ys) ≡ max (greatest xs) (greatest ys)
greatest_append [] ys = omega arith
greatest_append (x ∷ xs) ys = omega (arith, greatest_append xs ys)

greatest_within : (added : Campaigns) (i : ℕ) (p : ℕ × List (List Pred)) → i < length added → greatest (sizes_of (get_or added i p).1) ≤ greatest (sizes_of (expression_of added))
greatest_within [] i p h = absurd (omega arith)
greatest_within (q ∷ added) zero p h =
    omega (arith, ap greatest (map-append size_of q.1 (expression_of added)), greatest_append (sizes_of q.1) (sizes_of (expression_of added)))
greatest_within (q ∷ added) (suc i) p h =
    omega (arith, ap greatest (map-append size_of q.1 (expression_of added)), greatest_append (sizes_of q.1) (sizes_of (expression_of added)), greatest_within added i p (omega arith))

-- the size of the pair's conjunction is below m, and its number is below t
abbrev IsBelow : ℕ → ℕ → Pair → Type 0
IsBelow m t q = (q.size < m) × (q.conjunction < t)

preds_below : (m t n s : ℕ) (c : List Pred) → s < m → n < t → All (IsBelow m t) (flat_map (pred_pairs n s) c)
preds_below m t n s [] size number = All-nil (IsBelow m t)
preds_below m t n s (p ∷ c) size number =
    All-append (IsBelow m t) (pred_pairs n s p) (flat_map (pred_pairs n s) c)
    (All-map (IsBelow m t) (λ (v : List ℕ). record { conjunction = n; size = s; attr = p.attr; negated = p.negated; value = v }) p.values (λ k d h. (size, number)))
    (preds_below m t n s c size number)

all_below : (m t n : ℕ) (e : List (List Pred)) → greatest (sizes_of e) < m → n + length e ≤ t → All (IsBelow m t) (flat_map conjunction_pairs (enumerate_from n e))
all_below m t n [] size number = All-nil (IsBelow m t)
all_below m t n (c ∷ e) size number =
    All-append (IsBelow m t) (conjunction_pairs (n, c)) (flat_map conjunction_pairs (enumerate_from (n + 1) e))
    (preds_below m t n (size_of c) c (omega arith) (omega arith))
    (all_below m t (n + 1) e (omega arith) (omega arith))

-- the pairs of a campaign may be entered
pub pairs_fit : (added : Campaigns) (i : ℕ) (p : ℕ × List (List Pred)) (m first : ℕ) (pairs : List Pair) → i < length added → p ≡ get_or added i p
    → greatest (sizes_of (expression_of added)) < m → conjunctions_in added ≤ 1000000 → first ≡ conjunctions_in (take i added) → pairs ≡ pairs_of p.1
    → All (λ (q : Pair). (q.size < m) × (first + q.conjunction < 2 ^ 32)) pairs
pairs_fit added i p m first pairs h is size few at same =
    let Q : Pair → Type 0 = λ (q : Pair). (q.size < m) × (first + q.conjunction < 2 ^ 32) in
    let up : first + length p.1 ≤ 1000000 = omega (arith, conjunctions_up added i p h, at, few, ap (λ (q : ℕ × List (List Pred)). length q.1) is) in
    let small : greatest (sizes_of p.1) < m = omega (arith, greatest_within added i p h, size, ap (λ (q : ℕ × List (List Pred)). greatest (sizes_of q.1)) is) in
    subst (All Q) (sym same)
    (All-weaker (IsBelow m (length p.1)) Q (λ (q : Pair) b. (b.0, omega (arith, up, b.1))) (pairs_of p.1) (all_below m (length p.1) 0 p.1 small (omega arith)))
