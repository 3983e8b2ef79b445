-- Something is left of each count of an expression exactly where the expression is true.
use Rattle.std.proofs.Common.{◌≡◌, ℕ, zero, suc, ◌+◌, ◌-◌, ◌*◌, ◌<◌, ◌≤◌, ◌&&◌, ◌||◌, not, nat_lt, nat_le, List, [], ◌∷◌, ◌++◌, Bool, true, false, cond, Option, Some, None, IsTrue, All, count_by, drop, length, length-drop, get_or, map, replicate, slice_get, take, refl, sym, ◌∙◌, ap, subst, arith}
use Rattle.std.specs.List.{flat_map, fold, list_all, list_any}
use Rattle.std.specs.Option.{option_map_or}
use Rattle.std.proofs.lemmas.Bool.{and_parts, le-leb, leb-true}
use Rattle.std.proofs.lemmas.Bool.Decides.{nat_tests}
use Rattle.std.proofs.lemmas.List.{get_or-append_right, get_or-drop, get_or-replicate, get_or-take, get_or_append_left, length-append, length-map, length-replicate, length-take}
use Rattle.std.proofs.lemmas.List.Elements.{All-head, All-tail}
use Rattle.std.proofs.lemmas.List.Sums.{count_by-le-length}
use Rattle.std.proofs.lemmas.Option.{same_Some, slice_get_within}
use Rattle.target_expr.specs.declared.attr.Attr.{Attr}
use Rattle.target_expr.specs.declared.pred.Pred.{Pred}
use Rattle.target_expr.specs.Kept.{is_kept_pred}
use Rattle.target_expr.specs.Truth.{are_single, is_in, pred_holds}
use Rattle.cnf_match.specs.declared.index.Entry.{Entry}
use Rattle.cnf_match.specs.Conjunctive.{Cnf, are_kept_clauses, clause_holds, clauses_hold, is_kept_clause}
use Rattle.cnf_match.specs.Content.{AreKept, all_negated, negated_in, negated_of}
use Rattle.cnf_match.specs.Searching.{is_left, mark_all}
use Rattle.cnf_match.proofs.Hits.{entries_for, found_hits, true_ins}
use Rattle.cnf_match.proofs.Marks.{above, hits, length-mark_all, mark_at, marks_at}
use Rattle.cnf_match.proofs.Single.{counted}

abbrev Pairs : Type 0
Pairs = List (Attr × List ℕ)

none_some : {X : Type 0} (x : X) → None ≡ Some x → ⊥
none_some x e = cc

-- ---- a clause

few_negated : (a : Pairs) (c : List Pred) → true_ins true a c ≤ negated_in c
few_negated a [] = omega arith
few_negated a (p ∷ c) =
    let first : cond (is_in a p && p.negated) 1 0 ≤ cond p.negated 1 0 = by (is_in a p) p.negated in
    omega (arith, counted (λ (r : Pred). is_in a r && r.negated) p c, counted (λ (r : Pred). r.negated) p c, first, few_negated a c)
  where
    by : (t n : Bool) → cond (t && n) 1 0 ≤ cond n 1 0
    by true n = omega arith
    by false true = omega arith
    by false false = omega arith

both_more : (p h m : ℕ) → (nat_lt 0 (0 + p) || nat_lt (1 + h) (1 + m)) ≡ (nat_lt 0 p || nat_lt h m)
both_more p h m = grind (arith, nat_tests)

none_more : (p h m : ℕ) → (nat_lt 0 (0 + p) || nat_lt (0 + h) (0 + m)) ≡ (nat_lt 0 p || nat_lt h m)
none_more p h m = grind (arith, nat_tests)

one_false : (p h m : ℕ) → h ≤ m → (nat_lt 0 (0 + p) || nat_lt (0 + h) (1 + m)) ≡ true
one_false p h m few = grind (arith, nat_tests, few)

one_true : (p h m : ℕ) → (nat_lt 0 (1 + p) || nat_lt h m) ≡ true
one_true p h m = grind (arith, nat_tests)

clause_left : (a : Pairs) (c : List Pred) → (nat_lt 0 (true_ins false a c) || nat_lt (true_ins true a c) (negated_in c)) ≡ clause_holds a c
clause_left a [] = refl
clause_left a (p ∷ c) =
    ap (λ n. nat_lt 0 n || nat_lt (true_ins true a (p ∷ c)) (negated_in (p ∷ c))) (counted (λ (r : Pred). is_in a r && not r.negated) p c)
    ∙ ap (λ n. nat_lt 0 (cond (is_in a p && not p.negated) 1 0 + true_ins false a c) || nat_lt n (negated_in (p ∷ c))) (counted (λ (r : Pred). is_in a r && r.negated) p c)
    ∙ ap (λ n. nat_lt 0 (cond (is_in a p && not p.negated) 1 0 + true_ins false a c) || nat_lt (cond (is_in a p && p.negated) 1 0 + true_ins true a c) n) (counted (λ (r : Pred). r.negated) p c)
    ∙ by p.negated (is_in a p) (true_ins false a c) (true_ins true a c) (negated_in c) (few_negated a c)
    ∙ ap (λ b. pred_holds a p || b) (clause_left a c)
  where
    by : (n t : Bool) (q h m : ℕ) → h ≤ m
        → (nat_lt 0 (cond (t && not n) 1 0 + q) || nat_lt (cond (t && n) 1 0 + h) (cond n 1 0 + m)) ≡ (cond n (not t) t || (nat_lt 0 q || nat_lt h m))
    by true true q h m few = both_more q h m
    by true false q h m few = one_false q h m few
    by false true q h m few = one_true q (0 + h) (0 + m)
    by false false q h m few = none_more q h m

-- ---- what was counted

count_length : (e : Cnf) → length (negated_of e) ≡ 16
count_length e = omega (
  arith,
  length-take 16 (map negated_in e.clauses ++ replicate 16 1),
  length-append (map negated_in e.clauses) (replicate 16 1),
  length-replicate {A = ℕ} 16 1,
)

pub counts_length : (es : List Cnf) → length (flat_map negated_of es) ≡ length es * 16
counts_length [] = refl
counts_length (e ∷ es) = omega (arith, length-append (negated_of e) (flat_map negated_of es), count_length e, counts_length es)

all_length : (es : List Cnf) → length (all_negated es) ≡ length es * 16
unfolding all_negated
all_length es = counts_length es

counts_at : (es : List Cnf) (n i : ℕ) (e : Cnf) → slice_get es n ≡ Some e → i < 16 → get_or (flat_map negated_of es) (n * 16 + i) 0 ≡ get_or (negated_of e) i 0
counts_at [] n i e there within = absurd (none_some e there)
counts_at (x ∷ es) zero i e there within =
    let here : 0 * 16 + i ≡ i = omega arith in
    ap (λ k. get_or (flat_map negated_of (x ∷ es)) k 0) here
    ∙ get_or_append_left (negated_of x) (flat_map negated_of es) 0 i (omega (arith, within, count_length x))
    ∙ ap (λ (y : Cnf). get_or (negated_of y) i 0) (same_Some x e there)
counts_at (x ∷ es) (suc n) i e there within =
    let later : suc n * 16 + i - 16 ≡ n * 16 + i = omega arith in
    get_or-append_right (negated_of x) (flat_map negated_of es) 16 (suc n * 16 + i) 0 (count_length x) (omega arith)
    ∙ ap (λ k. get_or (flat_map negated_of es) k 0) later
    ∙ counts_at es n i e there within

padded : (cs : List (List Pred)) (i r : ℕ) → i < length cs + r → get_or (map negated_in cs ++ replicate r 1) i 0 ≡ option_map_or negated_in (slice_get cs i) 1
padded [] i r within = get_or-replicate r i 1 0 (omega (arith, within))
padded (c ∷ cs) zero r within = refl
padded (c ∷ cs) (suc i) r within = padded cs i r (omega (arith, within))

count_at : (es : List Cnf) (n i : ℕ) (e : Cnf) → slice_get es n ≡ Some e → i < 16 → get_or (all_negated es) (n * 16 + i) 0 ≡ option_map_or negated_in (slice_get e.clauses i) 1
unfolding all_negated
count_at es n i e there within =
    counts_at es n i e there within
    ∙ get_or-take 16 (map negated_in e.clauses ++ replicate 16 1) i 0 within
    ∙ padded e.clauses i 16 (omega (arith, within))

-- ---- what is left

kept_at : (cs : List (List Pred)) (i : ℕ) (c : List Pred) → list_all is_kept_clause cs ≡ true → slice_get cs i ≡ Some c → is_kept_clause c ≡ true
kept_at [] i c kept there = absurd (none_some c there)
kept_at (d ∷ cs) zero c kept there = ap is_kept_clause (sym (same_Some d c there)) ∙ (and_parts (is_kept_clause d) (list_all is_kept_clause cs) kept).0
kept_at (d ∷ cs) (suc i) c kept there = kept_at cs i c (and_parts (is_kept_clause d) (list_all is_kept_clause cs) kept).1 there

pub kept_expression : (es : List Cnf) (n : ℕ) (e : Cnf) → AreKept es → slice_get es n ≡ Some e → are_kept_clauses e.clauses ≡ true
kept_expression [] n e kept there = absurd (none_some e there)
kept_expression (d ∷ es) zero e kept there = ap (λ (x : Cnf). are_kept_clauses x.clauses) (sym (same_Some d e there)) ∙ All-head (λ (x : Cnf). IsTrue (are_kept_clauses x.clauses)) d es kept
kept_expression (d ∷ es) (suc n) e kept there = kept_expression es n e (All-tail (λ (x : Cnf). IsTrue (are_kept_clauses x.clauses)) d es kept) there

few_counted : (cs : List (List Pred)) (i : ℕ) → list_all is_kept_clause cs ≡ true → option_map_or negated_in (slice_get cs i) 1 ≤ 16
few_counted cs i kept = by (slice_get cs i) refl
  where
    by : (o : Option (List Pred)) → slice_get cs i ≡ o → option_map_or negated_in o 1 ≤ 16
    by None is = omega arith
    by (Some c) is =
        let parts = and_parts (nat_lt 0 (length c) && nat_le (length c) 16) (list_all is_kept_pred c) (kept_at cs i c kept is) in
        let few : length c ≤ 16 = leb-true (length c) 16 (and_parts (nat_lt 0 (length c)) (nat_le (length c) 16) parts.0).1 in
        omega (arith, few, count_by-le-length (λ (p : Pred). p.negated) c)

-- a clause that an expression does not have is left as it was
place_left : (a : Pairs) (es : List Cnf) (n i : ℕ) (e : Cnf) → AreKept es → are_single a ≡ true → i < 16 → slice_get es n ≡ Some e
    → nat_lt 0 (get_or (mark_all (all_negated es) (entries_for es a)) (n * 16 + i) 0) ≡ option_map_or (clause_holds a) (slice_get e.clauses i) true
place_left a es n i e kept single within there =
    let k = n * 16 + i in
    let counts = all_negated es in
    let found = entries_for es a in
    let value : get_or counts k 0 ≡ option_map_or negated_in (slice_get e.clauses i) 1 = count_at es n i e there within in
    let clauses = (and_parts (nat_le (length e.clauses) 16) (list_all is_kept_clause e.clauses) (kept_expression es n e kept there)).1 in
    let few : get_or counts k 0 ≤ 254 = omega (arith, value, few_counted e.clauses i clauses) in
    let long : k < length counts = omega (arith, all_length es, slice_get_within es n e there, within) in
    ap (nat_lt 0) (marks_at counts found k long)
    ∙ above k found (get_or counts k 0) few
    ∙ ap (λ v. nat_lt 0 (hits false k found) || nat_lt (hits true k found) v) value
    ∙ ap (λ v. nat_lt 0 v || nat_lt (hits true k found) (option_map_or negated_in (slice_get e.clauses i) 1)) (found_hits false a es n i e kept single within there)
    ∙ ap (λ v. nat_lt 0 (option_map_or (true_ins false a) (slice_get e.clauses i) 0) || nat_lt v (option_map_or negated_in (slice_get e.clauses i) 1)) (found_hits true a es n i e kept single within there)
    ∙ by (slice_get e.clauses i)
  where
    by : (o : Option (List Pred)) → (nat_lt 0 (option_map_or (true_ins false a) o 0) || nat_lt (option_map_or (true_ins true a) o 0) (option_map_or negated_in o 1)) ≡ option_map_or (clause_holds a) o true
    by None = refl
    by (Some c) = clause_left a c

-- a test of all places is a test of all items, where the places behind them pass
by_places : {X : Type 0} (p : ℕ → Bool) (q : X → Bool) (ws : List ℕ) (xs : List X) → length xs ≤ length ws
    → ((i : ℕ) → i < length ws → p (get_or ws i 0) ≡ option_map_or q (slice_get xs i) true) → list_all p ws ≡ list_all q xs
by_places p q [] [] few each = refl
by_places p q [] (x ∷ xs) few each = absurd (omega (arith, few))
by_places p q (w ∷ ws) [] few each =
    ap (λ b. b && list_all p ws) (each 0 (omega arith))
    ∙ by_places p q ws [] (omega arith) (λ i h. each (suc i) (omega (arith, h)))
by_places p q (w ∷ ws) (x ∷ xs) few each =
    ap (λ b. b && list_all p ws) (each 0 (omega arith))
    ∙ ap (λ b. q x && b) (by_places p q ws xs (omega (arith, few)) (λ i h. each (suc i) (omega (arith, h))))

within_tests : (m n : ℕ) → m ≤ n → nat_le m n ≡ true
within_tests m n h = le-leb m n h

pub left_length : (es : List Cnf) (a : Pairs) → length (mark_all (all_negated es) (entries_for es a)) ≡ length es * 16
left_length es a = length-mark_all (all_negated es) (entries_for es a) ∙ all_length es

pub left_is_truth : (a : Pairs) (es : List Cnf) (n : ℕ) (e : Cnf) → AreKept es → are_single a ≡ true → slice_get es n ≡ Some e
    → is_left (mark_all (all_negated es) (entries_for es a)) n ≡ clauses_hold a e.clauses
left_is_truth a es n e kept single there =
    let left = mark_all (all_negated es) (entries_for es a) in
    let window = take 16 (drop (n * 16) left) in
    let long : length left ≡ length es * 16 = left_length es a in
    let below = slice_get_within es n e there in
    let room : n * 16 + 16 ≤ length left = omega (arith, long, below) in
    let wide : length window ≡ 16 = omega (arith, length-take 16 (drop (n * 16) left), length-drop (n * 16) left, room) in
    let few : length e.clauses ≤ 16 = leb-true (length e.clauses) 16 (and_parts (nat_le (length e.clauses) 16) (list_all is_kept_clause e.clauses) (kept_expression es n e kept there)).0 in
    ap (λ b. b && list_all (nat_lt 0) window) (within_tests (n * 16 + 16) (length left) room)
    ∙ by_places (nat_lt 0) (clause_holds a) window e.clauses (omega (arith, few, wide))
    (λ i h.
    let within : i < 16 = omega (arith, h, wide) in
    ap (nat_lt 0) (get_or-take 16 (drop (n * 16) left) i 0 within ∙ get_or-drop (n * 16) left i 0)
    ∙ place_left a es n i e kept single within there)

pub left_there : (left : List ℕ) (n m : ℕ) (b : Bool) → m ≡ 16 → n * 16 + 16 ≤ length left → b ≡ list_all (nat_lt 0) (take m (drop (n * 16) left)) → b ≡ is_left left n
left_there left n m b wide room is =
    is ∙ ap (λ k. list_all (nat_lt 0) (take k (drop (n * 16) left))) wide
    ∙ sym (ap (λ t. t && list_all (nat_lt 0) (take 16 (drop (n * 16) left))) (within_tests (n * 16 + 16) (length left) room))
