-- The ranks that are found, sorted, are the expressions that are true in their order.
use Rattle.std.proofs.Common.{◌≡◌, ℕ, zero, suc, ◌+◌, ◌-◌, ◌<◌, ◌≤◌, ◌==◌, ◌&&◌, ◌||◌, ◌⊎◌, inl, inr, eqb, ltb, nat_lt, List, [], ◌∷◌, ◌++◌, Bool, true, false, cond, Option, Some, None, length, get_or, map, slice_get, take, refl, sym, ◌∙◌, ap, subst, arith}
use Rattle.std.specs.Prelude.{option_map}
use Rattle.std.specs.List.{cons_option, enumerate_from, filter_map, sum_by}
use Rattle.std.specs.List.Sorted.{IsPermutation, IsSorted}
use Rattle.std.specs.Ordering.{is_lt, nat_cmp, ordering_then}
use Rattle.std.specs.declared.cmp.Ordering.{Ordering}
use Rattle.std.specs.declared.cmp.Ordering.TheVariants.{Less, Equal, Greater}
use Rattle.std.proofs.lemmas.Bool.{cases_Bool, cases_eq, eq-eqb, false≢true, ne_eqb}
use Rattle.std.proofs.lemmas.Bool.Decides.{nat_tests}
use Rattle.std.proofs.lemmas.List.Sorted.{Contains-permutation, IsPermutation-map, IsPermutation-sym, sum_by-IsPermutation}
use Rattle.std.proofs.lemmas.List.Sums.{sum_by-cons}
use Rattle.target_expr.specs.declared.attr.Attr.{Attr}
use Rattle.cnf_match.specs.Conjunctive.{Cnf, clauses_hold, score_of}
use Rattle.cnf_match.specs.Find.{true_number, true_under}
use Rattle.cnf_match.proofs.Members.{Has, contains_from_has, has_from_contains}
use Rattle.top_match.specs.declared.rank.Rank.{Rank}
use Rattle.top_match.specs.declared.scored.Scored.{Scored}
use Rattle.top_match.specs.Choosing.{item_at, rank_cmp, scored_at, scored_of}
use Rattle.top_match.specs.Top.{all_scored, in_order, is_before, scored, top_list}
use Rattle.top_match.proofs.Order.{Apart, Ordered, before_on, has_ordered, in_order_ordered, one_order, ordered_has}

abbrev Pairs : Type 0
Pairs = List (Attr × List ℕ)

-- ---- no number stands twice

abbrev times : ℕ → List Scored → ℕ
times k ss = sum_by (λ (s : Scored). cond (s.number == k) 1 0) ss

abbrev Once : List Scored → Type 0
Once ss = (k : ℕ) → times k ss ≤ 1

times_more : (k : ℕ) (s : Scored) (ss : List Scored) → times k (s ∷ ss) ≡ cond (s.number == k) 1 0 + times k ss
times_more k s ss = sum_by-cons (λ (t : Scored). cond (t.number == k) 1 0) s ss

times_has : (k : ℕ) (ss : List Scored) (s : Scored) → Has s ss → s.number ≡ k → 1 ≤ times k ss
times_has k [] s h is = absurd h
times_has k (t ∷ ss) s (inl e) is =
    let here : cond (t.number == k) 1 0 ≡ 1 = ap (λ b. cond {A = ℕ} b 1 0) (eq-eqb t.number k (ap (λ (x : Scored). x.number) (sym e) ∙ is)) in
    omega (arith, times_more k t ss, here)
times_has k (t ∷ ss) s (inr h) is = omega (arith, times_more k t ss, times_has k ss s h is)

once_later : (s : Scored) (ss : List Scored) → Once (s ∷ ss) → Once ss
once_later s ss once k = omega (arith, once k, times_more k s ss)

once_first : (s : Scored) (ss : List Scored) → Once (s ∷ ss) → (t : Scored) → Has t ss → s.number ≡ t.number → ⊥
once_first s ss once t h same =
    let here : cond (s.number == s.number) 1 0 ≡ 1 = ap (λ b. cond {A = ℕ} b 1 0) (eq-eqb s.number s.number refl) in
    absurd (omega (arith, once s.number, times_more s.number s ss, here, times_has s.number ss t h (sym same)))

apart_from_once : (ss : List Scored) → Once ss → Apart ss
apart_from_once [] once = tt
apart_from_once (s ∷ ss) once = (once_first s ss once, apart_from_once ss (once_later s ss once))

-- the expressions that are true are numbered in order
none_below : (a : Pairs) (k n : ℕ) (es : List Cnf) → k < n → times k (filter_map (scored a) (enumerate_from n es)) ≡ 0
none_below a k n [] h = refl
none_below a k n (e ∷ es) h = by (clauses_hold a e.clauses) (none_below a k (n + 1) es (omega (arith, h)))
  where
    rest : List Scored
    rest = filter_map (scored a) (enumerate_from (n + 1) es)

    by : (b : Bool) → times k rest ≡ 0 → times k (cons_option (cond b (Some (record { number = n; score = score_of a e.weights })) None) rest) ≡ 0
    by true later =
        let here : cond (n == k) 1 0 ≡ 0 = ap (λ t. cond {A = ℕ} t 1 0) (ne_eqb n k (λ same. omega (arith, same, h))) in
        omega (arith, times_more k (record { number = n; score = score_of a e.weights }) rest, here, later)
    by false later = later

once_scored : (a : Pairs) (k n : ℕ) (es : List Cnf) → times k (filter_map (scored a) (enumerate_from n es)) ≤ 1
once_scored a k n [] = omega arith
once_scored a k n (e ∷ es) = by (clauses_hold a e.clauses) (once_scored a k (n + 1) es)
  where
    rest : List Scored
    rest = filter_map (scored a) (enumerate_from (n + 1) es)

    here : Scored
    here = record { number = n; score = score_of a e.weights }

    by : (b : Bool) → times k rest ≤ 1 → times k (cons_option (cond b (Some here) None) rest) ≤ 1
    by true later = elim (cases_eq n k) [
      | inl same ↦
          let first : cond (n == k) 1 0 ≤ 1 = one (n == k) in
          let none : times k rest ≡ 0 = none_below a k (n + 1) es (omega (arith, same)) in
          omega (arith, times_more k here rest, first, none)
      | inr other ↦
          let first : cond (n == k) 1 0 ≡ 0 = ap (λ t. cond {A = ℕ} t 1 0) (ne_eqb n k other) in
          omega (arith, times_more k here rest, first, later)
    ]
      where
        one : (t : Bool) → cond t 1 0 ≤ 1
        one true = omega arith
        one false = omega arith
    by false later = later

pub scored_apart : (es : List Cnf) (a : Pairs) → Apart (all_scored es a)
scored_apart es a = apart_from_once (all_scored es a) (λ k. once_scored a k 1 es)

-- ---- sorted ranks

decided : (a b c d : Bool) → is_lt (ordering_then (cond a Less (cond b Equal Greater)) (cond c Less (cond d Equal Greater))) ≡ false → (a ≡ false) × (cond b c false ≡ false)
decided true b c d h = absurd (false≢true (sym h))
decided false true true d h = absurd (false≢true (sym h))
decided false true false d h = (refl, refl)
decided false false c d h = (refl, refl)

-- r is of the score p and the number m, and q, which stands behind it, of v and n
not_later : (p m v n : ℕ) → ltb p v ≡ false → cond (eqb p v) (ltb n m) false ≡ false → (m == n) ≡ false → (nat_lt v p || ((p == v) && nat_lt m n)) ≡ true
not_later p m v n more number other = by (eqb p v) refl number
  where
    by : (b : Bool) → eqb p v ≡ b → cond b (ltb n m) false ≡ false → (nat_lt v p || ((p == v) && nat_lt m n)) ≡ true
    by true e g = grind (arith, nat_tests, more, e, g, other)
    by false e g = grind (arith, nat_tests, more, e)

sorted_first : (r q : Rank) → is_lt (rank_cmp q r) ≡ false → (r.number ≡ q.number → ⊥) → is_before (scored_of r) (scored_of q) ≡ true
sorted_first r q h other =
    let parts = decided (ltb r.score.0 q.score.0) (eqb r.score.0 q.score.0) (ltb q.number r.number) (eqb q.number r.number) h in
    not_later r.score.0 r.number q.score.0 q.number parts.0 parts.1 (ne_eqb r.number q.number other)

sorted_rest : (r : Rank) (rs : List Rank) → IsSorted rank_cmp (r ∷ rs) → IsSorted rank_cmp rs
sorted_rest r rs up k d low high =
    let next : suc k + 1 ≡ suc (k + 1) = omega arith in
    subst (λ m. is_lt (rank_cmp (get_or (r ∷ rs) m d) (get_or rs k d)) ≡ false) next (up (suc k) d (omega arith) (omega (arith, high)))

pub sorted_ordered : (rs : List Rank) → IsSorted rank_cmp rs → Once (map scored_of rs) → Ordered (map scored_of rs)
sorted_ordered [] up once = tt
sorted_ordered (r ∷ []) up once = (λ t k. absurd k, tt)
sorted_ordered (r ∷ q ∷ rs) up once =
    let later = sorted_ordered (q ∷ rs) (sorted_rest r (q ∷ rs) up) (once_later (scored_of r) (map scored_of (q ∷ rs)) once) in
    let next : is_before (scored_of r) (scored_of q) ≡ true = sorted_first r q (up 0 r (omega arith) (omega arith)) (once_first (scored_of r) (map scored_of (q ∷ rs)) once (scored_of q) (inl refl)) in
    (behind next later.0, later)
  where
    behind : is_before (scored_of r) (scored_of q) ≡ true → ((u : Scored) → Has u (map scored_of rs) → is_before (scored_of q) u ≡ true)
        → (u : Scored) → Has u (scored_of q ∷ map scored_of rs) → is_before (scored_of r) u ≡ true
    behind first later u (inl e) = subst (λ (v : Scored). is_before (scored_of r) v ≡ true) (sym e) first
    behind first later u (inr k) = before_on (scored_of r) (scored_of q) u first (later u k)

-- ---- the expressions that are found

none_some : {X : Type 0} (x : X) → None ≡ Some x → ⊥
none_some x e = cc

seen : {X : Type 0} (front : List X) (x : X) (back : List X) (n : ℕ) → n ≡ length front + 1 → item_at (front ++ x ∷ back) n ≡ Some x
seen {X} front x back n is =
    let place : n - 1 ≡ length front = omega (arith, is) in
    ap (λ b. cond b None (slice_get (front ++ x ∷ back) (n - 1))) (ne_eqb n 0 (λ e. omega (arith, is, e)))
    ∙ ap (slice_get (front ++ x ∷ back)) place
    ∙ there front
  where
    there : (front : List X) → slice_get (front ++ x ∷ back) (length front) ≡ Some x
    there [] = refl
    there (y ∷ front) = there front

found_scored : (a : Pairs) (front es : List Cnf) (n : ℕ) → n ≡ length front + 1
    → filter_map (scored_at (front ++ es) a) (filter_map (true_number a) (enumerate_from n es)) ≡ filter_map (scored a) (enumerate_from n es)
found_scored a front [] n is = refl
found_scored a front (e ∷ es) n is =
    by (clauses_hold a e.clauses) (moved (front ++ e ∷ []) (append_one front e es) (found_scored a (front ++ e ∷ []) es (n + 1) (omega (arith, is, length_one front e))))
  where
    whole : List Cnf
    whole = front ++ e ∷ es

    length_one : (front : List Cnf) (e : Cnf) → length (front ++ e ∷ []) ≡ length front + 1
    length_one [] e = refl
    length_one (x ∷ front) e = omega (arith, length_one front e)

    append_one : (front : List Cnf) (e : Cnf) (es : List Cnf) → (front ++ e ∷ []) ++ es ≡ front ++ e ∷ es
    append_one [] e es = refl
    append_one (x ∷ front) e es = ap (λ l. x ∷ l) (append_one front e es)

    numbers : List ℕ
    numbers = filter_map (true_number a) (enumerate_from (n + 1) es)

    moved : (longer : List Cnf) → longer ++ es ≡ whole → filter_map (scored_at (longer ++ es) a) numbers ≡ filter_map (scored a) (enumerate_from (n + 1) es)
        → filter_map (scored_at whole a) numbers ≡ filter_map (scored a) (enumerate_from (n + 1) es)
    moved longer same h = ap (λ l. filter_map (scored_at l a) numbers) (sym same) ∙ h

    by : (b : Bool) → filter_map (scored_at whole a) numbers ≡ filter_map (scored a) (enumerate_from (n + 1) es)
        → filter_map (scored_at whole a) (cons_option (cond b (Some n) None) numbers) ≡ cons_option (cond b (Some (record { number = n; score = score_of a e.weights })) None) (filter_map (scored a) (enumerate_from (n + 1) es))
    by true later =
        ap (λ (o : Option Cnf). cons_option (option_map (λ (x : Cnf). record { number = n; score = score_of a x.weights }) o) (filter_map (scored_at whole a) numbers)) (seen front e es n is)
        ∙ ap (λ l. record { number = n; score = score_of a e.weights } ∷ l) later
    by false later = later

pub scored_are : (es : List Cnf) (a : Pairs) → filter_map (scored_at es a) (true_under a es) ≡ all_scored es a
scored_are es a = found_scored a [] es 1 refl

-- ---- the best

pub best_is : (es : List Cnf) (a : Pairs) (n : ℕ) (ranks sorted : List Rank) (best : List Scored)
    → map scored_of ranks ≡ all_scored es a → IsPermutation ranks sorted → IsSorted rank_cmp sorted
    → best ≡ take n (map scored_of sorted) → best ≡ top_list es a n
best_is es a n ranks sorted best same moved up is =
    let all = all_scored es a in
    let turned : IsPermutation (map scored_of ranks) (map scored_of sorted) = IsPermutation-map scored_of ranks sorted moved in
    let once : Once (map scored_of sorted) = λ k.
    omega (arith, once_scored a k 1 es, ap (times k) same, sum_by-IsPermutation (λ (s : Scored). cond (s.number == k) 1 0) (map scored_of ranks) (map scored_of sorted) turned) in
    let order : map scored_of sorted ≡ in_order all = one_order (map scored_of sorted) (in_order all) (sorted_ordered sorted up once) (in_order_ordered all (scored_apart es a))
    (λ z h. has_ordered all z (subst (λ (l : List Scored). Has z l) same (has_from_contains (map scored_of ranks) z (Contains-permutation (map scored_of sorted) (map scored_of ranks) z
    (IsPermutation-sym (map scored_of ranks) (map scored_of sorted) turned) (contains_from_has (map scored_of sorted) z h)))))
    (λ z h. has_from_contains (map scored_of sorted) z (Contains-permutation (map scored_of ranks) (map scored_of sorted) z turned
    (contains_from_has (map scored_of ranks) z (subst (λ (l : List Scored). Has z l) (sym same) (ordered_has all z h))))) in
    is ∙ ap (take n) order

-- ---- the loop

pub mapped_option : {X Y : Type 0} (f : X → Y) (o : Option X) → map f (cons_option o []) ≡ cons_option (option_map f o) []
mapped_option f None = refl
mapped_option f (Some x) = refl
