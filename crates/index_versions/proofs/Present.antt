-- What is fixed by the edits since is what is true now.
use Rattle.std.proofs.Common.{◌≡◌, ℕ, zero, suc, ◌+◌, ◌<◌, ◌-◌, ◌≤◌, inl, inr, ◌==◌, eqb-true, List, [], ◌∷◌, ◌++◌, length, get_or, slice_get, sum_by, Bool, true, false, ◌&&◌, cond, filter, map, flat_map, Option, Some, None, refl, sym, ◌∙◌, ap, subst, arith}
use Rattle.std.specs.List.{enumerate_from}
use Rattle.std.specs.List.Sorted.{IsStrictlyIncreasing}
use Rattle.std.specs.Option.{option_map_or}
use Rattle.std.proofs.lemmas.Bool.{cases_Bool, cases_eq, false≢true, eq-eqb}
use Rattle.std.proofs.lemmas.Bool.Decides.{nat_tests}
use Rattle.std.proofs.lemmas.List.Sums.{sum_by-cons}
use Rattle.std.proofs.lemmas.Option.{none-some, same_Some}
use Rattle.campaign_store.specs.declared.listed.Listed.{Listed}
use Rattle.campaign_store.specs.declared.listed.LiveRecord.{LiveRecord}
use Rattle.campaign_store.specs.Table.{campaign_at, live_record}
use Rattle.conj_index.specs.Find.{true_under}
use Rattle.target_expr.specs.declared.pred.Pred.{Pred}
use Rattle.target_expr.specs.Truth.{holds}
use Rattle.conj_index.proofs.Members.{Has, Up, any_has, filter_has, has_any, has_filter, has_mapped, mapped_has, up_from_increasing}
use Rattle.index_versions.specs.Fixed.{Pairs, WereFound, fix_cost, fixed, is_among, is_fixed, is_true, touched_cost}
use Rattle.index_versions.specs.Touched.{conjunctions_of}
use Rattle.index_versions.specs.Versions.{live_in, numbered_expression}

-- ---- campaigns by number

-- the numbers of the campaigns that pass, where the first is campaign m
abbrev pub numbers_from : (ℕ × Listed → Bool) → ℕ → List Listed → List ℕ
numbers_from test m cs = map (λ (p : ℕ × Listed). p.0) (filter test (enumerate_from m cs))

placed : (m i : ℕ) (cs : List Listed) (c : Listed) → slice_get cs i ≡ Some c → Has (m + i, c) (enumerate_from m cs)
placed m i [] c e = absurd (none-some c e)
placed m zero (d ∷ cs) c e =
    let first : m ≡ m + 0 = omega arith in
    subst (λ (k : ℕ). Has (k, c) (enumerate_from m (d ∷ cs))) first (inl (ap (λ (x : Listed). (m, x)) (sym (same_Some d c e))))
placed m (suc i) (d ∷ cs) c e =
    let next : (m + 1) + i ≡ m + suc i = omega arith in
    inr (subst (λ (k : ℕ). Has (k, c) (enumerate_from (m + 1) cs)) next (placed (m + 1) i cs c e))

place_of : (m : ℕ) (cs : List Listed) (p : ℕ × Listed) → Has p (enumerate_from m cs) → (i : ℕ) × (p.0 ≡ m + i) × (slice_get cs i ≡ Some p.1)
place_of m [] p h = absurd h
place_of m (d ∷ cs) p (inl e) =
    let first : p.0 ≡ m = ap (λ (q : ℕ × Listed). q.0) e in
    (zero, omega (arith, first), ap (λ (q : ℕ × Listed). Some q.1) (sym e))
place_of m (d ∷ cs) p (inr h) =
    let (i, at, is) = place_of (m + 1) cs p h in
    (suc i, omega (arith, at), is)

not_zero : (k : ℕ) → (suc k == 0) ≡ false
not_zero k = grind (arith, nat_tests)

pub counted_from_one : (cs : List Listed) (k : ℕ) → campaign_at cs (suc k) ≡ slice_get cs k
counted_from_one cs k =
    let before : suc k - 1 ≡ k = omega arith in
    ap (λ t. cond t None (slice_get cs (suc k - 1))) (not_zero k) ∙ ap (slice_get cs) before

pub listed_at : (cs : List Listed) (n : ℕ) (c : Listed) → campaign_at cs n ≡ Some c → Has (n, c) (enumerate_from 1 cs)
listed_at cs zero c e = absurd (none-some c e)
listed_at cs (suc k) c e =
    let number : 1 + k ≡ suc k = omega arith in
    subst (λ (n : ℕ). Has (n, c) (enumerate_from 1 cs)) number (placed 1 k cs c (sym (counted_from_one cs k) ∙ e))

pub at_listed : (cs : List Listed) (n : ℕ) (c : Listed) → Has (n, c) (enumerate_from 1 cs) → campaign_at cs n ≡ Some c
at_listed cs n c h =
    let (i, at, is) = place_of 1 cs (n, c) h in
    let number : suc i ≡ n = omega (arith, at) in
    subst (λ (k : ℕ). campaign_at cs k ≡ Some c) number (counted_from_one cs i ∙ is)

-- ---- the numbers of those that pass

pub numbers_has : (test : ℕ × Listed → Bool) (cs : List Listed) (n : ℕ) → Has n (numbers_from test 1 cs) → (c : Listed) × (campaign_at cs n ≡ Some c) × (test (n, c) ≡ true)
numbers_has test cs n h =
    let (p, has, is) = mapped_has (λ (q : ℕ × Listed). q.0) (filter test (enumerate_from 1 cs)) n h in
    let (stands, passes) = filter_has test (enumerate_from 1 cs) p has in
    subst (λ (k : ℕ). (c : Listed) × (campaign_at cs k ≡ Some c) × (test (k, c) ≡ true)) is (p.1, at_listed cs p.0 p.1 stands, passes)

pub has_numbers : (test : ℕ × Listed → Bool) (cs : List Listed) (n : ℕ) (c : Listed) → campaign_at cs n ≡ Some c → test (n, c) ≡ true → Has n (numbers_from test 1 cs)
has_numbers test cs n c at passes =
    has_mapped (λ (q : ℕ × Listed). q.0) (filter test (enumerate_from 1 cs)) (n, c) (has_filter test (enumerate_from 1 cs) (n, c) (listed_at cs n c at) passes)

numbers_above : (test : ℕ × Listed → Bool) (m : ℕ) (cs : List Listed) (z : ℕ) → Has z (numbers_from test m cs) → m ≤ z
numbers_above test m cs z h =
    let (p, has, is) = mapped_has (λ (q : ℕ × Listed). q.0) (filter test (enumerate_from m cs)) z h in
    let (stands, passes) = filter_has test (enumerate_from m cs) p has in
    let (i, at, there) = place_of m cs p stands in
    omega (arith, at, is)

pub numbers_up : (test : ℕ × Listed → Bool) (m : ℕ) (cs : List Listed) → Up (numbers_from test m cs)
numbers_up test m [] = tt
numbers_up test m (c ∷ cs) = by (test (m, c)) (numbers_above test (m + 1) cs) (numbers_up test (m + 1) cs)
  where
    rest : List (ℕ × Listed)
    rest = filter test (enumerate_from (m + 1) cs)

    by : (b : Bool) → ((z : ℕ) → Has z (map (λ (p : ℕ × Listed). p.0) rest) → m + 1 ≤ z) → Up (map (λ (p : ℕ × Listed). p.0) rest) → Up (map (λ (p : ℕ × Listed). p.0) (cond b ((m, c) ∷ rest) rest))
    by true above up = ((λ z h. omega (arith, above z h)), up)
    by false above up = up

pub increasing_from_up : (xs : List ℕ) → Up xs → IsStrictlyIncreasing xs
increasing_from_up [] up k within = absurd (omega arith)
increasing_from_up (x ∷ []) up k within = absurd (omega arith)
increasing_from_up (x ∷ y ∷ xs) up zero within = up.0 y (inl refl)
increasing_from_up (x ∷ y ∷ xs) up (suc k) within =
    let next : suc (k + 1) ≡ suc k + 1 = omega arith in
    subst (λ (n : ℕ). get_or (y ∷ xs) k 0 < get_or (x ∷ y ∷ xs) n 0) next (increasing_from_up (y ∷ xs) up.1 k (omega arith))

-- ---- the campaigns that are live and true

-- one campaign in front
in_front : (a : Pairs) (m : ℕ) (c : Listed) (rest : List LiveRecord) (more : List (ℕ × Listed)) (live : Bool)
    → true_under a (map numbered_expression rest) ≡ map (λ (p : ℕ × Listed). p.0) more
    → true_under a (map numbered_expression (cond live ((record { number = m; entry = c.entry }) ∷ []) [] ++ rest)) ≡ map (λ (p : ℕ × Listed). p.0) (cond (live && holds a c.entry.expr) ((m, c) ∷ more) more)
in_front a m c rest more false same = same
in_front a m c rest more true same = by (holds a c.entry.expr)
  where
    held : List (ℕ × List (List Pred))
    held = filter (λ (p : ℕ × List (List Pred)). holds a p.1) (map numbered_expression rest)

    by : (h : Bool) → map (λ (p : ℕ × List (List Pred)). p.0) (cond h ((m, c.entry.expr) ∷ held) held) ≡ map (λ (p : ℕ × Listed). p.0) (cond h ((m, c) ∷ more) more)
    by true = ap (λ l. m ∷ l) same
    by false = same

true_from : (a : Pairs) (m : ℕ) (cs : List Listed) → true_under a (map numbered_expression (flat_map live_record (enumerate_from m cs))) ≡ numbers_from (λ (p : ℕ × Listed). is_true a p.1) m cs
true_from a m [] = refl
true_from a m (c ∷ cs) =
    in_front a m c (flat_map live_record (enumerate_from (m + 1) cs)) (filter (λ (p : ℕ × Listed). is_true a p.1) (enumerate_from (m + 1) cs)) c.live (true_from a (m + 1) cs)

pub true_by_number : (a : Pairs) (cs : List Listed) → true_under a (live_in cs) ≡ numbers_from (λ (p : ℕ × Listed). is_true a p.1) 1 cs
true_by_number a cs = true_from a 1 cs

-- ---- what was found

pub found_by_number : (a : Pairs) (found touched : List ℕ) (now : List Listed) (were : WereFound a found touched now) → found ≡ numbers_from (λ (p : ℕ × Listed). is_true a p.1) 1 were.before
found_by_number a found touched now were = were.true_then ∙ true_by_number a were.before

-- what was found and not touched is true now
pub found_has : (a : Pairs) (found touched : List ℕ) (now : List Listed) → WereFound a found touched now → (n : ℕ) → is_among touched n ≡ false → Has n found
    → (c : Listed) × (campaign_at now n ≡ Some c) × (is_true a c ≡ true)
found_has a found touched now were n untouched h =
    let test : ℕ × Listed → Bool = λ (p : ℕ × Listed). is_true a p.1 in
    let (c, at, is) = numbers_has test were.before n (subst (λ (l : List ℕ). Has n l) (found_by_number a found touched now were) h) in
    (c, sym (were.differ n untouched) ∙ at, is)

-- and what is true now and was not touched was found
pub has_found : (a : Pairs) (found touched : List ℕ) (now : List Listed) → WereFound a found touched now → (n : ℕ) (c : Listed) → is_among touched n ≡ false
    → campaign_at now n ≡ Some c → is_true a c ≡ true → Has n found
has_found a found touched now were n c untouched at is =
    let test : ℕ × Listed → Bool = λ (p : ℕ × Listed). is_true a p.1 in
    subst (λ (l : List ℕ). Has n l) (sym (found_by_number a found touched now were)) (has_numbers test were.before n c (were.differ n untouched ∙ at) is)

pub among_has : (ns : List ℕ) (n : ℕ) → is_among ns n ≡ true → Has n ns
among_has ns n h =
    let (m, has, is) = any_has (λ (k : ℕ). k == n) ns h in
    subst (λ (k : ℕ). Has k ns) (eqb-true m n is) has

pub has_among : (ns : List ℕ) (n : ℕ) → Has n ns → is_among ns n ≡ true
has_among ns n h = has_any (λ (k : ℕ). k == n) ns n h (eq-eqb n n refl)

-- ---- what is fixed is what is true now

same_test : (a : Pairs) (found touched : List ℕ) (now : List Listed) → WereFound a found touched now → (n : ℕ) (c : Listed) → campaign_at now n ≡ Some c → is_among touched n ≡ false → is_among found n ≡ is_true a c
same_test a found touched now were n c at untouched =
    elim (cases_Bool (is_true a c)) [
      | inl is ↦ has_among found n (has_found a found touched now were n c untouched at is) ∙ sym is
      | inr is ↦
          elim (cases_Bool (is_among found n)) [
            | inr out ↦ out ∙ sym is
            | inl in_it ↦
                let (d, there, was) = found_has a found touched now were n untouched (among_has found n in_it) in
                let same : d ≡ c = same_Some d c (sym there ∙ at) in
                absurd (false≢true (sym is ∙ ap (is_true a) (sym same) ∙ was))
          ]
    ]

same_at : (a : Pairs) (found touched : List ℕ) (now : List Listed) → WereFound a found touched now → (n : ℕ) (c : Listed) → campaign_at now n ≡ Some c → is_fixed a found touched (n, c) ≡ is_true a c
same_at a found touched now were n c at =
    elim (cases_Bool (is_among touched n)) [
      | inl e ↦ ap (λ b. cond b (is_true a c) (is_among found n)) e
      | inr e ↦ ap (λ b. cond b (is_true a c) (is_among found n)) e ∙ same_test a found touched now were n c at e
    ]

same_filters : {X : Type 0} (f g : X → Bool) (xs : List X) → ((x : X) → Has x xs → f x ≡ g x) → filter f xs ≡ filter g xs
same_filters f g [] same = refl
same_filters f g (x ∷ xs) same =
    ap (λ b. cond b (x ∷ filter f xs) (filter f xs)) (same x (inl refl))
    ∙ ap (λ l. cond (g x) (x ∷ l) l) (same_filters f g xs (λ y h. same y (inr h)))

pub fixed_is_true_now : (a : Pairs) (found touched : List ℕ) (now : List Listed) → WereFound a found touched now → fixed a found touched now ≡ true_under a (live_in now)
fixed_is_true_now a found touched now were =
    let test : ℕ × Listed → Bool = λ (p : ℕ × Listed). is_true a p.1 in
    ap (map (λ (p : ℕ × Listed). p.0))
    (same_filters (is_fixed a found touched) test (enumerate_from 1 now) (λ p h. same_at a found touched now were p.0 p.1 (at_listed now p.0 p.1 h)))
    ∙ sym (true_by_number a now)

same_sums : {X : Type 0} (f g : X → ℕ) (xs : List X) → ((x : X) → Has x xs → f x ≡ g x) → sum_by f xs ≡ sum_by g xs
same_sums f g [] same = refl
same_sums f g (x ∷ xs) same =
    let first : f x ≡ g x = same x (inl refl) in
    let rest : sum_by f xs ≡ sum_by g xs = same_sums f g xs (λ y h. same y (inr h)) in
    omega (arith, sum_by-cons f x xs, sum_by-cons g x xs, first, rest)

-- ---- what it costs

-- those of the campaign at a place
abbrev cost_at : List Listed → ℕ → ℕ
cost_at cs i = option_map_or (λ (c : Listed). length c.entry.expr) (slice_get cs i) 0

no_sum : (ts : List ℕ) → sum_by (λ (t : ℕ). 0) ts ≡ 0
no_sum [] = refl
no_sum (t ∷ ts) = omega (arith, sum_by-cons (λ (u : ℕ). 0) t ts, no_sum ts)

-- all of them stand behind the first campaign
behind_first : (m : ℕ) (c : Listed) (cs : List Listed) (ts : List ℕ) → ((n : ℕ) → Has n ts → m + 1 ≤ n) → sum_by (λ (t : ℕ). cost_at (c ∷ cs) (t - m)) ts ≡ sum_by (λ (t : ℕ). cost_at cs (t - (m + 1))) ts
behind_first m c cs ts above = same_sums (λ (t : ℕ). cost_at (c ∷ cs) (t - m)) (λ (t : ℕ). cost_at cs (t - (m + 1))) ts each
  where
    each : (t : ℕ) → Has t ts → cost_at (c ∷ cs) (t - m) ≡ cost_at cs (t - (m + 1))
    each t h =
        let place : t - m ≡ suc (t - (m + 1)) = omega (arith, above t h) in
        ap (cost_at (c ∷ cs)) place

cost_from : (touched : List ℕ) (m : ℕ) (cs : List Listed) (ts : List ℕ) → Up ts → ((n : ℕ) → Has n ts → m ≤ n) → ((n : ℕ) → Has n ts → is_among touched n ≡ true)
    → sum_by (λ (t : ℕ). cost_at cs (t - m)) ts ≤ sum_by (touched_cost touched) (enumerate_from m cs)
cost_from touched m [] ts up above among = omega (arith, no_sum ts)
cost_from touched m (c ∷ cs) [] up above among = omega arith
cost_from touched m (c ∷ cs) (t ∷ ts) up above among =
    let all = sum_by-cons (touched_cost touched) (m, c) (enumerate_from (m + 1) cs) in
    elim (cases_eq t m) [
      | inl e ↦
          let first : t - m ≡ 0 = omega (arith, e) in
          let here : cost_at (c ∷ cs) (t - m) ≡ length c.entry.expr = ap (cost_at (c ∷ cs)) first in
          let paid : touched_cost touched (m, c) ≡ length c.entry.expr = ap (λ b. cond b (length c.entry.expr) 0) (subst (λ (n : ℕ). is_among touched n ≡ true) e (among t (inl refl))) in
          let over : (n : ℕ) → Has n ts → m + 1 ≤ n = λ n h. omega (arith, up.0 n h, e) in
          let one = sum_by-cons (λ (u : ℕ). cost_at (c ∷ cs) (u - m)) t ts in
          let rest = behind_first m c cs ts over in
          omega (arith, all, one, here, paid, rest, cost_from touched (m + 1) cs ts up.1 over (λ n h. among n (inr h)))
      | inr apart ↦
          let past : m + 1 ≤ t = omega (arith, above t (inl refl), apart) in
          let over : (n : ℕ) → Has n (t ∷ ts) → m + 1 ≤ n = λ n h. over_first n past h in
          let rest = behind_first m c cs (t ∷ ts) over in
          omega (arith, all, rest, cost_from touched (m + 1) cs (t ∷ ts) up over among)
    ]
  where
    over_first : (n : ℕ) → m + 1 ≤ t → Has n (t ∷ ts) → m + 1 ≤ n
    over_first n past (inl f) = omega (arith, past, f)
    over_first n past (inr h) = omega (arith, past, up.0 n h)

same_place : (now : List Listed) (t : ℕ) → 1 ≤ t → conjunctions_of now t ≡ cost_at now (t - 1)
same_place now zero some = absurd (omega arith)
same_place now (suc k) some =
    let before : k ≡ suc k - 1 = omega arith in
    ap (λ (o : Option Listed). option_map_or (λ (c : Listed). length c.entry.expr) o 0) (counted_from_one now k ∙ ap (slice_get now) before)

cost_from_one : (touched ts : List ℕ) (now : List Listed) → Up ts → ((n : ℕ) → Has n ts → 1 ≤ n) → ((n : ℕ) → Has n ts → is_among touched n ≡ true) → sum_by (conjunctions_of now) ts ≤ fix_cost touched now
cost_from_one touched ts now up above among =
    let same = same_sums (conjunctions_of now) (λ (t : ℕ). cost_at now (t - 1)) ts (λ t h. same_place now t (above t h)) in
    omega (arith, same, cost_from touched 1 now ts up above among)

cost_up : (touched ts : List ℕ) (now : List Listed) → Up ts → ((n : ℕ) → Has n ts → is_among touched n ≡ true) → sum_by (conjunctions_of now) ts ≤ fix_cost touched now
cost_up touched [] now up among = omega arith
cost_up touched (zero ∷ ts) now up among =
    omega (arith, sum_by-cons (conjunctions_of now) 0 ts, cost_from_one touched ts now up.1 (λ n h. omega (arith, up.0 n h)) (λ n h. among n (inr h)))
cost_up touched (suc k ∷ ts) now up among = cost_from_one touched (suc k ∷ ts) now up above among
  where
    above : (n : ℕ) → Has n (suc k ∷ ts) → 1 ≤ n
    above n (inl f) = omega (arith, f)
    above n (inr h) = omega (arith, up.0 n h)

pub cost : (touched ts : List ℕ) (now : List Listed) → IsStrictlyIncreasing ts → ((n : ℕ) → is_among ts n ≡ is_among touched n) → sum_by (conjunctions_of now) ts ≤ fix_cost touched now
cost touched ts now rises same = cost_up touched ts now (up_from_increasing ts rises) (λ n h. sym (same n) ∙ has_among ts n h)
