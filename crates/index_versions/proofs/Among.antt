-- The same numbers whatever their order, and those that pass a test, one number after the other.
use Rattle.std.proofs.Common.{◌≡◌, ℕ, ◌+◌, ◌<◌, ◌≤◌, inl, inr, List, [], ◌∷◌, ◌++◌, append_assoc, Bool, true, false, cond, drop, eqb, filter, get_or, length, sum_by, subst, Option, Some, None, refl, sym, ◌∙◌, ap, arith}
use Rattle.std.specs.List.{dedup, list_any}
use Rattle.std.specs.List.Sorted.{IsPermutation, IsStrictlyIncreasing}
use Rattle.std.proofs.lemmas.Bool.{cases_Bool, false_from_ne_true, false≢true}
use Rattle.std.proofs.lemmas.List.{drop_all, drop_more}
use Rattle.std.proofs.lemmas.List.Kept.{Contains-dedup_nat, Contains-from_dedup, IsStrictlyIncreasing-filter}
use Rattle.std.proofs.lemmas.List.Sorted.{Contains-permutation, IsPermutation-sym}
use Rattle.std.proofs.lemmas.List.Sums.{sum_by-drop_more}
use Rattle.std.specs.Option.{option_map_or}
use Rattle.campaign_store.specs.Table.{campaign_at}
use Rattle.campaign_store.specs.declared.listed.Listed.{Listed}
use Rattle.conj_index.proofs.Members.{Has, Up, any_has, contains_from_has, filter_has, has_any, has_filter, has_from_contains, one_order, up_from_increasing}
use Rattle.conj_index.specs.Find.{true_under}
use Rattle.index_versions.specs.Fixed.{Pairs, is_among, is_true}
use Rattle.index_versions.specs.Touched.{is_true_at}
use Rattle.index_versions.specs.Versions.{live_in}
use Rattle.index_versions.proofs.Present.{among_has, has_among, has_numbers, numbers_has, numbers_up, true_by_number}

pub same_any : {X : Type 0} (p : X → Bool) (xs ys : List X) → ((z : X) → Has z xs → Has z ys) → ((z : X) → Has z ys → Has z xs) → list_any p xs ≡ list_any p ys
same_any p xs ys to back =
    elim (cases_Bool (list_any p xs)) [
      | inl e ↦ let (z, has, is) = any_has p xs e in e ∙ sym (has_any p ys z (to z has) is)
      | inr e ↦ e ∙ sym (false_from_ne_true (list_any p ys) (λ f. let (z, has, is) = any_has p ys f in false≢true (sym e ∙ has_any p xs z (back z has) is)))
    ]

pub same_sorted : (p : ℕ → Bool) (edits sorted : List ℕ) → IsPermutation edits sorted → list_any p (dedup eqb sorted) ≡ list_any p edits
same_sorted p edits sorted moved =
    same_any p (dedup eqb sorted) edits
    (λ z h. has_from_contains edits z (Contains-permutation sorted edits z (IsPermutation-sym edits sorted moved) (Contains-from_dedup eqb sorted z (contains_from_has (dedup eqb sorted) z h))))
    (λ z h. has_from_contains (dedup eqb sorted) z (Contains-dedup_nat sorted z (Contains-permutation edits sorted z moved (contains_from_has edits z h))))

-- ---- one number more

passed : (f : ℕ → Bool) (t : ℕ) (more : List ℕ) → cond (f t) (t ∷ []) [] ++ filter f more ≡ filter f (t ∷ more)
passed f t more = by (f t)
  where
    by : (b : Bool) → cond b (t ∷ []) [] ++ filter f more ≡ cond b (t ∷ filter f more) (filter f more)
    by true = refl
    by false = refl

pub passed_step : (f : ℕ → Bool) (touched old new : List ℕ) (i : ℕ) → i < length touched → new ≡ old ++ cond (f (get_or touched i 0)) (get_or touched i 0 ∷ []) []
    → old ++ filter f (drop i touched) ≡ filter f touched → new ++ filter f (drop (i + 1) touched) ≡ filter f touched
passed_step f touched old new i within pushed so_far =
    let t = get_or touched i 0 in
    let more = drop (i + 1) touched in
    ap (λ l. l ++ filter f more) pushed
    ∙ append_assoc old (cond (f t) (t ∷ []) []) (filter f more)
    ∙ ap (λ l. old ++ l) (passed f t more)
    ∙ ap (λ l. old ++ filter f l) (sym (drop_more touched i 0 within)) ∙ so_far

pub passed_end : (f : ℕ → Bool) (touched numbers all : List ℕ) (i : ℕ) → length touched ≤ i → numbers ++ filter f (drop i touched) ≡ all → numbers ++ [] ≡ all
passed_end f touched numbers all i end so_far = ap (λ l. numbers ++ filter f l) (sym (drop_all i touched end)) ∙ so_far

pub cost_step : (f : ℕ → ℕ) (touched : List ℕ) (i steps new whole : ℕ) → i < length touched → new ≤ steps + f (get_or touched i 0) → steps + sum_by f (drop i touched) ≤ whole
    → new + sum_by f (drop (i + 1) touched) ≤ whole
cost_step f touched i steps new whole within paid all = omega (arith, sum_by-drop_more f touched i 0 within, paid, all)

-- what it costs so far is no more than what it costs at the end
pub cost_within : (steps more whole : ℕ) → steps + more ≤ whole → steps ≤ whole
cost_within steps more whole so_far = omega (arith, so_far)

-- ---- those of them that are true are those of the campaigns that are true that are among them

true_one : (a : Pairs) (at : Option Listed) → option_map_or (is_true a) at false ≡ true → (c : Listed) × (at ≡ Some c) × (is_true a c ≡ true)
true_one a None e = absurd (false≢true e)
true_one a (Some c) e = (c, refl, e)

pub true_among_all : (a : Pairs) (cs : List Listed) (touched : List ℕ) → IsStrictlyIncreasing touched → filter (is_true_at a cs) touched ≡ filter (is_among touched) (true_under a (live_in cs))
true_among_all a cs touched rising =
    one_order (filter (is_true_at a cs) touched) (filter (is_among touched) numbers)
    (up_from_increasing (filter (is_true_at a cs) touched) (IsStrictlyIncreasing-filter (is_true_at a cs) touched rising))
    (filter_up (is_among touched) numbers (subst Up (sym (true_by_number a cs)) (numbers_up test 1 cs)))
    to back
  where
    numbers : List ℕ
    numbers = true_under a (live_in cs)

    test : ℕ × Listed → Bool
    test p = is_true a p.1

    filter_up : (p : ℕ → Bool) (xs : List ℕ) → Up xs → Up (filter p xs)
    filter_up p [] up = tt
    filter_up p (x ∷ xs) up = by (p x) (λ z h. (filter_has p xs z h).0) (filter_up p xs up.1)
      where
        by : (b : Bool) → ((z : ℕ) → Has z (filter p xs) → Has z xs) → Up (filter p xs) → Up (cond b (x ∷ filter p xs) (filter p xs))
        by true inside rest = ((λ z h. up.0 z (inside z h)), rest)
        by false inside rest = rest

    to : (z : ℕ) → Has z (filter (is_true_at a cs) touched) → Has z (filter (is_among touched) numbers)
    to z h =
        let (has, is) = filter_has (is_true_at a cs) touched z h in
        let (c, at, passes) = true_one a (campaign_at cs z) is in
        has_filter (is_among touched) numbers z (subst (Has z) (sym (true_by_number a cs)) (has_numbers test cs z c at passes)) (has_among touched z has)

    back : (z : ℕ) → Has z (filter (is_among touched) numbers) → Has z (filter (is_true_at a cs) touched)
    back z h =
        let (has, is) = filter_has (is_among touched) numbers z h in
        let (c, at, passes) = numbers_has test cs z (subst (Has z) (true_by_number a cs) has) in
        has_filter (is_true_at a cs) touched z (among_has touched z is) (ap (λ (o : Option Listed). option_map_or (is_true a) o false) at ∙ passes)
