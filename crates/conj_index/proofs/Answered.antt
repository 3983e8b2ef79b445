-- What is found over all parts is the campaigns whose expression is true.
use Rattle.std.proofs.Common.{◌≡◌, ℕ, zero, suc, ◌+◌, ◌<◌, ◌≤◌, inl, inr, max, List, [], ◌∷◌, ◌++◌, length, slice_get, take, true, map, Some, None, refl, sym, ◌∙◌, ap, subst, arith, ◌⊎◌}
use Rattle.std.specs.Prelude.{option_map}
use Rattle.std.specs.List.{Contains, dedup}
use Rattle.std.specs.List.Sorted.{IsPermutation, IsSorted}
use Rattle.std.specs.Ordering.{nat_cmp}
use Rattle.std.proofs.Common.{eqb}
use Rattle.std.proofs.lemmas.Bool.{cases_eq, false≢true}
use Rattle.std.proofs.lemmas.List.Kept.{Contains-dedup_nat, Contains-from_dedup}
use Rattle.std.proofs.lemmas.List.Sorted.{Contains-permutation, IsPermutation-sym}
use Rattle.std.proofs.lemmas.Map.Keys.{IsStrictlyIncreasing-dedup}
use Rattle.std.proofs.lemmas.Option.{slice_get-map, slice_get_within, same_Some}
use Rattle.conj_match.specs.Matching.{is_match}
use Rattle.target_expr.specs.declared.attr.Attr.{Attr}
use Rattle.target_expr.specs.Pairs.{size_of}
use Rattle.target_expr.specs.Truth.{are_single, conjunction_holds}
use Rattle.conj_index.specs.declared.part.Part.{Part}
use Rattle.conj_index.specs.declared.index.Index.{Index}
use Rattle.conj_index.specs.Campaigns.{Campaigns}
use Rattle.conj_index.specs.Content.{IsIndexOf, IsPartOf, Listed, conjunctions_of, greatest_size}
use Rattle.conj_index.specs.Find.{found_lists, true_under}
use Rattle.conj_index.specs.Searching.{AreFound, IsFoundIn}
use Rattle.conj_index.proofs.Found.{Serves, match_is_true, no_match}
use Rattle.conj_index.proofs.Matches.{are_apart}
use Rattle.conj_index.proofs.Members.{Has, contains_from_has, has_at, has_from_contains, one_order, up_from_increasing}
use Rattle.conj_index.proofs.Served.{serves}
use Rattle.conj_index.proofs.Truths.{apart_from_kept, greatest_has, kept_member, no_larger, owner_of_true, true_by_owner, up_true}

abbrev Pairs : Type 0
Pairs = List (Attr × List ℕ)

-- ---- a conjunction by its number

record Stands (cs : List Listed) (id : ℕ) (c : Listed) : Type 0 where
  pub front : List Listed
  pub back : List Listed
  pub same : cs ≡ front ++ c ∷ back
  pub long : length front ≡ id

none_some : {X : Type 0} (x : X) → None ≡ Some x → ⊥
none_some x e = cc

stands : (cs : List Listed) (id : ℕ) (c : Listed) → slice_get cs id ≡ Some c → Stands cs id c
stands [] id c e = absurd (none_some c e)
stands (d ∷ cs) zero c e = record { front = []; back = cs; same = ap (λ (x : Listed). x ∷ cs) (same_Some d c e); long = refl }
stands (d ∷ cs) (suc id) c e =
    let s = stands cs id c e in
    record { front = d ∷ s.front; back = s.back; same = ap (λ l. d ∷ l) s.same; long = omega (arith, s.long) }

stands_has : (cs : List Listed) (id : ℕ) (c : Listed) → slice_get cs id ≡ Some c → Has c cs
stands_has [] id c e = absurd (none_some c e)
stands_has (d ∷ cs) zero c e = inl (sym (same_Some d c e))
stands_has (d ∷ cs) (suc id) c e = inr (stands_has cs id c e)

owned_by : (cs : List Listed) (id z : ℕ) → slice_get (map (λ (c : Listed). c.owner) cs) id ≡ Some z → (c : Listed) × (slice_get cs id ≡ Some c) × (c.owner ≡ z)
owned_by [] id z e = absurd (none_some z e)
owned_by (d ∷ cs) zero z e = (d, refl, same_Some d.owner z e)
owned_by (d ∷ cs) (suc id) z e = owned_by cs id z e

owner_at : (cs : List Listed) (id : ℕ) (c : Listed) → slice_get cs id ≡ Some c → slice_get (map (λ (d : Listed). d.owner) cs) id ≡ Some c.owner
owner_at cs id c e = slice_get-map (λ (d : Listed). d.owner) cs id ∙ ap (option_map (λ (d : Listed). d.owner)) e

-- ---- a match is a conjunction of that size that is true

sized : (k : ℕ) (cs : List Listed) (part : Part) (a : Pairs) (id : ℕ) (c : Listed) → IsPartOf k cs part → slice_get cs id ≡ Some c → is_match (found_lists a k part) (max k 1) id ≡ true → (size_of c.preds ≡ k → ⊥) → ⊥
sized k cs part a id c is e m other =
    let s = stands cs id c e in
    false≢true (sym (no_match k s.front c s.back a (found_lists a k part) (subst (λ (l : List Listed). Serves k l a (found_lists a k part)) s.same (serves k cs part a is)) other)
    ∙ ap (is_match (found_lists a k part) (max k 1)) s.long ∙ m)

by_size : (m n : ℕ) → (m ≡ n) ⊎ (m ≡ n → ⊥)
by_size = cases_eq

match_holds : (k : ℕ) (cs : List Listed) (part : Part) (a : Pairs) (id : ℕ) (c : Listed) → IsPartOf k cs part → slice_get cs id ≡ Some c → size_of c.preds ≡ k → are_apart c.preds ≡ true → are_single a ≡ true
    → is_match (found_lists a k part) (max k 1) id ≡ conjunction_holds a c.preds
match_holds k cs part a id c is e size apart single =
    let s = stands cs id c e in
    ap (is_match (found_lists a k part) (max k 1)) (sym s.long)
    ∙ match_is_true k s.front c s.back a (found_lists a k part) (subst (λ (l : List Listed). Serves k l a (found_lists a k part)) s.same (serves k cs part a is)) size apart single

pub taken_at : {X : Type 0} (xs : List X) (n k : ℕ) (x : X) → slice_get (take n xs) k ≡ Some x → slice_get xs k ≡ Some x
taken_at xs zero k x e = absurd (none_some x e)
taken_at [] (suc n) k x e = absurd (none_some x e)
taken_at (y ∷ xs) (suc n) zero x e = e
taken_at (y ∷ xs) (suc n) (suc k) x e = taken_at xs n k x e

at_taken : {X : Type 0} (xs : List X) (n k : ℕ) (x : X) → k < n → slice_get xs k ≡ Some x → slice_get (take n xs) k ≡ Some x
at_taken xs zero k x h e = absurd (omega arith)
at_taken [] (suc n) k x h e = absurd (none_some x e)
at_taken (y ∷ xs) (suc n) zero x h e = e
at_taken (y ∷ xs) (suc n) (suc k) x h e = at_taken xs n k x (omega arith) e

within_at : {X : Type 0} (xs : List X) (k : ℕ) → k < length xs → (x : X) × (slice_get xs k ≡ Some x)
within_at [] k h = absurd (omega arith)
within_at (x ∷ xs) zero h = (x, refl)
within_at (x ∷ xs) (suc k) h = within_at xs k (omega arith)

-- ---- every number that is found is true, and every true one is found

module _ (a : Pairs) (single : are_single a ≡ true) (added : Campaigns) (index : Index) (is : IsIndexOf added index) where
  abbrev cs : List Listed
  cs = conjunctions_of added

  found_is_true : (k id z : ℕ) (part : Part) → slice_get (take (length a + 1) index.parts) k ≡ Some part → IsFoundIn a index.owners k part id z → Has z (true_under a added)
  found_is_true k id z part at f =
      let part_of = is.parts k part (taken_at index.parts (length a + 1) k part at) in
      let (c, there, owner) = owned_by cs id z (ap (λ (o : List ℕ). slice_get o id) (sym is.owners) ∙ f.with_owner) in
      let member : Has c cs = stands_has cs id c there in
      let apart = apart_from_kept c.preds (kept_member added is.kept c member) in
      let size : size_of c.preds ≡ k = elim (by_size (size_of c.preds) k) [ inl e ↦ e | inr other ↦ absurd (sized k cs part a id c part_of there f.matched other) ] in
      let holds_c : conjunction_holds a c.preds ≡ true = sym (match_holds k cs part a id c part_of there size apart single) ∙ f.matched in
      subst (λ (n : ℕ). Has n (true_under a added)) owner (true_by_owner a added c member holds_c)

  true_is_found : (n : ℕ) (numbers : List ℕ) → length (take (length a + 1) index.parts) ≤ n → AreFound a index.owners (take (length a + 1) index.parts) n numbers → (z : ℕ) → Has z (true_under a added) → Contains numbers z
  true_is_found n numbers all found z h =
      let (c, member, owner, holds_c) = owner_of_true a added z h in
      let (id, there) = has_at cs c member in
      let apart = apart_from_kept c.preds (kept_member added is.kept c member) in
      let small : size_of c.preds ≤ length a = no_larger c.preds a apart single holds_c in
      let most : size_of c.preds ≤ greatest_size cs = greatest_has cs c member in
      let (part, at) = within_at index.parts (size_of c.preds) (omega (arith, most, is.sizes)) in
      let taken : slice_get (take (length a + 1) index.parts) (size_of c.preds) ≡ Some part = at_taken index.parts (length a + 1) (size_of c.preds) part (omega (arith, small)) at in
      let matched : is_match (found_lists a (size_of c.preds) part) (max (size_of c.preds) 1) id ≡ true = match_holds (size_of c.preds) cs part a id c (is.parts (size_of c.preds) part at) there refl apart single ∙ holds_c in
      let with_owner : slice_get index.owners id ≡ Some z = ap (λ (o : List ℕ). slice_get o id) is.owners ∙ owner_at cs id c there ∙ ap Some owner in
      found.whole (size_of c.preds) id z part (omega (arith, slice_get_within (take (length a + 1) index.parts) (size_of c.preds) part taken, all)) taken (record { matched = matched; with_owner = with_owner })

  -- sorted and each once, the numbers found are those of the campaigns that are true
  pub answer_is : (n : ℕ) (numbers sorted : List ℕ) → length (take (length a + 1) index.parts) ≤ n → AreFound a index.owners (take (length a + 1) index.parts) n numbers
      → IsPermutation numbers sorted → IsSorted nat_cmp sorted → dedup eqb sorted ≡ true_under a added
  answer_is n numbers sorted all found moved rising =
      one_order (dedup eqb sorted) (true_under a added)
      (up_from_increasing (dedup eqb sorted) (IsStrictlyIncreasing-dedup sorted rising))
      (up_true a added is.rising)
      (λ z h.
      let (k, id, part, below, at, f) = found.sound z (Contains-permutation sorted numbers z (IsPermutation-sym numbers sorted moved) (Contains-from_dedup eqb sorted z (contains_from_has (dedup eqb sorted) z h))) in
      found_is_true k id z part at f)
      (λ z h. has_from_contains (dedup eqb sorted) z (Contains-dedup_nat sorted z (Contains-permutation numbers sorted z moved (true_is_found n numbers all found z h))))
