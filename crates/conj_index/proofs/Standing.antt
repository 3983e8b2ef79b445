-- An entry stands in a posting list where its conjunction has that size and names the key.
use Rattle.std.proofs.Common.{◌≡◌, ℕ, zero, suc, ◌+◌, ◌==◌, inl, inr, List, [], ◌∷◌, Bool, true, false, cond, Option, Some, None, find, slice_get, refl, sym, ◌∙◌, ap, subst, arith}
use Rattle.std.specs.Prelude.{option_map}
use Rattle.std.specs.List.{enumerate_from}
use Rattle.std.proofs.lemmas.Bool.Decides.{nat_tests}
use Rattle.std.proofs.lemmas.Option.{same_Some}
use Rattle.postings.specs.declared.entry.Entry.{Entry}
use Rattle.target_expr.specs.declared.pred.Pred.{Pred}
use Rattle.target_expr.specs.Pairs.{size_of}
use Rattle.conj_index.specs.declared.key.Key.{Key}
use Rattle.conj_index.specs.Campaigns.{AreKept, Campaigns}
use Rattle.conj_index.specs.Content.{Listed, conjunctions_of, entries_of, entry_under, names, of_size}
use Rattle.conj_index.specs.Standing.{IsEntryUnder, StandWhereNamed}
use Rattle.conj_index.proofs.Matches.{are_apart, first_apart, later_apart, none_else}
use Rattle.conj_index.proofs.Members.{Has, contains_from_has, filter_has, found_has, has_filter, has_found, has_from_contains}
use Rattle.conj_index.proofs.Truths.{apart_from_kept, kept_member}

none_some : {X : Type 0} (x : X) → None ≡ Some x → ⊥
none_some x e = cc

is_equal : (m n : ℕ) → (m == n) ≡ true → m ≡ n
is_equal m n e = grind (arith, nat_tests, e)

equal_is : (m n : ℕ) → m ≡ n → (m == n) ≡ true
equal_is m n e = grind (arith, nat_tests, e)

-- ---- numbers of conjunctions

numbered_at : {X : Type 0} (n : ℕ) (xs : List X) (q : ℕ × X) → Has q (enumerate_from n xs) → (i : ℕ) × (q.0 ≡ n + i) × (slice_get xs i ≡ Some q.1)
numbered_at n [] q h = absurd h
numbered_at {X} n (x ∷ xs) q (inl e) = (zero, ap (λ (p : ℕ × X). p.0) e ∙ here n, ap (λ (p : ℕ × X). Some p.1) (sym e))
  where
    here : (n : ℕ) → n ≡ n + zero
    here n = omega arith
numbered_at n (x ∷ xs) q (inr h) =
    let (i, at, is) = numbered_at (n + 1) xs q h in
    (suc i, omega (arith, at), is)

at_number : {X : Type 0} (n : ℕ) (xs : List X) (i : ℕ) (x : X) → slice_get xs i ≡ Some x → Has (n + i, x) (enumerate_from n xs)
at_number n [] i x e = absurd (none_some x e)
at_number {X} n (y ∷ xs) zero x e = inl (both (n + zero) n x y (omega arith) (sym (same_Some y x e)))
  where
    both : (m n : ℕ) (x y : X) → m ≡ n → x ≡ y → ◌≡◌ {A = ℕ × X} (m, x) (n, y)
    both m n x y d e = cc
at_number {X} n (y ∷ xs) (suc i) x e =
    let same : n + 1 + i ≡ n + suc i = omega arith in
    inr (subst (λ (m : ℕ). Has (m, x) (enumerate_from (n + 1) xs)) same (at_number (n + 1) xs i x e))

has_at_number : {X : Type 0} (xs : List X) (i : ℕ) (x : X) → slice_get xs i ≡ Some x → Has x xs
has_at_number [] i x e = absurd (none_some x e)
has_at_number (y ∷ xs) zero x e = inl (sym (same_Some y x e))
has_at_number (y ∷ xs) (suc i) x e = inr (has_at_number xs i x e)

-- ---- the predicate that names a key

found_names : (key : Key) (c : List Pred) (p : Pred) → find (names key) c ≡ Some p → Has p c × (names key p ≡ true)
found_names key [] p e = absurd (none_some p e)
found_names key (r ∷ c) p e = by (names key r) refl (found_names key c p) e
  where
    by : (b : Bool) → names key r ≡ b → (find (names key) c ≡ Some p → Has p c × (names key p ≡ true)) → cond b (Some r) (find (names key) c) ≡ Some p → Has p (r ∷ c) × (names key p ≡ true)
    by true is later f = (inl (sym (same_Some r p f)), ap (names key) (sym (same_Some r p f)) ∙ is)
    by false is later f = let (has, naming) = later f in (inr has, naming)

names_found : (key : Key) (c : List Pred) (p : Pred) → are_apart c ≡ true → Has p c → names key p ≡ true → find (names key) c ≡ Some p
names_found key [] p apart h e = absurd h
names_found key (r ∷ c) p apart (inl f) e = ap (λ b. cond b (Some r) (find (names key) c)) (ap (names key) (sym f) ∙ e) ∙ ap Some (sym f)
names_found key (r ∷ c) p apart (inr h) e =
    let later = names_found key c p (later_apart r c apart) h e in
    by (names key r) refl later
  where
    by : (b : Bool) → names key r ≡ b → find (names key) c ≡ Some p → cond b (Some r) (find (names key) c) ≡ Some p
    by false is later = later
    by true is later = absurd (none_some p (sym (none_else r c (key.attr, key.value) (first_apart r c apart) is) ∙ later))

-- ---- both ways

abbrev entry_of : ℕ → Pred → Entry
entry_of id p = record { id = id; negated = p.negated }

entered : (id : ℕ) (o : Option Pred) (e : Entry) → option_map (entry_of id) o ≡ Some e → (p : Pred) × (o ≡ Some p) × (entry_of id p ≡ e)
entered id None e h = absurd (none_some e h)
entered id (Some p) e h = (p, refl, same_Some (entry_of id p) e h)

pub stands_named : (k : ℕ) (cs : List Listed) (key : Key) (e : Entry) → Has e (entries_of k cs key) → IsEntryUnder k cs key e
unfolding entries_of
stands_named k cs key e h =
    let (q, in_size, is) = found_has (entry_under key) (of_size k (enumerate_from 0 cs)) e h in
    let (has, size) = filter_has (λ (q : ℕ × Listed). size_of q.1.preds == k) (enumerate_from 0 cs) q in_size in
    let (i, at, there) = numbered_at 0 cs q has in
    let (p, found, made) = entered q.0 (find (names key) q.1.preds) e is in
    let (in_preds, naming) = found_names key q.1.preds p found in
    let id : e.id ≡ i = sym (ap (λ (x : Entry). x.id) made) ∙ at ∙ zero_first i in
    record {
      conjunction = q.1;
      numbered = ap (slice_get cs) id ∙ there;
      size = is_equal (size_of q.1.preds) k size;
      pred = p;
      stands = contains_from_has q.1.preds p in_preds;
      naming = naming;
      negated = sym (ap (λ (x : Entry). x.negated) made);
    }
  where
    zero_first : (i : ℕ) → 0 + i ≡ i
    zero_first i = omega arith

named_stands : (k : ℕ) (cs : List Listed) (key : Key) (e : Entry) → ((l : Listed) → Has l cs → are_apart l.preds ≡ true) → IsEntryUnder k cs key e → Has e (entries_of k cs key)
unfolding entries_of
named_stands k cs key e apart is =
    let c = is.conjunction in
    let zero_first : 0 + e.id ≡ e.id = omega arith in
    let here : Has (e.id, c) (enumerate_from 0 cs) = subst (λ (m : ℕ). Has (m, c) (enumerate_from 0 cs)) zero_first (at_number 0 cs e.id c is.numbered) in
    let of_it : Has (e.id, c) (of_size k (enumerate_from 0 cs)) = has_filter (λ (q : ℕ × Listed). size_of q.1.preds == k) (enumerate_from 0 cs) (e.id, c) here (equal_is (size_of c.preds) k is.size) in
    let found = names_found key c.preds is.pred (apart c (has_at_number cs e.id c is.numbered)) (has_from_contains c.preds is.pred is.stands) is.naming in
    has_found (entry_under key) (of_size k (enumerate_from 0 cs)) (e.id, c) e of_it (ap (option_map (entry_of e.id)) found ∙ ap (λ (b : Bool). Some (record { id = e.id; negated = b })) (sym is.negated))

pub stand_where_named : (added : Campaigns) → AreKept added → StandWhereNamed added
stand_where_named added kept k key e =
    let cs = conjunctions_of added in (
      λ h. stands_named k cs key e (has_from_contains (entries_of k cs key) e h),
      λ is. contains_from_has (entries_of k cs key) e (named_stands k cs key e (λ l h. apart_from_kept l.preds (kept_member added kept l h)) is),
    )
