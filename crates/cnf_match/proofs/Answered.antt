-- What is found is the expressions that are true.
use Rattle.std.proofs.Common.{◌≡◌, ℕ, zero, suc, ◌+◌, ◌*◌, ◌<◌, ◌≤◌, ◌&&◌, ◌||◌, nat_lt, nat_le, eqb, inl, inr, List, [], ◌∷◌, ◌++◌, Bool, true, false, not, cond, Option, Some, None, IsTrue, drop, length, get_or, map, position, slice_get, take, refl, sym, ◌∙◌, ap, subst, arith}
use Rattle.std.specs.Prelude.{option_and_then, option_map}
use Rattle.std.specs.List.{Contains, cons_option, dedup, enumerate_from, filter_map, flat_map, list_all, list_any, position_or_len, sum_by}
use Rattle.std.specs.List.Sorted.{IsPermutation, IsSorted}
use Rattle.std.specs.Ordering.{nat_cmp}
use Rattle.std.proofs.lemmas.Bool.{and_parts, cases_Bool, false≢true, leb-true, lt-ltb, or_parts}
use Rattle.std.proofs.lemmas.Bool.Decides.{nat_tests}
use Rattle.std.proofs.lemmas.List.Folds.{flat_map-map}
use Rattle.std.proofs.lemmas.List.Kept.{Contains-dedup_nat, Contains-from_dedup}
use Rattle.std.proofs.lemmas.List.Quantifiers.{position-Some}
use Rattle.std.proofs.lemmas.List.Sorted.{Contains-permutation, IsPermutation-sym}
use Rattle.std.proofs.lemmas.List.Sums.{sum_by-cons}
use Rattle.std.proofs.lemmas.Map.Keys.{IsStrictlyIncreasing-dedup}
use Rattle.std.proofs.lemmas.Option.{same_Some, slice_get-get_or, slice_get-map, slice_get_within}
use Rattle.indexmap.specs.IndexMap.{keys}
use Rattle.target_expr.specs.declared.attr.Attr.{Attr}
use Rattle.target_expr.specs.declared.pred.Pred.{Pred}
use Rattle.target_expr.specs.Truth.{are_single, is_in, pred_holds}
use Rattle.cnf_match.specs.declared.index.CnfIndex.{CnfIndex}
use Rattle.cnf_match.specs.declared.index.Entry.{Entry}
use Rattle.cnf_match.specs.declared.index.Key.{Key}
use Rattle.cnf_match.specs.Conjunctive.{Cnf, clause_holds, clauses_hold}
use Rattle.cnf_match.specs.Content.{AreKept, IsIndexOf, all_negated, clause_entries, entries_of, entry_under, expression_entries, is_named, is_named_in, names, needs_none, same_key, zero_list, zero_place}
use Rattle.cnf_match.specs.Find.{find_cost, found_lists, key_of, list_at, true_number, true_under}
use Rattle.cnf_match.specs.Searching.{is_left, mark_all, number_left}
use Rattle.cnf_match.proofs.Hits.{entries_for}
use Rattle.cnf_match.proofs.KeyEq.{key_same}
use Rattle.cnf_match.proofs.Left.{left_is_truth, left_length}
use Rattle.cnf_match.proofs.Members.{Has, Up, any_has, contains_from_has, found_has, has_found, has_from_contains, has_left, has_mapped, has_right, has_spread, one_order, up_from_increasing}
use Rattle.cnf_match.proofs.Single.{in_some, named_by}

abbrev Pairs : Type 0
Pairs = List (Attr × List ℕ)

none_some : {X : Type 0} (x : X) → None ≡ Some x → ⊥
none_some x e = cc

-- ---- the lists that are found

-- a key that no predicate names has no entry
unnamed_clause : (key : Key) (n i : ℕ) (c : List Pred) → list_any (names key) c ≡ false → clause_entries key n (i, c) ≡ []
unnamed_clause key n i [] h = refl
unnamed_clause key n i (p ∷ c) h =
    let parts = or_parts (names key p) (list_any (names key) c) h in
    ap (λ b. cons_option (cond b (Some (record { expression = n; clause = i; negated = p.negated })) None) (clause_entries key n (i, c))) parts.0 ∙ unnamed_clause key n i c parts.1

unnamed_clauses : (key : Key) (n i : ℕ) (cs : List (List Pred)) → list_any (list_any (names key)) cs ≡ false → flat_map (clause_entries key n) (enumerate_from i cs) ≡ []
unnamed_clauses key n i [] h = refl
unnamed_clauses key n i (c ∷ cs) h =
    let parts = or_parts (list_any (names key) c) (list_any (list_any (names key)) cs) h in
    ap (λ l. l ++ flat_map (clause_entries key n) (enumerate_from (i + 1) cs)) (unnamed_clause key n i c parts.0) ∙ unnamed_clauses key n (i + 1) cs parts.1

unnamed_all : (key : Key) (n : ℕ) (es : List Cnf) → list_any (is_named_in key) es ≡ false → flat_map (expression_entries key) (enumerate_from n es) ≡ []
unnamed_all key n [] h = refl
unnamed_all key n (e ∷ es) h =
    let parts = or_parts (is_named_in key e) (list_any (is_named_in key) es) h in
    ap (λ l. l ++ flat_map (expression_entries key) (enumerate_from (n + 1) es)) (unnamed_clauses key n 0 e.clauses parts.0) ∙ unnamed_all key (n + 1) es parts.1

unnamed : (es : List Cnf) (key : Key) → is_named es key ≡ false → entries_of es key ≡ []
unfolding entries_of is_named
unnamed es key h = unnamed_all key 0 es h

found_within : {X : Type 0} (p : X → Bool) (xs : List X) → list_any p xs ≡ true → position_or_len p xs < length xs
found_within p [] h = absurd (false≢true h)
found_within p (x ∷ xs) h = by (p x) h (found_within p xs)
  where
    by : (b : Bool) → (b || list_any p xs) ≡ true → (list_any p xs ≡ true → position_or_len p xs < length xs) → cond (not b) (1 + position_or_len p xs) 0 < length (x ∷ xs)
    by true e later = omega arith
    by false e later = omega (arith, later e)

position_none : {X : Type 0} (p : X → Bool) (xs : List X) → position p xs ≡ None → list_any p xs ≡ false
position_none p xs e =
    elim (cases_Bool (list_any p xs)) [
      | inl any ↦ absurd (none_some (position_or_len p xs) (sym e ∙ ap (λ b. cond b (Some (position_or_len p xs)) None) (lt-ltb (position_or_len p xs) (length xs) (found_within p xs any))))
      | inr none ↦ none
    ]

any_at : {X : Type 0} (p : X → Bool) (xs : List X) (n : ℕ) (d : X) → n < length xs → p (get_or xs n d) ≡ true → list_any p xs ≡ true
any_at p [] n d h t = absurd (omega (arith, h))
any_at p (x ∷ xs) zero d h t = ap (λ b. b || list_any p xs) t
any_at p (x ∷ xs) (suc n) d h t = either (p x) (list_any p xs) (any_at p xs n d (omega (arith, h)) t)
  where
    either : (b c : Bool) → c ≡ true → (b || c) ≡ true
    either true c e = refl
    either false c e = e

module _ (es : List Cnf) (index : CnfIndex) (is : IsIndexOf es index) where
  -- what stands at the key's place is its list
  list_there : (key : Key) → list_at index key ≡ cond (is_named es key) (Some (entries_of es key)) None
  list_there key = by (position (same_key key) (keys index.keys)) refl
    where
      at_none : (b : Bool) → b ≡ false → None ≡ cond b (Some (entries_of es key)) None
      at_none true e = absurd (false≢true (sym e))
      at_none false e = refl

      at_some : (b : Bool) → b ≡ true → Some (entries_of es key) ≡ cond b (Some (entries_of es key)) None
      at_some true e = refl
      at_some false e = absurd (false≢true e)

      by : (o : Option ℕ) → position (same_key key) (keys index.keys) ≡ o → option_and_then (slice_get index.lists) o ≡ cond (is_named es key) (Some (entries_of es key)) None
      by None e = at_none (is_named es key) (sym (is.named key) ∙ position_none (same_key key) (keys index.keys) e)
      by (Some n) e =
          let at = position-Some (same_key key) (keys index.keys) n key e in
          let here : slice_get (keys index.keys) n ≡ Some (get_or (keys index.keys) n key) = slice_get-get_or (keys index.keys) n key at.0 in
          let there : list_any (same_key key) (keys index.keys) ≡ true = any_at (same_key key) (keys index.keys) n key at.0 at.1 in
          ap (λ (l : List (List Entry)). slice_get l n) is.lists
          ∙ slice_get-map (entries_of es) (keys index.keys) n
          ∙ mapped (slice_get (keys index.keys) n) (get_or (keys index.keys) n key) here
          ∙ ap (λ (k : Key). Some (entries_of es k)) (sym (key_same key (get_or (keys index.keys) n key) at.1))
          ∙ at_some (is_named es key) (sym (is.named key) ∙ there)
        where
          mapped : (o : Option Key) (k : Key) → o ≡ Some k → option_map (entries_of es) o ≡ Some (entries_of es k)
          mapped o k e = ap (option_map (entries_of es)) e

  -- all entries that are found
  pub found_entries : (a : Pairs) → flat_map (λ (l : List Entry). l) (found_lists a index) ≡ entries_for es a
  found_entries [] = refl
  found_entries (q ∷ a) =
      ap (λ (o : Option (List Entry)). flat_map (λ (l : List Entry). l) (cons_option o (found_lists a index))) (list_there (key_of q))
      ∙ by (is_named es (key_of q)) refl
      ∙ ap (λ l. entries_of es (key_of q) ++ l) (found_entries a)
    where
      by : (b : Bool) → is_named es (key_of q) ≡ b
          → flat_map (λ (l : List Entry). l) (cons_option (cond b (Some (entries_of es (key_of q))) None) (found_lists a index)) ≡ entries_of es (key_of q) ++ flat_map (λ (l : List Entry). l) (found_lists a index)
      by true e = refl
      by false e = sym (ap (λ l. l ++ flat_map (λ (l : List Entry). l) (found_lists a index)) (unnamed es (key_of q) e))

-- ---- the expressions that are true

true_has : (a : Pairs) (s : ℕ) (es : List Cnf) (z : ℕ) → Has z (filter_map (true_number a) (enumerate_from s es)) → (n : ℕ) × (e : Cnf) × (slice_get es n ≡ Some e) × (clauses_hold a e.clauses ≡ true) × (z ≡ s + n)
true_has a s [] z h = absurd h
true_has a s (e ∷ es) z h = by (clauses_hold a e.clauses) refl h (λ k. true_has a (s + 1) es z k)
  where
    further : (n : ℕ) × (d : Cnf) × (slice_get es n ≡ Some d) × (clauses_hold a d.clauses ≡ true) × (z ≡ s + 1 + n) → (n : ℕ) × (d : Cnf) × (slice_get (e ∷ es) n ≡ Some d) × (clauses_hold a d.clauses ≡ true) × (z ≡ s + n)
    further (n, d, there, holds, number) = (suc n, d, there, holds, omega (arith, number))

    by : (b : Bool) → clauses_hold a e.clauses ≡ b → Has z (cons_option (cond b (Some s) None) (filter_map (true_number a) (enumerate_from (s + 1) es)))
        → (Has z (filter_map (true_number a) (enumerate_from (s + 1) es)) → (n : ℕ) × (d : Cnf) × (slice_get es n ≡ Some d) × (clauses_hold a d.clauses ≡ true) × (z ≡ s + 1 + n))
        → (n : ℕ) × (d : Cnf) × (slice_get (e ∷ es) n ≡ Some d) × (clauses_hold a d.clauses ≡ true) × (z ≡ s + n)
    by true t (inl same) later = (zero, e, refl, t, omega (arith, same))
    by true t (inr k) later = further (later k)
    by false t k later = further (later k)

has_true : (a : Pairs) (s : ℕ) (es : List Cnf) (n z : ℕ) (e : Cnf) → slice_get es n ≡ Some e → clauses_hold a e.clauses ≡ true → z ≡ s + n → Has z (filter_map (true_number a) (enumerate_from s es))
has_true a s [] n z e there holds is = absurd (none_some e there)
has_true a s (d ∷ es) zero z e there holds is =
    let here : clauses_hold a d.clauses ≡ true = ap (λ (x : Cnf). clauses_hold a x.clauses) (same_Some d e there) ∙ holds in
    subst (λ b. Has z (cons_option (cond b (Some s) None) (filter_map (true_number a) (enumerate_from (s + 1) es)))) (sym here) (inl (omega (arith, is)))
has_true a s (d ∷ es) (suc n) z e there holds is = by (clauses_hold a d.clauses) (has_true a (s + 1) es n z e there holds (omega (arith, is)))
  where
    by : (b : Bool) → Has z (filter_map (true_number a) (enumerate_from (s + 1) es)) → Has z (cons_option (cond b (Some s) None) (filter_map (true_number a) (enumerate_from (s + 1) es)))
    by true k = inr k
    by false k = k

up_true : (a : Pairs) (s : ℕ) (es : List Cnf) → Up (filter_map (true_number a) (enumerate_from s es))
up_true a s [] = tt
up_true a s (e ∷ es) = by (clauses_hold a e.clauses) (up_true a (s + 1) es)
  where
    by : (b : Bool) → Up (filter_map (true_number a) (enumerate_from (s + 1) es)) → Up (cons_option (cond b (Some s) None) (filter_map (true_number a) (enumerate_from (s + 1) es)))
    by true later = (λ z h. let (n, d, there, holds, number) = true_has a (s + 1) es z h in omega (arith, number), later)
    by false later = later

-- ---- an expression that is true has an entry that is found, or stands in the zero list

enumerated_has : {X : Type 0} (s : ℕ) (xs : List X) (n : ℕ) (x : X) → slice_get xs n ≡ Some x → Has (s + n, x) (enumerate_from s xs)
enumerated_has s [] n x there = absurd (none_some x there)
enumerated_has {X} s (y ∷ xs) zero x there =
    let start : s + 0 ≡ s = omega arith in
    inl (ap (λ (m : ℕ). (m, x)) start ∙ ap (λ (v : X). (s, v)) (sym (same_Some y x there)))
enumerated_has {X} s (y ∷ xs) (suc n) x there =
    let next : s + 1 + n ≡ s + suc n = omega arith in
    inr (subst (λ m. Has (m, x) (enumerate_from (s + 1) xs)) next (enumerated_has (s + 1) xs n x there))

placed_has : {X : Type 0} (xs : List X) (n : ℕ) (x : X) → slice_get xs n ≡ Some x → Has (n, x) (enumerate_from 0 xs)
placed_has {X} xs n x there =
    let start : 0 + n ≡ n = omega arith in
    subst (λ (m : ℕ). Has {X = ℕ × X} (m, x) (enumerate_from 0 xs)) start (enumerated_has 0 xs n x there)

one_fails : {X : Type 0} (p : X → Bool) (xs : List X) → list_all p xs ≡ false → (i : ℕ) × (x : X) × (slice_get xs i ≡ Some x) × (p x ≡ false)
one_fails p [] h = absurd (false≢true (sym h))
one_fails p (x ∷ xs) h =
    elim (cases_Bool (p x)) [
      | inl e ↦ let (i, y, there, fails) = one_fails p xs (sym (ap (λ b. b && list_all p xs) e) ∙ h) in (suc i, y, there, fails)
      | inr e ↦ (zero, x, refl, e)
    ]

all_at : {X : Type 0} (p : X → Bool) (xs : List X) (i : ℕ) (x : X) → list_all p xs ≡ true → slice_get xs i ≡ Some x → p x ≡ true
all_at p [] i x h there = absurd (none_some x there)
all_at p (y ∷ xs) zero x h there = ap p (sym (same_Some y x there)) ∙ (and_parts (p y) (list_all p xs) h).0
all_at p (y ∷ xs) (suc i) x h there = all_at p xs i x (and_parts (p y) (list_all p xs) h).1 there

none_has : {X : Type 0} (p : X → Bool) (xs : List X) (x : X) → list_any p xs ≡ false → Has x xs → p x ≡ false
none_has p [] x h k = absurd k
none_has p (y ∷ xs) x h (inl e) = ap p e ∙ (or_parts (p y) (list_any p xs) h).0
none_has p (y ∷ xs) x h (inr k) = none_has p xs x (or_parts (p y) (list_any p xs) h).1 k

zero_has : (s : ℕ) (es : List Cnf) (n : ℕ) (e : Cnf) → slice_get es n ≡ Some e → needs_none e ≡ true → Has (s + n) (filter_map zero_place (enumerate_from s es))
zero_has s es n e there needs = has_found zero_place (enumerate_from s es) (s + n, e) (s + n) (enumerated_has s es n e there) (ap (λ b. cond b (Some (s + n)) None) needs)

zero_member : (es : List Cnf) (n : ℕ) (e : Cnf) → slice_get es n ≡ Some e → needs_none e ≡ true → Has n (zero_list es)
unfolding zero_list
zero_member es n e there needs =
    let start : 0 + n ≡ n = omega arith in
    subst (λ m. Has m (filter_map zero_place (enumerate_from 0 es))) start (zero_has 0 es n e there needs)

abbrev entry : ℕ → ℕ → Pred → Entry
entry n i p = record { expression = n; clause = i; negated = p.negated }

entry_has : (es : List Cnf) (key : Key) (n i : ℕ) (e : Cnf) (c : List Pred) (p : Pred) → slice_get es n ≡ Some e → slice_get e.clauses i ≡ Some c → Has p c → names key p ≡ true
    → Has (entry n i p) (entries_of es key)
unfolding entries_of
entry_has es key n i e c p in_es in_e in_c named =
    has_spread (expression_entries key) (enumerate_from 0 es) (n, e) (entry n i p) (placed_has es n e in_es)
    (has_spread (clause_entries key n) (enumerate_from 0 e.clauses) (i, c) (entry n i p) (placed_has e.clauses i c in_e)
    (has_found (entry_under key n i) c p (entry n i p) in_c (ap (λ b. cond b (Some (entry n i p)) None) named)))

plain_in : (n t : Bool) → n ≡ false → cond n (not t) t ≡ true → t ≡ true
plain_in true t e h = absurd (false≢true (sym e))
plain_in false t e h = h

candidate : (a : Pairs) (es : List Cnf) (n : ℕ) (e : Cnf) → are_single a ≡ true → slice_get es n ≡ Some e → clauses_hold a e.clauses ≡ true
    → Has n (map (λ (x : Entry). x.expression) (entries_for es a) ++ zero_list es)
candidate a es n e single there holds =
    let listed = map (λ (x : Entry). x.expression) (entries_for es a) in
    elim (cases_Bool (needs_none e)) [
      | inl needs ↦ has_right listed (zero_list es) n (zero_member es n e there needs)
      | inr one ↦
          let (i, c, in_e, none) = one_fails (list_any (λ (p : Pred). p.negated)) e.clauses one in
          let (p, in_c, true_p) = any_has (pred_holds a) c (all_at (clause_holds a) e.clauses i c holds in_e) in
          let plain : p.negated ≡ false = none_has (λ (r : Pred). r.negated) c p none in_c in
          let inside : is_in a p ≡ true = plain_in p.negated (is_in a p) plain true_p in
          let (q, in_a, named) = any_has (named_by p) a (in_some p a single ∙ inside) in
          let stands : Has (entry n i p) (entries_for es a) = has_spread (λ (r : Attr × List ℕ). entries_of es (key_of r)) a q (entry n i p) in_a (entry_has es (key_of q) n i e c p there in_e in_c named) in
          has_left listed (zero_list es) n (has_mapped (λ (x : Entry). x.expression) (entries_for es a) (entry n i p) stands)
    ]

-- ---- the answer

within_at : {X : Type 0} (xs : List X) (k : ℕ) → k < length xs → (x : X) × (slice_get xs k ≡ Some x)
within_at [] k h = absurd (omega (arith, h))
within_at (x ∷ xs) zero h = (x, refl)
within_at (x ∷ xs) (suc k) h = within_at xs k (omega (arith, h))

numbered : (b c : Bool) (n z : ℕ) → cond (b && c) (Some (n + 1)) None ≡ Some z → (b ≡ true) × (z ≡ 1 + n)
numbered true true n z e = let same : n + 1 ≡ z = same_Some (n + 1) z e in (refl, omega (arith, same))
numbered true false n z e = absurd (none_some z e)
numbered false c n z e = absurd (none_some z e)

fits : (b c : Bool) (n : ℕ) → b ≡ true → c ≡ true → cond (b && c) (Some (n + 1)) None ≡ Some (n + 1)
fits true true n e f = refl
fits true false n e f = absurd (false≢true f)
fits false c n e f = absurd (false≢true e)

module _ (a : Pairs) (single : are_single a ≡ true) (es : List Cnf) (kept : AreKept es) (few : length es ≤ 4096) where
  abbrev left : List ℕ
  left = mark_all (all_negated es) (entries_for es a)

  abbrev candidates : List ℕ
  candidates = map (λ (x : Entry). x.expression) (entries_for es a) ++ zero_list es

  found_is_true : (z : ℕ) → Has z (filter_map (number_left left) candidates) → Has z (true_under a es)
  found_is_true z h =
      let (n, in_candidates, number) = found_has (number_left left) candidates z h in
      let (so, is) = numbered (is_left left n) (nat_lt n 4294967295) n z number in
      let within : n * 16 + 16 ≤ length left = leb-true (n * 16 + 16) (length left) (and_parts (nat_le (n * 16 + 16) (length left)) (list_all (nat_lt 0) (take 16 (drop (n * 16) left))) so).0 in
      let (e, there) = within_at es n (omega (arith, within, left_length es a)) in
      has_true a 1 es n z e there (sym (left_is_truth a es n e kept single there) ∙ so) is

  true_is_found : (z : ℕ) → Has z (true_under a es) → Has z (filter_map (number_left left) candidates)
  true_is_found z h =
      let (n, e, there, holds, is) = true_has a 1 es z h in
      let so : is_left left n ≡ true = left_is_truth a es n e kept single there ∙ holds in
      let low : nat_lt n 4294967295 ≡ true = lt-ltb n 4294967295 (omega (arith, few, slice_get_within es n e there)) in
      let same : n + 1 ≡ z = omega (arith, is) in
      subst (λ (y : ℕ). Has y (filter_map (number_left left) candidates)) same
      (has_found (number_left left) candidates n (n + 1) (candidate a es n e single there holds) (fits (is_left left n) (nat_lt n 4294967295) n so low))

  -- sorted and each once
  answer_is : (numbers sorted : List ℕ) → numbers ≡ filter_map (number_left left) candidates → IsPermutation numbers sorted → IsSorted nat_cmp sorted → dedup eqb sorted ≡ true_under a es
  answer_is numbers sorted is moved rising =
      one_order (dedup eqb sorted) (true_under a es)
      (up_from_increasing (dedup eqb sorted) (IsStrictlyIncreasing-dedup sorted rising))
      (up_true a 1 es)
      (λ z h. found_is_true z (subst (λ (l : List ℕ). Has z l) is (has_from_contains numbers z (Contains-permutation sorted numbers z (IsPermutation-sym numbers sorted moved)
      (Contains-from_dedup eqb sorted z (contains_from_has (dedup eqb sorted) z h))))))
      (λ z h. has_from_contains (dedup eqb sorted) z (Contains-dedup_nat sorted z (Contains-permutation numbers sorted z moved
      (contains_from_has numbers z (subst (λ (l : List ℕ). Has z l) (sym is) (true_is_found z h))))))

pub answered : {V : Type 0} (v : V → List Entry) (vs : List V) (a pairs : Pairs) (es : List Cnf) (index : CnfIndex) (left numbers sorted : List ℕ)
    → are_single a ≡ true → IsIndexOf es index → pairs ≡ a → map v vs ≡ found_lists pairs index → left ≡ mark_all index.negated (flat_map v vs)
    → numbers ≡ filter_map (number_left left) (map (λ (x : Entry). x.expression) (flat_map v vs) ++ index.zeros)
    → IsPermutation numbers sorted → IsSorted nat_cmp sorted → dedup eqb sorted ≡ true_under a es
answered v vs a pairs es index left numbers sorted single is same lists marks are moved rising =
    let found = entries_for es a in
    let entries : flat_map v vs ≡ found =
    sym (flat_map-map (λ (l : List Entry). l) v vs) ∙ ap (flat_map (λ (l : List Entry). l)) lists
    ∙ ap (λ (p : Pairs). flat_map (λ (l : List Entry). l) (found_lists p index)) same ∙ found_entries es index is a in
    let whole : left ≡ mark_all (all_negated es) found = marks ∙ ap (λ l. mark_all l (flat_map v vs)) is.negated ∙ ap (mark_all (all_negated es)) entries in
    let numbers_of = λ (l : List ℕ) (f : List Entry) (z : List ℕ). filter_map (number_left l) (map (λ (x : Entry). x.expression) f ++ z) in
    answer_is a single es is.kept is.few numbers sorted
    (are ∙ ap (λ l. numbers_of l (flat_map v vs) index.zeros) whole
    ∙ ap (λ f. numbers_of (mark_all (all_negated es) found) f index.zeros) entries
    ∙ ap (λ z. numbers_of (mark_all (all_negated es) found) found z) is.zeros)
    moved rising

-- ---- what it costs

sum_mapped : {X Y : Type 0} (f : Y → ℕ) (v : X → Y) (xs : List X) → sum_by f (map v xs) ≡ sum_by (λ x. f (v x)) xs
sum_mapped f v [] = refl
sum_mapped f v (x ∷ xs) = omega (arith, sum_by-cons f (v x) (map v xs), sum_by-cons (λ y. f (v y)) x xs, sum_mapped f v xs)

pub cost_is : {V : Type 0} (v : V → List Entry) (vs : List V) (a pairs : Pairs) (index : CnfIndex) (start middle end : ℕ)
    → pairs ≡ a → map v vs ≡ found_lists pairs index → middle ≤ start + sum_by (λ x. length (v x)) vs
    → end ≤ middle + (sum_by (λ x. length (v x)) vs + length index.zeros) → end ≤ start + find_cost index a
cost_is v vs a pairs index start middle end same lists first later =
    let read : sum_by length (found_lists a index) ≡ sum_by (λ x. length (v x)) vs =
    ap (λ (p : Pairs). sum_by length (found_lists p index)) (sym same) ∙ ap (sum_by length) (sym lists) ∙ sum_mapped length v vs in
    omega (arith, read, first, later)
