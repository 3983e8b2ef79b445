-- The lists that are found in a part serve it.
use Rattle.std.proofs.Common.{◌≡◌, ℕ, zero, suc, ◌+◌, ◌-◌, ◌<◌, ◌==◌, ◌&&◌, ◌||◌, not, inl, inr, List, [], ◌∷◌, ◌++◌, length, get_or, position, Bool, true, false, cond, map, Option, Some, None, refl, sym, ◌∙◌, ap, arith, nat_lt, length-append}
use Rattle.std.specs.Prelude.{option_map, option_and_then, find}
use Rattle.std.specs.List.{cons_option, enumerate_from, filter_map, list_any, position_or_len}
use Rattle.std.specs.Option.{option_map_or}
use Rattle.std.specs.Str.{bytes_eq}
use Rattle.std.proofs.lemmas.Bool.{and_parts, cases_Bool, or_parts, false≢true, eqb-true}
use Rattle.std.proofs.lemmas.Bool.Decides.{nat_tests}
use Rattle.std.proofs.lemmas.List.{length-map, map-append}
use Rattle.std.proofs.Math.Seq.{get_or-append_seam}
use Rattle.std.proofs.Math.ListN.{get_or-append}
use Rattle.std.proofs.lemmas.List.Quantifiers.{position-Some}
use Rattle.std.proofs.lemmas.Slice.Eq.{bytes_eq-Decides}
use Rattle.indexmap.specs.IndexMap.{keys}
use Rattle.postings.specs.declared.entry.Entry.{Entry}
use Rattle.target_expr.specs.declared.attr.Attr.{Attr}
use Rattle.target_expr.specs.declared.pred.Pred.{Pred}
use Rattle.target_expr.specs.Attributes.{number_of}
use Rattle.target_expr.specs.Pairs.{size_of}
use Rattle.target_expr.specs.Truth.{same_attr}
use Rattle.target_expr.proofs.Attributes.{same_number}
use Rattle.conj_index.specs.declared.key.Key.{Key}
use Rattle.conj_index.specs.declared.part.Part.{Part}
use Rattle.conj_index.specs.Content.{IsPartOf, Listed, entries_of, entry_under, is_named, names, of_size, same_key, zero_entries, zero_lists}
use Rattle.conj_index.specs.Cost.{list_under, lists_under}
use Rattle.conj_index.specs.Find.{found_lists, key_lists, key_of, key_place, zero_place}
use Rattle.conj_index.proofs.Entries.{has, numbered as numbered_entries}
use Rattle.conj_index.proofs.Found.{Serves}

abbrev Pairs : Type 0
Pairs = List (Attr × List ℕ)

-- ---- keys that are one

pub attr_same : (a b : Attr) → same_attr a b ≡ true → a ≡ b
attr_same a b e =
    let same : number_of a ≡ number_of b = eqb-true (number_of a) (number_of b) e in
    same_number a b same

pub key_same : (a b : Key) → same_key a b ≡ true → a ≡ b
key_same a b e =
    let parts = and_parts (same_attr a.attr b.attr) (bytes_eq a.value b.value) e in
    let attrs : a.attr ≡ b.attr = attr_same a.attr b.attr parts.0 in
    let values : a.value ≡ b.value = (bytes_eq-Decides a.value b.value).0 parts.1 in
    (λ i. record { attr = attrs i; value = values i })

-- ---- a key that is not named has no entry

not_found : {X : Type 0} (p : X → Bool) (xs : List X) → list_any p xs ≡ false → find p xs ≡ None
not_found p [] h = refl
not_found {X} p (x ∷ xs) h =
    let parts = or_parts (p x) (list_any p xs) h in
    ap (λ b. cond b (Some x) (find p xs)) parts.0 ∙ not_found p xs parts.1

none_entered : (n k : ℕ) (key : Key) (cs : List Listed) → list_any (λ (c : Listed). (size_of c.preds == k) && list_any (names key) c.preds) cs ≡ false → numbered_entries n k key cs ≡ []
none_entered n k key [] h = refl
none_entered n k key (c ∷ cs) h =
    let parts = or_parts ((size_of c.preds == k) && list_any (names key) c.preds) (list_any (λ (d : Listed). (size_of d.preds == k) && list_any (names key) d.preds) cs) h in
    by (size_of c.preds == k) parts.0 (none_entered (n + 1) k key cs parts.1)
  where
    by : (b : Bool) → (b && list_any (names key) c.preds) ≡ false → numbered_entries (n + 1) k key cs ≡ [] → filter_map (entry_under key) (cond b ((n, c) ∷ of_size k (enumerate_from (n + 1) cs)) (of_size k (enumerate_from (n + 1) cs))) ≡ []
    by true e later = ap (λ (o : Option Pred). cons_option (option_map (λ (p : Pred). record { id = n; negated = p.negated }) o) (numbered_entries (n + 1) k key cs)) (not_found (names key) c.preds e) ∙ later
    by false e later = later

pub no_entries : (k : ℕ) (cs : List Listed) (key : Key) → is_named k cs key ≡ false → entries_of k cs key ≡ []
unfolding entries_of is_named
no_entries k cs key h = none_entered 0 k key cs h

-- ---- the lists at the chosen places

abbrev pub list_found : ℕ → Part → Attr × List ℕ → Option (List Entry)
list_found k part q = option_map (λ n. get_or part.lists n []) (key_place k part (key_of q))

mapped_found : (k : ℕ) (part : Part) (a : Pairs) → map (λ n. get_or part.lists n []) (filter_map (key_place k part) (map key_of a)) ≡ filter_map (list_found k part) a
mapped_found k part [] = refl
mapped_found k part (q ∷ a) = by (key_place k part (key_of q)) (filter_map (key_place k part) (map key_of a)) ∙ ap (cons_option (list_found k part q)) (mapped_found k part a)
  where
    by : (o : Option ℕ) (rest : List ℕ) → map (λ n. get_or part.lists n []) (cons_option o rest) ≡ cons_option (option_map (λ n. get_or part.lists n []) o) (map (λ n. get_or part.lists n []) rest)
    by None rest = refl
    by (Some n) rest = refl

last_of : {X : Type 0} (xs : List X) (x d : X) (n : ℕ) → n ≡ length xs → get_or (xs ++ x ∷ []) n d ≡ x
last_of xs x d n e = ap (λ m. get_or (xs ++ x ∷ []) m d) e ∙ get_or-append_seam xs x [] d

one_more : {X : Type 0} (xs : List X) (x : X) → length (xs ++ x ∷ []) ≡ length xs + 1
one_more xs x = omega (arith, length-append xs (x ∷ []))

at_end : (front : List (List Entry)) (last : List Entry) (lists : List (List Entry)) → lists ≡ front ++ last ∷ []
    → map (λ n. get_or lists n []) (cons_option (cond (nat_lt 0 (length lists)) (Some (length lists - 1)) None) []) ≡ last ∷ []
at_end front last lists e =
    let long : length lists ≡ length front + 1 = ap length e ∙ one_more front last in
    let there : get_or lists (length lists - 1) [] ≡ last = ap (λ (l : List (List Entry)). get_or l (length lists - 1) []) e ∙ last_of front last [] (length lists - 1) (omega (arith, long)) in
    ap (λ b. map (λ n. get_or lists n []) (cons_option (cond b (Some (length lists - 1)) None) [])) (some (length lists) (length front) long) ∙ ap (λ (x : List Entry). x ∷ []) there
  where
    some : (m n : ℕ) → m ≡ n + 1 → nat_lt 0 m ≡ true
    some m n e = grind (arith, nat_tests, e)

zero_found : (k : ℕ) (cs : List Listed) (part : Part) → IsPartOf k cs part → map (λ n. get_or part.lists n []) (cons_option (zero_place k part) []) ≡ zero_lists k cs
zero_found k cs part is = by (k == 0) is.lists
  where
    by : (b : Bool) → part.lists ≡ map (entries_of k cs) (keys part.keys) ++ cond b (zero_entries cs ∷ []) []
        → map (λ n. get_or part.lists n []) (cons_option (cond (b && nat_lt 0 (length part.lists)) (Some (length part.lists - 1)) None) []) ≡ cond b (zero_entries cs ∷ []) []
    by true e = at_end (map (entries_of k cs) (keys part.keys)) (zero_entries cs) part.lists e
    by false e = refl

-- ---- the list of a key

-- as many lists of keys as there are keys
pub key_lists_are : (k : ℕ) (cs : List Listed) (part : Part) → IsPartOf k cs part → key_lists k part ≡ length (keys part.keys)
key_lists_are k cs part is = by (k == 0) is.lists
  where
    by : (b : Bool) → part.lists ≡ map (entries_of k cs) (keys part.keys) ++ cond b (zero_entries cs ∷ []) [] → length part.lists - cond b 1 0 ≡ length (keys part.keys)
    by true e = omega (arith, ap length e, one_more (map (entries_of k cs) (keys part.keys)) (zero_entries cs), length-map (keys part.keys) (entries_of k cs))
    by false e = omega (arith, ap length e, length-append (map (entries_of k cs) (keys part.keys)) [], length-map (keys part.keys) (entries_of k cs))

get_or-mapped : {X Y : Type 0} (f : X → Y) (xs : List X) (i : ℕ) (d : X) (e : Y) → i < length xs → get_or (map f xs) i e ≡ f (get_or xs i d)
get_or-mapped f [] i d e h = absurd (omega arith)
get_or-mapped f (x ∷ xs) zero d e h = refl
get_or-mapped f (x ∷ xs) (suc i) d e h = get_or-mapped f xs i d e (omega arith)

list_at : (k : ℕ) (cs : List Listed) (part : Part) → IsPartOf k cs part → (n : ℕ) (d : Key) → n < length (keys part.keys) → get_or part.lists n [] ≡ entries_of k cs (get_or (keys part.keys) n d)
list_at k cs part is n d h =
    ap (λ (l : List (List Entry)). get_or l n []) is.lists
    ∙ get_or-append (map (entries_of k cs) (keys part.keys)) (zero_lists k cs) [] n (omega (arith, length-map (keys part.keys) (entries_of k cs)))
    ∙ get_or-mapped (entries_of k cs) (keys part.keys) n d [] h

found_within : {X : Type 0} (p : X → Bool) (xs : List X) → list_any p xs ≡ true → position_or_len p xs < length xs
found_within p [] h = absurd (false≢true h)
found_within p (x ∷ xs) h = by (p x) h (found_within p xs)
  where
    by : (b : Bool) → (b || list_any p xs) ≡ true → (list_any p xs ≡ true → position_or_len p xs < length xs) → cond (not b) (1 + position_or_len p xs) 0 < length (x ∷ xs)
    by true e later = omega arith
    by false e later = omega (arith, later e)

position_none : {X : Type 0} (p : X → Bool) (xs : List X) → position p xs ≡ None → list_any p xs ≡ false
position_none p xs e =
    elim (cases_Bool (list_any p xs)) [
      | inl any ↦ absurd (none_some (position_or_len p xs) (sym (ap (λ b. cond b (Some (position_or_len p xs)) None) (below (position_or_len p xs) (length xs) (found_within p xs any))) ∙ e))
      | inr none ↦ none
    ]
  where
    below : (m l : ℕ) → m < l → nat_lt m l ≡ true
    below m l h = grind (arith, nat_tests, h)

    none_some : (n : ℕ) → Some n ≡ None → ⊥
    none_some n e = cc

-- what is found under a key is the list of its entries, where a conjunction names it
list_is : (k : ℕ) (cs : List Listed) (part : Part) → IsPartOf k cs part → (q : Attr × List ℕ) → list_found k part q ≡ list_under k cs q
list_is k cs part is q = by (position (same_key (key_of q)) (keys part.keys)) refl
  where
    at_none : (b : Bool) → b ≡ false → None ≡ cond b (Some (entries_of k cs (key_of q))) None
    at_none true e = absurd (false≢true (sym e))
    at_none false e = refl

    at_some : (b : Bool) → b ≡ true → Some (entries_of k cs (key_of q)) ≡ cond b (Some (entries_of k cs (key_of q))) None
    at_some true e = refl
    at_some false e = absurd (false≢true e)

    by : (o : Option ℕ) → position (same_key (key_of q)) (keys part.keys) ≡ o
        → option_map (λ n. get_or part.lists n []) (option_and_then (λ n. cond (nat_lt n (key_lists k part)) (Some n) None) o) ≡ list_under k cs q
    by None e = at_none (is_named k cs (key_of q)) (sym (is.named (key_of q)) ∙ position_none (same_key (key_of q)) (keys part.keys) e)
    by (Some n) e =
        let at = position-Some (same_key (key_of q)) (keys part.keys) n (key_of q) e in
        let within : nat_lt n (key_lists k part) ≡ true = below n (key_lists k part) (omega (arith, at.0, key_lists_are k cs part is)) in
        let there : list_any (same_key (key_of q)) (keys part.keys) ≡ true = any_at (same_key (key_of q)) (keys part.keys) n (key_of q) at.0 at.1 in
        ap (λ b. option_map (λ m. get_or part.lists m []) (cond b (Some n) None)) within
        ∙ ap (λ (l : List Entry). Some l) (list_at k cs part is n (key_of q) at.0 ∙ ap (entries_of k cs) (sym (key_same (key_of q) (get_or (keys part.keys) n (key_of q)) at.1)))
        ∙ at_some (is_named k cs (key_of q)) (sym (is.named (key_of q)) ∙ there)
      where
        below : (m l : ℕ) → m < l → nat_lt m l ≡ true
        below m l h = grind (arith, nat_tests, h)

        or_any : (a b : Bool) → b ≡ true → (a || b) ≡ true
        or_any true b e = refl
        or_any false b e = e

        any_at : {X : Type 0} (p : X → Bool) (xs : List X) (n : ℕ) (d : X) → n < length xs → p (get_or xs n d) ≡ true → list_any p xs ≡ true
        any_at p [] n d h t = absurd (omega arith)
        any_at p (x ∷ xs) zero d h t = ap (λ b. b || list_any p xs) t
        any_at p (x ∷ xs) (suc n) d h t = or_any (p x) (list_any p xs) (any_at p xs n d (omega arith) t)

pub lists_are : (a : Pairs) (k : ℕ) (cs : List Listed) (part : Part) → IsPartOf k cs part → found_lists a k part ≡ lists_under a cs k
lists_are a k cs part is =
    map-append (λ n. get_or part.lists n []) (filter_map (key_place k part) (map key_of a)) (cons_option (zero_place k part) [])
    ∙ ap (λ l. l ++ map (λ n. get_or part.lists n []) (cons_option (zero_place k part) [])) (mapped_found k part a ∙ each a)
    ∙ ap (λ l. filter_map (list_under k cs) a ++ l) (zero_found k cs part is)
  where
    each : (b : Pairs) → filter_map (list_found k part) b ≡ filter_map (list_under k cs) b
    each [] = refl
    each (q ∷ b) = ap (λ o. cons_option o (filter_map (list_found k part) b)) (list_is k cs part is q) ∙ ap (cons_option (list_under k cs q)) (each b)

pub serves : (k : ℕ) (cs : List Listed) (part : Part) (a : Pairs) → IsPartOf k cs part → Serves k cs a (found_lists a k part)
serves k cs part a is = record {
  found = list_under k cs;
  are = lists_are a k cs part is;
  same = λ kind id q. shown kind id q (is_named k cs (key_of q)) refl;
}
  where
    shown : (kind : Bool → Bool) (id : ℕ) (q : Attr × List ℕ) (b : Bool) → is_named k cs (key_of q) ≡ b → option_map_or (has kind id) (cond b (Some (entries_of k cs (key_of q))) None) false ≡ has kind id (entries_of k cs (key_of q))
    shown kind id q true e = refl
    shown kind id q false e = sym (ap (has kind id) (no_entries k cs (key_of q) e))
