-- A part after one pair more.
use Rattle.std.proofs.Common.{◌≡◌, ℕ, zero, suc, ◌+◌, ◌<◌, ◌==◌, length, get_or, set, slice_get, subst, ◌&&◌, ◌||◌, not, List, [], ◌∷◌, ◌++◌, Bool, true, false, cond, Some, None, map, refl, sym, ◌∙◌, ap, arith}
use Rattle.std.specs.List.{AllByRecursion, IsDistinct, cons_option, list_any, position_or_len}
use Rattle.std.specs.Str.{bytes_eq}
use Rattle.std.specs.Map.{keys_of}
use Rattle.std.proofs.lemmas.Bool.{and_from, eq-eqb, ne_eqb, or_parts}
use Rattle.std.proofs.lemmas.Option.{slice_get-get_or, same_Some}
use Rattle.std.proofs.lemmas.List.{append-nil}
use Rattle.std.proofs.lemmas.List.Elements.{filter_map-append}
use Rattle.std.proofs.lemmas.List.Folds.{list_any-append}
use Rattle.std.proofs.lemmas.Slice.Eq.{bytes_eq-Decides}
use Rattle.std.specs.Cmp.Derive.{one_truth}
use Rattle.indexmap.specs.IndexMap.{insert_entry, keys}
use Rattle.postings.specs.declared.entry.Entry.{Entry}
use Rattle.target_expr.specs.declared.pred.Pair.{Pair}
use Rattle.target_expr.specs.Attributes.{number_of}
use Rattle.target_expr.specs.Truth.{same_attr}
use Rattle.conj_index.specs.contracts.key.KeyPartialEq.TheImpl.{eq-value}
use Rattle.conj_index.specs.declared.key.Key.{Key}
use Rattle.conj_index.specs.declared.growing.Growing.{Growing}
use Rattle.conj_index.specs.Content.{same_key}
use Rattle.conj_index.specs.Growing.{AreGrown, HasZeroList, IsGrown, entry_of, is_of, kept_entry, lists_of, pair_entries, pair_key, with_entry, with_key}
use Rattle.conj_index.proofs.KeyEq.{key_eq}
use Rattle.conj_index.proofs.Served.{key_same}

-- ---- keys

own_key : (a : Key) → same_key a a ≡ true
own_key a = and_from (same_attr a.attr a.attr) (bytes_eq a.value a.value) (eq-eqb (number_of a.attr) (number_of a.attr) refl) ((bytes_eq-Decides a.value a.value).1 refl)

turned : (a b : Key) → same_key a b ≡ true → same_key b a ≡ true
turned a b h = let e : a ≡ b = key_same a b h in ap (λ k. same_key k a) (sym e) ∙ own_key a

same_turned : (a b : Key) → same_key a b ≡ same_key b a
same_turned a b = one_truth (same_key a b) (same_key b a) (turned a b) (turned b a)

or_nil : (b : Bool) → (b || false) ≡ b
or_nil true = refl
or_nil false = refl

or_again : (a r : Bool) → (a || r) ≡ ((a || r) || a)
or_again true r = refl
or_again false true = refl
or_again false false = refl

or_assoc : (a r c : Bool) → (a || (r || c)) ≡ ((a || r) || c)
or_assoc true r c = refl
or_assoc false r c = refl

-- the keys of a map after an insertion
pub inserted_keys : {V : Type 0} (es : List (Key × V)) (key : Key) (v : V) → keys_of (insert_entry eq-value.it es key v) ≡ with_key (keys_of es) key
inserted_keys [] key v = refl
inserted_keys {V} (x ∷ es) key v = by (eq-value.it key x.0) (inserted_keys es key v) ∙ ap (λ b. cond b (x.0 ∷ keys_of es) (x.0 ∷ with_key (keys_of es) key)) (key_eq key x.0)
  where
    by : (b : Bool) → keys_of (insert_entry eq-value.it es key v) ≡ with_key (keys_of es) key
        → keys_of (cond b ((x.0, v) ∷ es) (x ∷ insert_entry eq-value.it es key v)) ≡ cond b (x.0 ∷ keys_of es) (x.0 ∷ with_key (keys_of es) key)
    by true later = refl
    by false later = ap (λ l. x.0 ∷ l) later

pub distinct_keys : (ks : List Key) → IsDistinct eq-value.it ks → IsDistinct same_key ks
unfolding IsDistinct
distinct_keys [] d = tt
distinct_keys (x ∷ ks) d = (each ks d.0, distinct_keys ks d.1)
  where
    each : (ks : List Key) → AllByRecursion (λ (y : Key). eq-value.it x y ≡ false) ks → AllByRecursion (λ (y : Key). same_key x y ≡ false) ks
    each [] a = tt
    each (y ∷ ks) a = (sym (key_eq x y) ∙ a.0, each ks a.1)

pub with_key_any : (q key : Key) (ks : List Key) → list_any (same_key q) (with_key ks key) ≡ (list_any (same_key q) ks || same_key q key)
with_key_any q key [] = or_nil (same_key q key)
with_key_any q key (x ∷ ks) = by (same_key key x) refl (with_key_any q key ks)
  where
    by : (b : Bool) → same_key key x ≡ b → list_any (same_key q) (with_key ks key) ≡ (list_any (same_key q) ks || same_key q key)
        → list_any (same_key q) (cond b (x ∷ ks) (x ∷ with_key ks key)) ≡ ((same_key q x || list_any (same_key q) ks) || same_key q key)
    by true e later =
        or_again (same_key q x) (list_any (same_key q) ks)
        ∙ ap (λ (k : Key). (same_key q x || list_any (same_key q) ks) || same_key q k) (sym (key_same key x e))
    by false e later =
        ap (λ b. same_key q x || b) later ∙ or_assoc (same_key q x) (list_any (same_key q) ks) (same_key q key)

-- ---- the lists

-- the lists by the keys, after an entry is appended to the key's
module _ (f g : Key → List Entry) (key : Key) (e : Entry) (more : (q : Key) → g q ≡ f q ++ cond (same_key key q) (e ∷ []) []) where
  others : (x : Key) (ks : List Key) → same_key key x ≡ true → AllByRecursion (λ (y : Key). same_key x y ≡ false) ks → map g ks ≡ map f ks
  others x [] is apart = refl
  others x (y ∷ ks) is apart =
      let other : same_key key y ≡ false = ap (λ (k : Key). same_key k y) (key_same key x is) ∙ apart.0 in
      let head : g y ≡ f y = more y ∙ ap (λ b. f y ++ cond b (e ∷ []) []) other ∙ append-nil (f y) in
      ap (λ l. l ∷ map g ks) head ∙ ap (λ l. f y ∷ l) (others x ks is apart.1)

  pub entered : (ks : List Key) → IsDistinct same_key ks → (list_any (same_key key) ks ≡ false → f key ≡ []) → map g (with_key ks key) ≡ with_entry (map f ks) (position_or_len (same_key key) ks) e
  unfolding IsDistinct
  entered [] apart fresh =
      ap (λ l. l ∷ []) (more key ∙ ap (λ b. f key ++ cond b (e ∷ []) []) (own_key key) ∙ ap (λ l. l ++ e ∷ []) (fresh refl))
  entered (x ∷ ks) apart fresh = by (same_key key x) refl (λ none. entered ks apart.1 none)
    where
      by : (b : Bool) → same_key key x ≡ b
          → ((list_any (same_key key) ks ≡ false → f key ≡ []) → map g (with_key ks key) ≡ with_entry (map f ks) (position_or_len (same_key key) ks) e)
          → map g (cond b (x ∷ ks) (x ∷ with_key ks key)) ≡ with_entry (f x ∷ map f ks) (cond (not b) (1 + position_or_len (same_key key) ks) 0) e
      by true is later =
          ap (λ l. l ∷ map g ks) (more x ∙ ap (λ b. f x ++ cond b (e ∷ []) []) is) ∙ ap (λ l. (f x ++ e ∷ []) ∷ l) (others x ks is apart.0)
      by false is later =
          let next : suc (position_or_len (same_key key) ks) ≡ 1 + position_or_len (same_key key) ks = omega arith in
          let head : g x ≡ f x = more x ∙ ap (λ b. f x ++ cond b (e ∷ []) []) is ∙ append-nil (f x) in
          ap (λ l. l ∷ map g (with_key ks key)) head
          ∙ ap (λ l. f x ∷ l) (later (λ none. fresh (ap (λ b. b || list_any (same_key key) ks) is ∙ none)))
          ∙ ap (λ n. with_entry (f x ∷ map f ks) n e) next

-- ---- the parts

one_more : (k : ℕ) (ps : List Pair) (p : Pair) (key : Key) → pair_entries k (ps ++ p ∷ []) key ≡ pair_entries k ps key ++ cond (is_of k key p) (entry_of p ∷ []) []
one_more k ps p key = filter_map-append (kept_entry k key) ps (p ∷ []) ∙ ap (λ l. pair_entries k ps key ++ l) (by (is_of k key p))
  where
    by : (b : Bool) → cons_option (cond b (Some (entry_of p)) None) [] ≡ cond b (entry_of p ∷ []) []
    by true = refl
    by false = refl

named_more : (k : ℕ) (ps : List Pair) (p : Pair) (key : Key) → list_any (is_of k key) (ps ++ p ∷ []) ≡ (list_any (is_of k key) ps || is_of k key p)
named_more k ps p key = list_any-append (is_of k key) ps (p ∷ []) ∙ ap (λ b. list_any (is_of k key) ps || b) (or_nil (is_of k key p))

none_kept : (k : ℕ) (key : Key) (ps : List Pair) → list_any (is_of k key) ps ≡ false → pair_entries k ps key ≡ []
none_kept k key [] h = refl
none_kept k key (p ∷ ps) h =
    let parts = or_parts (is_of k key p) (list_any (is_of k key) ps) h in
    ap (λ b. cons_option (cond b (Some (entry_of p)) None) (pair_entries k ps key)) parts.0 ∙ none_kept k key ps parts.1

pub map_agree : {X Y : Type 0} (f g : X → Y) → ((x : X) → f x ≡ g x) → (xs : List X) → map f xs ≡ map g xs
map_agree f g h [] = refl
map_agree f g h (x ∷ xs) = ap (λ y. y ∷ map f xs) (h x) ∙ ap (λ l. g x ∷ l) (map_agree f g h xs)

-- a part for another size stays
pub grown_other : (k : ℕ) (ps : List Pair) (p : Pair) (part : Growing) → (p.size == k) ≡ false → IsGrown k ps part → IsGrown k (ps ++ p ∷ []) part
grown_other k ps p part other grown = record {
  unique = grown.unique;
  named = λ key. grown.named key ∙ sym (named_more k ps p key ∙ ap (λ b. list_any (is_of k key) ps || (b && same_key (pair_key p) key)) other ∙ or_nil (list_any (is_of k key) ps));
  lists = grown.lists ∙ map_agree (pair_entries k ps) (pair_entries k (ps ++ p ∷ []))
      (λ key. sym (one_more k ps p key ∙ ap (λ b. pair_entries k ps key ++ cond (b && same_key (pair_key p) key) (entry_of p ∷ []) []) other ∙ append-nil (pair_entries k ps key)))
      (keys part.keys);
}

-- and that for its own size grows
pub grown_own : (k : ℕ) (ps : List Pair) (p : Pair) (old new : Growing) → (p.size == k) ≡ true → IsGrown k ps old
    → keys new.keys ≡ with_key (keys old.keys) (pair_key p) → IsDistinct same_key (keys new.keys)
    → lists_of new ≡ with_entry (lists_of old) (position_or_len (same_key (pair_key p)) (keys old.keys)) (entry_of p)
    → IsGrown k (ps ++ p ∷ []) new
grown_own k ps p old new own grown added unique put = record {
  unique = unique;
  named = λ q. ap (list_any (same_key q)) added ∙ with_key_any q (pair_key p) (keys old.keys)
      ∙ ap (λ b. b || same_key q (pair_key p)) (grown.named q)
      ∙ ap (λ b. list_any (is_of k q) ps || b) (same_turned q (pair_key p) ∙ ap (λ b. b && same_key (pair_key p) q) (sym own))
      ∙ sym (named_more k ps p q);
  lists = put ∙ ap (λ l. with_entry l (position_or_len (same_key (pair_key p)) (keys old.keys)) (entry_of p)) grown.lists
      ∙ sym (entered (pair_entries k ps) (pair_entries k (ps ++ p ∷ [])) (pair_key p) (entry_of p) more (keys old.keys) grown.unique fresh)
      ∙ ap (map (pair_entries k (ps ++ p ∷ []))) (sym added);
}
  where
    more : (q : Key) → pair_entries k (ps ++ p ∷ []) q ≡ pair_entries k ps q ++ cond (same_key (pair_key p) q) (entry_of p ∷ []) []
    more q = one_more k ps p q ∙ ap (λ b. pair_entries k ps q ++ cond (b && same_key (pair_key p) q) (entry_of p ∷ []) []) own

    fresh : list_any (same_key (pair_key p)) (keys old.keys) ≡ false → pair_entries k ps (pair_key p) ≡ []
    fresh none = none_kept k (pair_key p) ps (sym (grown.named (pair_key p)) ∙ none)

pub grown_none : (k : ℕ) (part : Growing) → part.keys.entries ≡ [] → part.lists.items ≡ [] → IsDistinct eq-value.it (keys part.keys) → IsGrown k [] part
grown_none k part none no_list unique = record {
  unique = distinct_keys (keys part.keys) unique;
  named = λ key. ap (λ es. list_any (same_key key) (keys_of es)) none;
  lists = ap (map (λ l. l.items)) no_list ∙ sym (ap (λ es. map (pair_entries k []) (keys_of es)) none);
}

-- ---- a list, by its places

pub some_none : {X : Type 0} (x : X) → None ≡ Some x → ⊥
some_none x e = cc

pub gets_push : {V : Type 0} (P : ℕ → V → Type 0) (xs : List V) (v : V) → ((k : ℕ) (x : V) → slice_get xs k ≡ Some x → P k x) → ((k : ℕ) → P k v)
    → (k : ℕ) (x : V) → slice_get (xs ++ v ∷ []) k ≡ Some x → P k x
gets_push P [] v each new zero x is = subst (P 0) (same_Some v x is) (new 0)
gets_push P [] v each new (suc k) x is = absurd (some_none x is)
gets_push P (y ∷ xs) v each new zero x is = each 0 x is
gets_push P (y ∷ xs) v each new (suc k) x is = gets_push (λ n. P (suc n)) xs v (λ n. each (suc n)) (λ n. new (suc n)) k x is

gets_set : {V : Type 0} (P : ℕ → V → Type 0) (xs : List V) (n : ℕ) (v : V) → ((k : ℕ) (x : V) → (k ≡ n → ⊥) → slice_get xs k ≡ Some x → P k x) → P n v
    → (k : ℕ) (x : V) → slice_get (set xs n v) k ≡ Some x → P k x
gets_set P [] n v each new k x is = absurd (some_none x is)
gets_set P (y ∷ xs) zero v each new zero x is = subst (P 0) (same_Some v x is) new
gets_set P (y ∷ xs) zero v each new (suc k) x is = each (suc k) x (λ e. omega arith) is
gets_set P (y ∷ xs) (suc n) v each new zero x is = each 0 x (λ e. omega arith) is
gets_set P (y ∷ xs) (suc n) v each new (suc k) x is = gets_set (λ m. P (suc m)) xs n v (λ m z ne. each (suc m) z (λ e. ne (omega arith))) new k x is

-- the parts after a pair is entered in its own
pub grown_set : (ps : List Pair) (p : Pair) (parts : List Growing) (old new : Growing) → p.size < length parts → old ≡ get_or parts p.size old
    → keys new.keys ≡ with_key (keys old.keys) (pair_key p) → IsDistinct same_key (keys new.keys)
    → lists_of new ≡ with_entry (lists_of old) (position_or_len (same_key (pair_key p)) (keys old.keys)) (entry_of p)
    → AreGrown ps parts → AreGrown (ps ++ p ∷ []) (set parts p.size new)
grown_set ps p parts old new within is added unique put grown =
    gets_set (λ k part. IsGrown k (ps ++ p ∷ []) part) parts p.size new
    (λ k part other there. grown_other k ps p part (ne_eqb p.size k (λ e. other (sym e))) (grown k part there))
    (grown_own p.size ps p old new (eq-eqb p.size p.size refl) (grown p.size old there) added unique put)
  where
    there : slice_get parts p.size ≡ Some old
    there = slice_get-get_or parts p.size old within ∙ ap Some (sym is)

-- the parts after the zero list is appended to the lists of part 0
pub zero_pushed : (parts : List Growing) (old new : Growing) (zs : List Entry) → 0 < length parts → old ≡ get_or parts 0 old
    → new.keys ≡ old.keys → lists_of new ≡ lists_of old ++ zs ∷ []
    → (k : ℕ) (part : Growing) → slice_get (set parts 0 new) k ≡ Some part → (x : Growing) × (slice_get parts k ≡ Some x) × HasZeroList k zs x part
zero_pushed [] old new zs within is same pushed k part there = absurd (omega arith)
zero_pushed (p ∷ parts) old new zs within is same pushed zero part there =
    subst (λ (x : Growing). (y : Growing) × (Some p ≡ Some y) × HasZeroList 0 zs y x) (same_Some new part there) (old, ap Some (sym is), (same, pushed))
zero_pushed (p ∷ parts) old new zs within is same pushed (suc k) part there =
    (part, there, (refl, sym (ap (λ b. lists_of part ++ cond b (zs ∷ []) []) (ne_eqb (suc k) 0 (λ e. omega arith)) ∙ append-nil (lists_of part))))
