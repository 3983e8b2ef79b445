-- The lists of keys after one entry more.
use Rattle.std.proofs.Common.{◌≡◌, ℕ, zero, suc, ◌+◌, ◌<◌, length, get_or, subst, ◌||◌, not, List, [], ◌∷◌, ◌++◌, Bool, true, false, cond, Option, Some, None, Result, Ok, Err, OnOk, map, option_map, slice_get, take, refl, sym, ◌∙◌, ap, arith, append_assoc}
use Rattle.std.specs.List.{AllByRecursion, IsDistinct, cons_option, enumerate_from, filter_map, flat_map, list_any, position_or_len}
use Rattle.std.specs.Map.{keys_of}
use Rattle.std.proofs.lemmas.Bool.{or_parts}
use Rattle.std.proofs.lemmas.List.{append-nil}
use Rattle.std.proofs.lemmas.Option.{slice_get-map}
use Rattle.std.proofs.lemmas.List.Elements.{filter_map-append}
use Rattle.std.proofs.lemmas.List.Folds.{list_any-append}
use Rattle.indexmap.specs.IndexMap.{insert_entry, keys}
use Rattle.cnf_match.specs.contracts.index.KeyPartialEq.TheImpl.{eq-value}
use Rattle.cnf_match.specs.declared.growing.Growing.{Growing}
use Rattle.cnf_match.specs.declared.index.Entry.{Entry}
use Rattle.cnf_match.specs.declared.index.Key.{Key}
use Rattle.cnf_match.specs.Content.{same_key}
use Rattle.cnf_match.specs.Growing.{Enters, IsGrown, item_under, items_under, lists_of, with_item, with_key}
use Rattle.cnf_match.proofs.KeyEq.{key_eq, key_same, own_key, same_turned}

or_nil : (b : Bool) → (b || false) ≡ b
or_nil true = refl
or_nil false = refl

or_again : (a r : Bool) → (a || r) ≡ ((a || r) || a)
or_again true r = refl
or_again false true = refl
or_again false false = refl

or_assoc : (a r c : Bool) → (a || (r || c)) ≡ ((a || r) || c)
or_assoc true r c = refl
or_assoc false r c = refl

-- ---- keys

-- the keys of a map after an insertion
pub inserted_keys : {V : Type 0} (es : List (Key × V)) (key : Key) (v : V) → keys_of (insert_entry eq-value.it es key v) ≡ with_key (keys_of es) key
inserted_keys [] key v = refl
inserted_keys {V} (x ∷ es) key v = by (eq-value.it key x.0) (inserted_keys es key v) ∙ ap (λ b. cond b (x.0 ∷ keys_of es) (x.0 ∷ with_key (keys_of es) key)) (key_eq key x.0)
  where
    by : (b : Bool) → keys_of (insert_entry eq-value.it es key v) ≡ with_key (keys_of es) key
        → keys_of (cond b ((x.0, v) ∷ es) (x ∷ insert_entry eq-value.it es key v)) ≡ cond b (x.0 ∷ keys_of es) (x.0 ∷ with_key (keys_of es) key)
    by true later = refl
    by false later = ap (λ l. x.0 ∷ l) later

pub distinct_keys : (ks : List Key) → IsDistinct eq-value.it ks → IsDistinct same_key ks
unfolding IsDistinct
distinct_keys [] d = tt
distinct_keys (x ∷ ks) d = (each ks d.0, distinct_keys ks d.1)
  where
    each : (ks : List Key) → AllByRecursion (λ (y : Key). eq-value.it x y ≡ false) ks → AllByRecursion (λ (y : Key). same_key x y ≡ false) ks
    each [] a = tt
    each (y ∷ ks) a = (sym (key_eq x y) ∙ a.0, each ks a.1)

with_key_any : (q key : Key) (ks : List Key) → list_any (same_key q) (with_key ks key) ≡ (list_any (same_key q) ks || same_key q key)
with_key_any q key [] = or_nil (same_key q key)
with_key_any q key (x ∷ ks) = by (same_key key x) refl (with_key_any q key ks)
  where
    by : (b : Bool) → same_key key x ≡ b → list_any (same_key q) (with_key ks key) ≡ (list_any (same_key q) ks || same_key q key)
        → list_any (same_key q) (cond b (x ∷ ks) (x ∷ with_key ks key)) ≡ ((same_key q x || list_any (same_key q) ks) || same_key q key)
    by true e later =
        or_again (same_key q x) (list_any (same_key q) ks)
        ∙ ap (λ (k : Key). (same_key q x || list_any (same_key q) ks) || same_key q k) (sym (key_same key x e))
    by false e later =
        ap (λ b. same_key q x || b) later ∙ or_assoc (same_key q x) (list_any (same_key q) ks) (same_key q key)

-- a key that has a place stays there, and none is added
kept_there : (key : Key) (ks : List Key) (n : ℕ) → slice_get ks n ≡ Some key → with_key ks key ≡ ks
kept_there key [] n there = cc
kept_there key (k ∷ ks) zero there =
    let same : k ≡ key = cc in
    ap (λ b. cond b (k ∷ ks) (k ∷ with_key ks key)) (ap (same_key key) same ∙ own_key key)
kept_there key (k ∷ ks) (suc n) there = by (same_key key k) (kept_there key ks n there)
  where
    by : (b : Bool) → with_key ks key ≡ ks → cond b (k ∷ ks) (k ∷ with_key ks key) ≡ k ∷ ks
    by true later = refl
    by false later = ap (λ l. k ∷ l) later

none_at : (k key : Key) (ks : List Key) (n : ℕ) → AllByRecursion (λ (y : Key). same_key k y ≡ false) ks → slice_get ks n ≡ Some key → same_key k key ≡ false
none_at k key [] n apart there = cc
none_at k key (x ∷ ks) zero apart there =
    let same : x ≡ key = cc in
    ap (same_key k) (sym same) ∙ apart.0
none_at k key (x ∷ ks) (suc n) apart there = none_at k key ks n apart.1 there

-- no other place has the key
place_there : (key : Key) (ks : List Key) (n : ℕ) → IsDistinct same_key ks → slice_get ks n ≡ Some key → position_or_len (same_key key) ks ≡ n
unfolding IsDistinct
place_there key [] n apart there = cc
place_there key (k ∷ ks) zero apart there =
    let same : k ≡ key = cc in
    ap (λ b. cond (not b) (1 + position_or_len (same_key key) ks) 0) (ap (same_key key) same ∙ own_key key)
place_there key (k ∷ ks) (suc n) apart there =
    let other : same_key key k ≡ false = same_turned key k ∙ none_at k key ks n apart.0 there in
    let later : position_or_len (same_key key) ks ≡ n = place_there key ks n apart.1 there in
    let next : 1 + n ≡ suc n = omega arith in
    ap (λ b. cond (not b) (1 + position_or_len (same_key key) ks) 0) other ∙ ap (λ m. 1 + m) later ∙ next

-- ---- the lists

-- the lists by the keys, after an item is appended to the key's
module _ {E : Type 0} (f g : Key → List E) (key : Key) (e : E) (more : (q : Key) → g q ≡ f q ++ cond (same_key key q) (e ∷ []) []) where
  others : (x : Key) (ks : List Key) → same_key key x ≡ true → AllByRecursion (λ (y : Key). same_key x y ≡ false) ks → map g ks ≡ map f ks
  others x [] is apart = refl
  others x (y ∷ ks) is apart =
      let other : same_key key y ≡ false = ap (λ (k : Key). same_key k y) (key_same key x is) ∙ apart.0 in
      let head : g y ≡ f y = more y ∙ ap (λ b. f y ++ cond b (e ∷ []) []) other ∙ append-nil (f y) in
      ap (λ l. l ∷ map g ks) head ∙ ap (λ l. f y ∷ l) (others x ks is apart.1)

  entered : (ks : List Key) → IsDistinct same_key ks → (list_any (same_key key) ks ≡ false → f key ≡ []) → map g (with_key ks key) ≡ with_item (map f ks) (position_or_len (same_key key) ks) e
  unfolding IsDistinct
  entered [] apart fresh =
      ap (λ l. l ∷ []) (more key ∙ ap (λ b. f key ++ cond b (e ∷ []) []) (own_key key) ∙ ap (λ l. l ++ e ∷ []) (fresh refl))
  entered (x ∷ ks) apart fresh = by (same_key key x) refl (λ none. entered ks apart.1 none)
    where
      by : (b : Bool) → same_key key x ≡ b
          → ((list_any (same_key key) ks ≡ false → f key ≡ []) → map g (with_key ks key) ≡ with_item (map f ks) (position_or_len (same_key key) ks) e)
          → map g (cond b (x ∷ ks) (x ∷ with_key ks key)) ≡ with_item (f x ∷ map f ks) (cond (not b) (1 + position_or_len (same_key key) ks) 0) e
      by true is later =
          ap (λ l. l ∷ map g ks) (more x ∙ ap (λ b. f x ++ cond b (e ∷ []) []) is) ∙ ap (λ l. (f x ++ e ∷ []) ∷ l) (others x ks is apart.0)
      by false is later =
          let next : suc (position_or_len (same_key key) ks) ≡ 1 + position_or_len (same_key key) ks = omega arith in
          let head : g x ≡ f x = more x ∙ ap (λ b. f x ++ cond b (e ∷ []) []) is ∙ append-nil (f x) in
          ap (λ l. l ∷ map g (with_key ks key)) head
          ∙ ap (λ l. f x ∷ l) (later (λ none. fresh (ap (λ b. b || list_any (same_key key) ks) is ∙ none)))
          ∙ ap (λ n. with_item (f x ∷ map f ks) n e) next

-- ---- one pair more

one_more : (ps : List (Key × Entry)) (p : Key × Entry) (key : Key) → items_under (ps ++ p ∷ []) key ≡ items_under ps key ++ cond (same_key p.0 key) (p.1 ∷ []) []
one_more ps p key = filter_map-append (item_under key) ps (p ∷ []) ∙ ap (λ l. items_under ps key ++ l) (by (same_key p.0 key))
  where
    by : (b : Bool) → cons_option (cond b (Some p.1) None) [] ≡ cond b (p.1 ∷ []) []
    by true = refl
    by false = refl

named_more : (ps : List (Key × Entry)) (p : Key × Entry) (key : Key)
    → list_any (λ (q : Key × Entry). same_key q.0 key) (ps ++ p ∷ []) ≡ (list_any (λ (q : Key × Entry). same_key q.0 key) ps || same_key p.0 key)
named_more ps p key = list_any-append (λ (q : Key × Entry). same_key q.0 key) ps (p ∷ []) ∙ ap (λ b. list_any (λ (q : Key × Entry). same_key q.0 key) ps || b) (or_nil (same_key p.0 key))

pub none_under : (key : Key) (ps : List (Key × Entry)) → list_any (λ (q : Key × Entry). same_key q.0 key) ps ≡ false → items_under ps key ≡ []
none_under key [] h = refl
none_under key (p ∷ ps) h =
    let parts = or_parts (same_key p.0 key) (list_any (λ (q : Key × Entry). same_key q.0 key) ps) h in
    ap (λ b. cons_option (cond b (Some p.1) None) (items_under ps key)) parts.0 ∙ none_under key ps parts.1

grown_more : (ps : List (Key × Entry)) (key : Key) (e : Entry) (old new : Growing) → IsGrown ps old
    → keys new.keys ≡ with_key (keys old.keys) key → IsDistinct same_key (keys new.keys)
    → lists_of new ≡ with_item (lists_of old) (position_or_len (same_key key) (keys old.keys)) e
    → IsGrown (ps ++ (key, e) ∷ []) new
grown_more ps key e old new grown added unique put = record {
  unique = unique;
  named = λ q. ap (list_any (same_key q)) added ∙ with_key_any q key (keys old.keys)
      ∙ ap (λ b. b || same_key q key) (grown.named q)
      ∙ ap (λ b. list_any (λ (p : Key × Entry). same_key p.0 q) ps || b) (same_turned q key)
      ∙ sym (named_more ps (key, e) q);
  lists = put ∙ ap (λ l. with_item l (position_or_len (same_key key) (keys old.keys)) e) grown.lists
      ∙ sym (entered (items_under ps) (items_under (ps ++ (key, e) ∷ [])) key e (one_more ps (key, e)) (keys old.keys) grown.unique fresh)
      ∙ ap (map (items_under (ps ++ (key, e) ∷ []))) (sym added);
}
  where
    fresh : list_any (same_key key) (keys old.keys) ≡ false → items_under ps key ≡ []
    fresh none = none_under key ps (sym (grown.named key) ∙ none)

pub grown_none : (growing : Growing) → growing.keys.entries ≡ [] → growing.lists.items ≡ [] → IsDistinct eq-value.it (keys growing.keys) → IsGrown [] growing
grown_none growing none no_list unique = record {
  unique = distinct_keys (keys growing.keys) unique;
  named = λ key. ap (λ es. list_any (same_key key) (keys_of es)) none;
  lists = ap (map (λ l. l.items)) no_list ∙ sym (ap (λ es. map (items_under []) (keys_of es)) none);
}

-- ---- what comes behind what was entered before

pub enters_none : (a : Growing) → Enters [] a a
enters_none a before grown = subst (λ (ps : List (Key × Entry)). IsGrown ps a) (sym (append-nil before)) grown

pub enters_one : (key : Key) (e : Entry) (old new : Growing) → keys new.keys ≡ with_key (keys old.keys) key → IsDistinct same_key (keys new.keys)
    → lists_of new ≡ with_item (lists_of old) (position_or_len (same_key key) (keys old.keys)) e → Enters ((key, e) ∷ []) old new
enters_one key e old new added unique put before grown = grown_more before key e old new grown added unique put

-- a key that is found at a place
pub key_there : {V : Type 0} (es : List (Key × V)) (n : ℕ) (k key : Key) (v : V) → Some (k, v) ≡ slice_get es n → same_key k key ≡ true → slice_get (keys_of es) n ≡ Some key
key_there {V} es n k key v at same =
    slice_get-map (λ (e : Key × V). e.0) es n ∙ ap (option_map (λ (e : Key × V). e.0)) (sym at) ∙ ap Some (key_same k key same)

pub on_ok : {X E P Q : Type 0} (r : Result X E) → (P → Q) → OnOk r P → OnOk r Q
on_ok (Ok x) f h = f h
on_ok (Err e) f h = tt

pub enters_there : (key : Key) (e : Entry) (old new : Growing) (n : ℕ) → slice_get (keys old.keys) n ≡ Some key → keys new.keys ≡ keys old.keys
    → lists_of new ≡ with_item (lists_of old) n e → Enters ((key, e) ∷ []) old new
enters_there key e old new n there same put before grown =
    grown_more before key e old new grown
    (same ∙ sym (kept_there key (keys old.keys) n there))
    (subst (λ (ks : List Key). IsDistinct same_key ks) (sym same) grown.unique)
    (put ∙ ap (λ m. with_item (lists_of old) m e) (sym (place_there key (keys old.keys) n grown.unique there)))

pub enters_then : (ps qs rs : List (Key × Entry)) (a b c : Growing) → rs ≡ ps ++ qs → Enters ps a b → Enters qs b c → Enters rs a c
enters_then ps qs rs a b c is first second before grown =
    let next : (before ++ ps) ++ qs ≡ before ++ rs = append_assoc before ps qs ∙ ap (λ l. before ++ l) (sym is) in
    subst (λ (l : List (Key × Entry)). IsGrown l c) next (second (before ++ ps) (first before grown))
