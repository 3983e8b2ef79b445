-- The posting lists by the pairs of kept conjunctions are those by the conjunctions.
use Rattle.std.proofs.Common.{◌≡◌, ℕ, ◌+◌, ◌<◌, ◌==◌, ◌&&◌, ◌||◌, max, nat_le, nat_lt, List, [], ◌∷◌, ◌++◌, Bool, true, false, cond, Option, Some, None, find, length, map, refl, sym, ◌∙◌, ap, arith}
use Rattle.std.specs.Prelude.{option_map}
use Rattle.std.specs.List.{cons_option, enumerate_from, filter_map, flat_map, list_all, list_any}
use Rattle.std.specs.declared.cmp.Ordering.{Ordering}
use Rattle.std.specs.declared.cmp.Ordering.TheVariants.{Less, Equal, Greater}
use Rattle.std.specs.Ordering.{nat_cmp, is_lt}
use Rattle.std.specs.Cmp.Lexicographic.{slice_cmp}
use Rattle.std.specs.Str.{bytes_eq}
use Rattle.std.proofs.lemmas.Bool.{and_parts, and_from, false≢true, false_from_ne_true, lt-ltb, ltb-true}
use Rattle.std.proofs.lemmas.Cmp.{nat_list_cmp_total, tied_itself}
use Rattle.std.proofs.lemmas.List.Elements.{filter_map-append}
use Rattle.std.proofs.lemmas.List.Folds.{list_any-append}
use Rattle.std.proofs.lemmas.Slice.Eq.{bytes_eq-Decides}
use Rattle.postings.specs.declared.entry.Entry.{Entry}
use Rattle.target_expr.specs.declared.attr.Attr.{Attr}
use Rattle.target_expr.specs.declared.pred.Pred.{Pred}
use Rattle.target_expr.specs.declared.pred.Pair.{Pair}
use Rattle.target_expr.specs.Attributes.{number_of}
use Rattle.target_expr.specs.Kept.{attr_below, is_kept_conjunction, is_kept_pred, rise, text_below}
use Rattle.target_expr.specs.Pairs.{conjunction_pairs, pairs_of, pred_pairs, size_of, sizes_of}
use Rattle.target_expr.specs.Truth.{same_attr}
use Rattle.conj_index.specs.declared.key.Key.{Key}
use Rattle.conj_index.specs.Content.{Listed, entries_of, entry_under, greatest_size, is_named, names, of_size, zero_entries}
use Rattle.conj_index.specs.Growing.{greatest, is_of, kept_entry, pair_entries, zero_entry, zero_of}
use Rattle.conj_index.proofs.Entries.{numbered, zeros}
use Rattle.conj_index.proofs.Served.{attr_same}

-- ---- lists in which at most one item passes

abbrev pub Once : {X : Type 0} → (X → Bool) → List X → Type 0
Once q [] = Unit {0}
Once q (x ∷ xs) = (q x ≡ true → list_any q xs ≡ false) × Once q xs

-- no item passes where each is above the first, and of two in order not both pass
none_above : {X : Type 0} (below : X → X → Bool) (q : X → Bool)
    → ((x y z : X) → below x y ≡ true → below y z ≡ true → below x z ≡ true)
    → ((x y : X) → below x y ≡ true → q x ≡ true → q y ≡ true → ⊥)
    → (x : X) (xs : List X) → rise below (x ∷ xs) ≡ true → q x ≡ true → list_any q xs ≡ false
none_above below q trans clash x [] up h = refl
none_above below q trans clash x (y ∷ []) up h =
    let parts = and_parts (below x y) true up in
    ap (λ b. b || false) (false_from_ne_true (q y) (λ e. clash x y parts.0 h e))
none_above below q trans clash x (y ∷ z ∷ xs) up h =
    let parts = and_parts (below x y) (rise below (y ∷ z ∷ xs)) up in
    let later = and_parts (below y z) (rise below (z ∷ xs)) parts.1 in
    let rest : rise below (x ∷ z ∷ xs) ≡ true = and_from (below x z) (rise below (z ∷ xs)) (trans x y z parts.0 later.0) later.1 in
    ap (λ b. b || list_any q (z ∷ xs)) (false_from_ne_true (q y) (λ e. clash x y parts.0 h e))
    ∙ none_above below q trans clash x (z ∷ xs) rest h

rise_tail : {X : Type 0} (below : X → X → Bool) (x : X) (xs : List X) → rise below (x ∷ xs) ≡ true → rise below xs ≡ true
rise_tail below x [] up = refl
rise_tail below x (y ∷ xs) up = (and_parts (below x y) (rise below (y ∷ xs)) up).1

once : {X : Type 0} (below : X → X → Bool) (q : X → Bool)
    → ((x y z : X) → below x y ≡ true → below y z ≡ true → below x z ≡ true)
    → ((x y : X) → below x y ≡ true → q x ≡ true → q y ≡ true → ⊥)
    → (xs : List X) → rise below xs ≡ true → Once q xs
once below q trans clash [] up = tt
once below q trans clash (x ∷ xs) up =
    (none_above below q trans clash x xs up, once below q trans clash xs (rise_tail below x xs up))

-- ---- texts and attributes in order

less : (o : Ordering) → is_lt o ≡ true → o ≡ Less
less Less e = refl
less Equal e = absurd (false≢true e)
less Greater e = absurd (false≢true e)

text_trans : (x y z : List ℕ) → text_below x y ≡ true → text_below y z ≡ true → text_below x z ≡ true
text_trans x y z a b =
    ap is_lt (nat_list_cmp_total.trans x y z (less (slice_cmp nat_cmp x y) a) (less (slice_cmp nat_cmp y z) b))

text_clash : (x y v : List ℕ) → text_below x y ≡ true → x ≡ v → y ≡ v → ⊥
text_clash x y v below e f =
    let here : slice_cmp nat_cmp x y ≡ Less = less (slice_cmp nat_cmp x y) below in
    let tied : slice_cmp nat_cmp x x ≡ Equal = tied_itself nat_list_cmp_total x in
    let same : slice_cmp nat_cmp x y ≡ slice_cmp nat_cmp x x = ap (slice_cmp nat_cmp x) (f ∙ sym e) in
    cc

attr_trans : (p q r : Pred) → attr_below p q ≡ true → attr_below q r ≡ true → attr_below p r ≡ true
attr_trans p q r a b =
    let one : number_of p.attr < number_of q.attr = ltb-true (number_of p.attr) (number_of q.attr) a in
    let two : number_of q.attr < number_of r.attr = ltb-true (number_of q.attr) (number_of r.attr) b in
    lt-ltb (number_of p.attr) (number_of r.attr) (omega arith)

attr_clash : (p q : Pred) (a : Attr) → attr_below p q ≡ true → same_attr p.attr a ≡ true → same_attr q.attr a ≡ true → ⊥
attr_clash p q a below e f =
    let lt : number_of p.attr < number_of q.attr = ltb-true (number_of p.attr) (number_of q.attr) below in
    let one : number_of p.attr ≡ number_of a = ap number_of (attr_same p.attr a e) in
    let two : number_of q.attr ≡ number_of a = ap number_of (attr_same q.attr a f) in
    omega arith

-- ---- the pairs of one predicate

mapped_found : {X Y Z : Type 0} (f : Y → Option Z) (g : X → Y) (xs : List X) → filter_map f (map g xs) ≡ filter_map (λ x. f (g x)) xs
mapped_found f g [] = refl
mapped_found f g (x ∷ xs) = ap (cons_option (f (g x))) (mapped_found f g xs)

-- the entry stands once, where one passes
single : {X : Type 0} (q : X → Bool) (e : Entry) (xs : List X) → Once q xs → filter_map (λ x. cond (q x) (Some e) None) xs ≡ cond (list_any q xs) (e ∷ []) []
single q e [] o = refl
single {X} q e (x ∷ xs) o = by (q x) (o.0) (single q e xs o.1)
  where
    by : (b : Bool) → (b ≡ true → list_any q xs ≡ false) → filter_map (λ x. cond (q x) (Some e) None) xs ≡ cond (list_any q xs) (e ∷ []) []
        → cons_option (cond b (Some e) None) (filter_map (λ x. cond (q x) (Some e) None) xs) ≡ cond (b || list_any q xs) (e ∷ []) []
    by true first rest = ap (λ l. e ∷ l) (rest ∙ ap (λ b. cond b (e ∷ []) []) (first refl))
    by false first rest = rest

any_and : {X : Type 0} (b : Bool) (q : X → Bool) (xs : List X) → list_any (λ x. b && q x) xs ≡ (b && list_any q xs)
any_and true q xs = refl
any_and {X} false q xs = none xs
  where
    none : (xs : List X) → list_any (λ x. false && q x) xs ≡ false
    none [] = refl
    none (x ∷ xs) = none xs

-- a value of the predicate is the key's, in a conjunction of the right size or not
abbrev value_named : Bool → Attr → Key → List ℕ → Bool
value_named b a key v = b && (same_attr a key.attr && bytes_eq v key.value)

any_value : (b : Bool) (p : Pred) (key : Key) (vs : List (List ℕ)) → list_any (value_named b p.attr key) vs ≡ (b && (same_attr p.attr key.attr && list_any (λ v. bytes_eq v key.value) vs))
any_value b p key vs =
    any_and b (λ v. same_attr p.attr key.attr && bytes_eq v key.value) vs
    ∙ ap (λ c. b && c) (any_and (same_attr p.attr key.attr) (λ v. bytes_eq v key.value) vs)

value_same : (b : Bool) (a : Attr) (key : Key) (v : List ℕ) → value_named b a key v ≡ true → v ≡ key.value
value_same b a key v h =
    (bytes_eq-Decides v key.value).0 (and_parts (same_attr a key.attr) (bytes_eq v key.value) (and_parts b (same_attr a key.attr && bytes_eq v key.value) h).1).1

once_value : (b : Bool) (p : Pred) (key : Key) → is_kept_pred p ≡ true → Once (value_named b p.attr key) p.values
once_value b p key kept =
    once text_below (value_named b p.attr key) text_trans
    (λ x y below h k. text_clash x y key.value below (value_same b p.attr key x h) (value_same b p.attr key y k))
    p.values (and_parts (nat_lt 0 (length p.values) && nat_le (length p.values) 256 && list_all (λ v. nat_le (length v) 255) p.values) (rise text_below p.values) kept).1

abbrev entry_at_place : ℕ → Pred → Entry
entry_at_place n p = record { id = n; negated = p.negated }

-- its entry stands once under a key that it names
pred_found : (n s k : ℕ) (key : Key) (p : Pred) → is_kept_pred p ≡ true
    → filter_map (kept_entry k key) (pred_pairs n s p) ≡ cond ((s == k) && names key p) (entry_at_place n p ∷ []) []
pred_found n s k key p kept =
    mapped_found (kept_entry k key) (λ v. record { conjunction = n; size = s; attr = p.attr; negated = p.negated; value = v }) p.values
    ∙ single (value_named (s == k) p.attr key) (entry_at_place n p) p.values (once_value (s == k) p key kept)
    ∙ ap (λ b. cond b (entry_at_place n p ∷ []) []) (any_value (s == k) p key p.values)

-- ---- the pairs of one conjunction

-- what is found among the items' lists is the entry of the first that passes
spread_found : (q : Pred → Bool) (mk : Pred → Entry) (g : Pred → List Pair) (f : Pair → Option Entry) (c : List Pred)
    → ((p : Pred) → is_kept_pred p ≡ true → filter_map f (g p) ≡ cond (q p) (mk p ∷ []) [])
    → list_all is_kept_pred c ≡ true → Once q c → filter_map f (flat_map g c) ≡ cons_option (option_map mk (find q c)) []
spread_found q mk g f [] each kept o = refl
spread_found q mk g f (p ∷ c) each kept o =
    filter_map-append f (g p) (flat_map g c)
    ∙ ap (λ l. l ++ filter_map f (flat_map g c)) (each p parts.0)
    ∙ by (q p) o.0 (spread_found q mk g f c each parts.1 o.1)
  where
    parts : (is_kept_pred p ≡ true) × (list_all is_kept_pred c ≡ true)
    parts = and_parts (is_kept_pred p) (list_all is_kept_pred c) kept

    none : (c : List Pred) → list_any q c ≡ false → cons_option (option_map mk (find q c)) [] ≡ []
    none [] h = refl
    none (r ∷ c) h = here (q r) h (none c)
      where
        here : (b : Bool) → (b || list_any q c) ≡ false → (list_any q c ≡ false → cons_option (option_map mk (find q c)) [] ≡ []) → cons_option (option_map mk (cond b (Some r) (find q c))) [] ≡ []
        here true h later = absurd (false≢true (sym h))
        here false h later = later h

    by : (b : Bool) → (b ≡ true → list_any q c ≡ false) → filter_map f (flat_map g c) ≡ cons_option (option_map mk (find q c)) []
        → cond b (mk p ∷ []) [] ++ filter_map f (flat_map g c) ≡ cons_option (option_map mk (cond b (Some p) (find q c))) []
    by true first rest = ap (λ l. mk p ∷ l) (rest ∙ none c (first refl))
    by false first rest = rest

find_and : (b : Bool) (q : Pred → Bool) (c : List Pred) → find (λ p. b && q p) c ≡ cond b (find q c) None
find_and true q c = refl
find_and false q [] = refl
find_and false q (p ∷ c) = find_and false q c

conjunction_found : (n k : ℕ) (key : Key) (l : Listed) → is_kept_conjunction l.preds ≡ true
    → filter_map (kept_entry k key) (conjunction_pairs (n, l.preds)) ≡ cond (size_of l.preds == k) (cons_option (entry_under key (n, l)) []) []
conjunction_found n k key l kept =
    spread_found (λ p. (size_of l.preds == k) && names key p) (entry_at_place n) (pred_pairs n (size_of l.preds)) (kept_entry k key) l.preds
    (pred_found n (size_of l.preds) k key) (and_parts (nat_le (length l.preds) 16) (list_all is_kept_pred l.preds) parts.0).1
    (once attr_below (λ p. (size_of l.preds == k) && names key p) attr_trans clash l.preds parts.1)
    ∙ ap (λ o. cons_option (option_map (entry_at_place n) o) []) (find_and (size_of l.preds == k) (names key) l.preds)
    ∙ by (size_of l.preds == k)
  where
    parts : ((nat_le (length l.preds) 16 && list_all is_kept_pred l.preds) ≡ true) × (rise attr_below l.preds ≡ true)
    parts = and_parts (nat_le (length l.preds) 16 && list_all is_kept_pred l.preds) (rise attr_below l.preds) kept

    spoken : (p : Pred) → ((size_of l.preds == k) && names key p) ≡ true → same_attr p.attr key.attr ≡ true
    spoken p h = (and_parts (same_attr p.attr key.attr) (list_any (λ v. bytes_eq v key.value) p.values) (and_parts (size_of l.preds == k) (names key p) h).1).0

    clash : (p q : Pred) → attr_below p q ≡ true → ((size_of l.preds == k) && names key p) ≡ true → ((size_of l.preds == k) && names key q) ≡ true → ⊥
    clash p q below h j = attr_clash p q key.attr below (spoken p h) (spoken q j)

    by : (b : Bool) → cons_option (option_map (entry_at_place n) (cond b (find (names key) l.preds) None)) [] ≡ cond b (cons_option (entry_under key (n, l)) []) []
    by true = refl
    by false = refl

-- ---- the pairs of all

abbrev pub preds_of : List Listed → List (List Pred)
preds_of cs = map (λ (c : Listed). c.preds) cs

abbrev pub AllKept : List Listed → Type 0
AllKept [] = Unit {0}
AllKept (c ∷ cs) = (is_kept_conjunction c.preds ≡ true) × AllKept cs

pub numbered_pairs : (n k : ℕ) (key : Key) (cs : List Listed) → AllKept cs
    → filter_map (kept_entry k key) (flat_map conjunction_pairs (enumerate_from n (preds_of cs))) ≡ numbered n k key cs
numbered_pairs n k key [] kept = refl
numbered_pairs n k key (c ∷ cs) kept =
    filter_map-append (kept_entry k key) (conjunction_pairs (n, c.preds)) rest
    ∙ ap (λ l. l ++ filter_map (kept_entry k key) rest) (conjunction_found n k key c kept.0)
    ∙ ap (λ l. cond (size_of c.preds == k) (cons_option (entry_under key (n, c)) []) [] ++ l) (numbered_pairs (n + 1) k key cs kept.1)
    ∙ by (size_of c.preds == k)
  where
    rest : List Pair
    rest = flat_map conjunction_pairs (enumerate_from (n + 1) (preds_of cs))

    one : (o : Option Entry) (l : List Entry) → cons_option o [] ++ l ≡ cons_option o l
    one (Some e) l = refl
    one None l = refl

    by : (b : Bool) → cond b (cons_option (entry_under key (n, c)) []) [] ++ numbered (n + 1) k key cs
        ≡ filter_map (entry_under key) (cond b ((n, c) ∷ of_size k (enumerate_from (n + 1) cs)) (of_size k (enumerate_from (n + 1) cs)))
    by true = one (entry_under key (n, c)) (numbered (n + 1) k key cs)
    by false = refl

pub entries_by_pairs : (k : ℕ) (cs : List Listed) (key : Key) → AllKept cs → pair_entries k (pairs_of (preds_of cs)) key ≡ entries_of k cs key
unfolding entries_of
entries_by_pairs k cs key kept = numbered_pairs 0 k key cs kept

-- ---- the keys that are named

any_map : {X Y : Type 0} (q : Y → Bool) (g : X → Y) (xs : List X) → list_any q (map g xs) ≡ list_any (λ x. q (g x)) xs
any_map q g [] = refl
any_map q g (x ∷ xs) = ap (λ b. q (g x) || b) (any_map q g xs)

any_spread : {X Y : Type 0} (q : Y → Bool) (g : X → List Y) (p : X → Bool) → ((x : X) → list_any q (g x) ≡ p x) → (xs : List X) → list_any q (flat_map g xs) ≡ list_any p xs
any_spread q g p h [] = refl
any_spread q g p h (x ∷ xs) =
    list_any-append q (g x) (flat_map g xs) ∙ ap (λ b. b || list_any q (flat_map g xs)) (h x) ∙ ap (λ b. p x || b) (any_spread q g p h xs)

pred_named : (n s k : ℕ) (key : Key) (p : Pred) → list_any (is_of k key) (pred_pairs n s p) ≡ ((s == k) && names key p)
pred_named n s k key p =
    any_map (is_of k key) (λ v. record { conjunction = n; size = s; attr = p.attr; negated = p.negated; value = v }) p.values
    ∙ any_value (s == k) p key p.values

numbered_named : (n k : ℕ) (key : Key) (cs : List Listed)
    → list_any (is_of k key) (flat_map conjunction_pairs (enumerate_from n (preds_of cs))) ≡ list_any (λ (c : Listed). (size_of c.preds == k) && list_any (names key) c.preds) cs
numbered_named n k key [] = refl
numbered_named n k key (c ∷ cs) =
    list_any-append (is_of k key) (conjunction_pairs (n, c.preds)) (flat_map conjunction_pairs (enumerate_from (n + 1) (preds_of cs)))
    ∙ ap (λ b. b || list_any (is_of k key) (flat_map conjunction_pairs (enumerate_from (n + 1) (preds_of cs))))
    (any_spread (is_of k key) (pred_pairs n (size_of c.preds)) (λ p. (size_of c.preds == k) && names key p) (pred_named n (size_of c.preds) k key) c.preds
    ∙ any_and (size_of c.preds == k) (names key) c.preds)
    ∙ ap (λ b. ((size_of c.preds == k) && list_any (names key) c.preds) || b) (numbered_named (n + 1) k key cs)

pub named_by_pairs : (k : ℕ) (cs : List Listed) (key : Key) → list_any (is_of k key) (pairs_of (preds_of cs)) ≡ is_named k cs key
unfolding is_named
named_by_pairs k cs key = numbered_named 0 k key cs

-- ---- the zero list, and the greatest size

zeros_by_sizes : (n : ℕ) (cs : List Listed) → filter_map zero_entry (enumerate_from n (sizes_of (preds_of cs))) ≡ zeros n cs
zeros_by_sizes n [] = refl
zeros_by_sizes n (c ∷ cs) =
    ap (cons_option (zero_entry (n, size_of c.preds))) (zeros_by_sizes (n + 1) cs) ∙ by (size_of c.preds == 0)
  where
    by : (b : Bool) → cons_option (cond b (Some (record { id = n; negated = false })) None) (zeros (n + 1) cs)
        ≡ map (λ (q : ℕ × Listed). record { id = q.0; negated = false }) (cond b ((n, c) ∷ of_size 0 (enumerate_from (n + 1) cs)) (of_size 0 (enumerate_from (n + 1) cs)))
    by true = refl
    by false = refl

pub zero_by_sizes : (cs : List Listed) → zero_of (sizes_of (preds_of cs)) ≡ zero_entries cs
unfolding zero_entries
zero_by_sizes cs = zeros_by_sizes 0 cs

pub greatest_by_sizes : (cs : List Listed) → greatest (sizes_of (preds_of cs)) ≡ greatest_size cs
greatest_by_sizes [] = refl
greatest_by_sizes (c ∷ cs) = ap (λ n. max (size_of c.preds) n) (greatest_by_sizes cs)
