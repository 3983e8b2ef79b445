-- What is entered of the expressions is the lists of the keys that they name.
use Rattle.std.proofs.Common.{◌≡◌, ℕ, zero, suc, ◌+◌, ◌-◌, ◌<◌, ◌≤◌, ◌&&◌, ◌||◌, nat_lt, nat_le, List, [], ◌∷◌, ◌++◌, Bool, true, false, cond, Option, Some, None, inl, inr, IsTrue, All, map, length, replicate, take, get_or, refl, sym, ◌∙◌, ap, subst, arith}
use Rattle.std.specs.List.{IsDistinct, cons_option, enumerate_from, filter_map, flat_map, list_all, list_any}
use Rattle.std.specs.Str.{bytes_eq}
use Rattle.std.specs.Ordering.{nat_cmp, is_lt}
use Rattle.std.specs.declared.cmp.Ordering.{Ordering}
use Rattle.std.specs.declared.cmp.Ordering.TheVariants.{Less, Equal, Greater}
use Rattle.std.specs.Cmp.Lexicographic.{slice_cmp, nat_list_cmp_total}
use Rattle.std.proofs.lemmas.Bool.{and_parts, leb-true, cases_Bool, false≢true, or_from}
use Rattle.std.proofs.lemmas.Cmp.{tied_itself}
use Rattle.std.proofs.lemmas.List.{append-nil, length-map, take_more}
use Rattle.std.proofs.lemmas.List.Elements.{All-head, All-tail, filter_map-append}
use Rattle.std.proofs.lemmas.List.Folds.{list_any-append}
use Rattle.std.proofs.lemmas.List.FromFn.{get_or-enumerate_from, length-enumerate_from}
use Rattle.std.proofs.lemmas.Slice.Eq.{bytes_eq-Decides}
use Rattle.target_expr.specs.declared.pred.Pred.{Pred}
use Rattle.target_expr.specs.Kept.{is_kept_pred, rise, text_below}
use Rattle.target_expr.specs.Truth.{same_attr}
use Rattle.indexmap.specs.IndexMap.{keys}
use Rattle.cnf_match.specs.declared.growing.Growing.{Growing}
use Rattle.cnf_match.specs.declared.index.CnfIndex.{CnfIndex}
use Rattle.cnf_match.specs.declared.index.Entry.{Entry}
use Rattle.cnf_match.specs.declared.index.Key.{Key}
use Rattle.cnf_match.specs.Conjunctive.{Cnf, are_kept_clauses, is_kept_clause}
use Rattle.cnf_match.specs.Content.{AreKept, IsIndexOf, all_negated, clause_entries, entries_of, entry_under, expression_entries, is_named, is_named_in, names, needs_none, negated_in, negated_of, same_key, zero_list, zero_place}
use Rattle.cnf_match.specs.Growing.{IsGrown, clause_pairs, clauses_pairs, expression_pairs, item_under, items_under, lists_of, pairs_of, pred_pairs, value_pair}

abbrev Text : Type 0
Text = List ℕ

-- ---- a value is listed once

less : (o : Ordering) → is_lt o ≡ true → o ≡ Less
less Less e = refl
less Equal e = cc
less Greater e = cc

later_rise : (v : Text) (vs : List Text) → rise text_below (v ∷ vs) ≡ true → rise text_below vs ≡ true
later_rise v [] h = refl
later_rise v (w ∷ vs) h = (and_parts (text_below v w) (rise text_below (w ∷ vs)) h).1

other : (x v : Text) → slice_cmp nat_cmp x v ≡ Less → bytes_eq v x ≡ false
other x v below = elim (cases_Bool (bytes_eq v x)) [
  | inl e ↦
      let same : v ≡ x = (bytes_eq-Decides v x).0 e in
      let tied : slice_cmp nat_cmp x x ≡ Equal = tied_itself nat_list_cmp_total x in
      let turned : slice_cmp nat_cmp x x ≡ Less = ap (slice_cmp nat_cmp x) (sym same) ∙ below in
      absurd (apart (slice_cmp nat_cmp x x) tied turned)
  | inr e ↦ e
]
  where
    apart : (o : Ordering) → o ≡ Equal → o ≡ Less → ⊥
    apart o e f = cc

none_above : (x v : Text) (vs : List Text) → slice_cmp nat_cmp x v ≡ Less → rise text_below (v ∷ vs) ≡ true → list_any (λ w. bytes_eq w x) (v ∷ vs) ≡ false
none_above x v [] below h = or_from _ _ (other x v below) refl
none_above x v (w ∷ vs) below h =
    let parts = and_parts (text_below v w) (rise text_below (w ∷ vs)) h in
    let next : slice_cmp nat_cmp x w ≡ Less = nat_list_cmp_total.trans x v w below (less (slice_cmp nat_cmp v w) parts.0) in
    or_from _ _ (other x v below) (none_above x w vs next parts.1)

none_later : (v : Text) (vs : List Text) → rise text_below (v ∷ vs) ≡ true → list_any (λ w. bytes_eq w v) vs ≡ false
none_later v [] h = refl
none_later v (w ∷ vs) h =
    let parts = and_parts (text_below v w) (rise text_below (w ∷ vs)) h in
    none_above v w vs (less (slice_cmp nat_cmp v w) parts.0) parts.1

one_of : {E : Type 0} (x : Text) (e : E) (vs : List Text) → rise text_below vs ≡ true
    → filter_map (λ v. cond (bytes_eq v x) (Some e) None) vs ≡ cons_option (cond (list_any (λ v. bytes_eq v x) vs) (Some e) None) []
one_of x e [] h = refl
one_of {E} x e (v ∷ vs) h = by (bytes_eq v x) refl (one_of x e vs (later_rise v vs h))
  where
    by : (b : Bool) → bytes_eq v x ≡ b
        → filter_map (λ w. cond (bytes_eq w x) (Some e) None) vs ≡ cons_option (cond (list_any (λ w. bytes_eq w x) vs) (Some e) None) []
        → cons_option (cond b (Some e) None) (filter_map (λ w. cond (bytes_eq w x) (Some e) None) vs) ≡ cons_option (cond (b || list_any (λ w. bytes_eq w x) vs) (Some e) None) []
    by true is later =
        let same : v ≡ x = (bytes_eq-Decides v x).0 is in
        let none : list_any (λ w. bytes_eq w x) vs ≡ false = ap (λ y. list_any (λ w. bytes_eq w y) vs) (sym same) ∙ none_later v vs h in
        ap (λ l. e ∷ l) (later ∙ ap (λ b. cons_option {X = E} (cond b (Some e) None) []) none)
    by false is later = later

none_of : {E X : Type 0} (xs : List X) → filter_map {Y = E} (λ _. None) xs ≡ []
none_of [] = refl
none_of (x ∷ xs) = none_of xs

of_attr : {E : Type 0} (b : Bool) (x : Text) (e : E) (vs : List Text) → rise text_below vs ≡ true
    → filter_map (λ v. cond (b && bytes_eq v x) (Some e) None) vs ≡ cons_option (cond (b && list_any (λ v. bytes_eq v x) vs) (Some e) None) []
of_attr true x e vs h = one_of x e vs h
of_attr false x e vs h = none_of vs

-- ---- the entries of the key

over_values : (key : Key) (n i : ℕ) (p : Pred) (vs : List Text)
    → items_under (map (value_pair n i p) vs) key ≡ filter_map (λ v. cond (same_attr p.attr key.attr && bytes_eq v key.value) (Some (record { expression = n; clause = i; negated = p.negated })) None) vs
over_values key n i p [] = refl
over_values key n i p (v ∷ vs) = ap (cons_option (cond (same_attr p.attr key.attr && bytes_eq v key.value) (Some (record { expression = n; clause = i; negated = p.negated })) None)) (over_values key n i p vs)

pred_items : (key : Key) (n i : ℕ) (p : Pred) → is_kept_pred p ≡ true → items_under (pred_pairs n i p) key ≡ cons_option (entry_under key n i p) []
pred_items key n i p kept =
    over_values key n i p p.values
    ∙ of_attr (same_attr p.attr key.attr) key.value (record { expression = n; clause = i; negated = p.negated }) p.values
    (and_parts (nat_lt 0 (length p.values) && nat_le (length p.values) 256 && list_all (λ v. nat_le (length v) 255) p.values) (rise text_below p.values) kept).1

front : {E : Type 0} (o : Option E) (es : List E) → cons_option o [] ++ es ≡ cons_option o es
front None es = refl
front (Some e) es = refl

items_more : (key : Key) (ps qs : List (Key × Entry)) → items_under (ps ++ qs) key ≡ items_under ps key ++ items_under qs key
items_more key ps qs = filter_map-append (item_under key) ps qs

clause_items : (key : Key) (n i : ℕ) (c : List Pred) → list_all is_kept_pred c ≡ true → items_under (clause_pairs n (i, c)) key ≡ clause_entries key n (i, c)
clause_items key n i [] kept = refl
clause_items key n i (p ∷ c) kept =
    let parts = and_parts (is_kept_pred p) (list_all is_kept_pred c) kept in
    items_more key (pred_pairs n i p) (clause_pairs n (i, c))
    ∙ ap (λ l. l ++ items_under (clause_pairs n (i, c)) key) (pred_items key n i p parts.0)
    ∙ front (entry_under key n i p) (items_under (clause_pairs n (i, c)) key)
    ∙ ap (cons_option (entry_under key n i p)) (clause_items key n i c parts.1)

kept_preds : (c : List Pred) → is_kept_clause c ≡ true → list_all is_kept_pred c ≡ true
kept_preds c h = (and_parts (nat_lt 0 (length c) && nat_le (length c) 16) (list_all is_kept_pred c) h).1

clauses_items : (key : Key) (n i : ℕ) (cs : List (List Pred)) → list_all is_kept_clause cs ≡ true
    → items_under (flat_map (clause_pairs n) (enumerate_from i cs)) key ≡ flat_map (clause_entries key n) (enumerate_from i cs)
clauses_items key n i [] kept = refl
clauses_items key n i (c ∷ cs) kept =
    let parts = and_parts (is_kept_clause c) (list_all is_kept_clause cs) kept in
    items_more key (clause_pairs n (i, c)) (flat_map (clause_pairs n) (enumerate_from (i + 1) cs))
    ∙ ap (λ l. l ++ items_under (flat_map (clause_pairs n) (enumerate_from (i + 1) cs)) key) (clause_items key n i c (kept_preds c parts.0))
    ∙ ap (λ l. clause_entries key n (i, c) ++ l) (clauses_items key n (i + 1) cs parts.1)

true_from : (b : Bool) → IsTrue b → b ≡ true
true_from b h = h

pub kept_all : (cs : List (List Pred)) → are_kept_clauses cs ≡ true → list_all is_kept_clause cs ≡ true
kept_all cs h = (and_parts (nat_le (length cs) 16) (list_all is_kept_clause cs) h).1

all_items : (key : Key) (k : ℕ) (es : List Cnf) → AreKept es
    → items_under (flat_map expression_pairs (enumerate_from k es)) key ≡ flat_map (expression_entries key) (enumerate_from k es)
all_items key k [] kept = refl
all_items key k (e ∷ es) kept =
    let P : Cnf → Type 0 = λ (x : Cnf). IsTrue (are_kept_clauses x.clauses) in
    let first = kept_all e.clauses (true_from (are_kept_clauses e.clauses) (All-head P e es kept)) in
    items_more key (expression_pairs (k, e)) (flat_map expression_pairs (enumerate_from (k + 1) es))
    ∙ ap (λ l. l ++ items_under (flat_map expression_pairs (enumerate_from (k + 1) es)) key) (clauses_items key k 0 e.clauses first)
    ∙ ap (λ l. expression_entries key (k, e) ++ l) (all_items key (k + 1) es (All-tail P e es kept))

pub entries_are : (es : List Cnf) (key : Key) → AreKept es → items_under (pairs_of es) key ≡ entries_of es key
unfolding entries_of
entries_are es key kept = all_items key 0 es kept

pub lists_are : (es : List Cnf) (ks : List Key) → AreKept es → map (items_under (pairs_of es)) ks ≡ map (entries_of es) ks
lists_are es [] kept = refl
lists_are es (k ∷ ks) kept = ap (λ l. l ∷ map (items_under (pairs_of es)) ks) (entries_are es k kept) ∙ ap (λ l. entries_of es k ∷ l) (lists_are es ks kept)

-- ---- the keys that are named

abbrev is_under : Key → Key × Entry → Bool
is_under key q = same_key q.0 key

any_more : (key : Key) (ps qs : List (Key × Entry)) (b d : Bool) → list_any (is_under key) ps ≡ b → list_any (is_under key) qs ≡ d → list_any (is_under key) (ps ++ qs) ≡ (b || d)
any_more key ps qs b d first later =
    list_any-append (is_under key) ps qs ∙ ap (λ t. t || list_any (is_under key) qs) first ∙ ap (λ t. b || t) later

one_side : (b : Bool) → false ≡ (b && false)
one_side true = refl
one_side false = refl

both_sides : (b x r : Bool) → ((b && x) || (b && r)) ≡ (b && (x || r))
both_sides true x r = refl
both_sides false x r = refl

values_name : (key : Key) (n i : ℕ) (p : Pred) (vs : List Text)
    → list_any (is_under key) (map (value_pair n i p) vs) ≡ (same_attr p.attr key.attr && list_any (λ v. bytes_eq v key.value) vs)
values_name key n i p [] = one_side (same_attr p.attr key.attr)
values_name key n i p (v ∷ vs) =
    ap (λ t. (same_attr p.attr key.attr && bytes_eq v key.value) || t) (values_name key n i p vs)
    ∙ both_sides (same_attr p.attr key.attr) (bytes_eq v key.value) (list_any (λ w. bytes_eq w key.value) vs)

clause_names : (key : Key) (n i : ℕ) (c : List Pred) → list_any (is_under key) (clause_pairs n (i, c)) ≡ list_any (names key) c
clause_names key n i [] = refl
clause_names key n i (p ∷ c) = any_more key (pred_pairs n i p) (clause_pairs n (i, c)) (names key p) (list_any (names key) c) (values_name key n i p p.values) (clause_names key n i c)

clauses_name : (key : Key) (n i : ℕ) (cs : List (List Pred)) → list_any (is_under key) (flat_map (clause_pairs n) (enumerate_from i cs)) ≡ list_any (list_any (names key)) cs
clauses_name key n i [] = refl
clauses_name key n i (c ∷ cs) =
    any_more key (clause_pairs n (i, c)) (flat_map (clause_pairs n) (enumerate_from (i + 1) cs)) (list_any (names key) c) (list_any (list_any (names key)) cs)
    (clause_names key n i c) (clauses_name key n (i + 1) cs)

all_name : (key : Key) (k : ℕ) (es : List Cnf) → list_any (is_under key) (flat_map expression_pairs (enumerate_from k es)) ≡ list_any (is_named_in key) es
all_name key k [] = refl
all_name key k (e ∷ es) =
    any_more key (expression_pairs (k, e)) (flat_map expression_pairs (enumerate_from (k + 1) es)) (is_named_in key e) (list_any (is_named_in key) es)
    (clauses_name key k 0 e.clauses) (all_name key (k + 1) es)

pub named_are : (es : List Cnf) (key : Key) → list_any (λ (q : Key × Entry). same_key q.0 key) (pairs_of es) ≡ is_named es key
unfolding is_named
named_are es key = all_name key 0 es

-- ---- a list with the places of its items, one item further

pub found_enumerated : {X Y : Type 0} (f : ℕ × X → Option Y) (xs : List X) (i : ℕ) (d : X) → i < length xs
    → filter_map f (take (i + 1) (enumerate_from 0 xs)) ≡ filter_map f (take i (enumerate_from 0 xs)) ++ cons_option (f (i, get_or xs i d)) []
found_enumerated f xs i d h =
    let within : i < length (enumerate_from 0 xs) = omega (arith, length-enumerate_from 0 xs) in
    let zeroth : 0 + i ≡ i = omega arith in
    ap (filter_map f) (take_more (enumerate_from 0 xs) i (i, d) within)
    ∙ filter_map-append f (take i (enumerate_from 0 xs)) (get_or (enumerate_from 0 xs) i (i, d) ∷ [])
    ∙ ap (λ q. filter_map f (take i (enumerate_from 0 xs)) ++ cons_option (f q) []) (get_or-enumerate_from 0 xs i (i, d) h ∙ ap (λ n. (n, get_or xs i d)) zeroth)

-- an expression that needs no value stands in the zero list, and another does not
pub zero_there : (es : List Cnf) (i : ℕ) (d : Cnf) (old new : List ℕ) → i < length es → needs_none (get_or es i d) ≡ true
    → old ≡ filter_map zero_place (take i (enumerate_from 0 es)) → new ≡ old ++ i ∷ [] → new ≡ filter_map zero_place (take (i + 1) (enumerate_from 0 es))
zero_there es i d old new h is was pushed =
    pushed ∙ ap (λ l. l ++ i ∷ []) was
    ∙ sym (found_enumerated zero_place es i d h ∙ ap (λ b. filter_map zero_place (take i (enumerate_from 0 es)) ++ cons_option (cond b (Some i) None) []) is)

pub zero_absent : (es : List Cnf) (i : ℕ) (d : Cnf) (old new : List ℕ) → i < length es → needs_none (get_or es i d) ≡ false
    → old ≡ filter_map zero_place (take i (enumerate_from 0 es)) → new ≡ old → new ≡ filter_map zero_place (take (i + 1) (enumerate_from 0 es))
zero_absent es i d old new h is was same =
    same ∙ was ∙ sym (found_enumerated zero_place es i d h ∙ ap (λ b. filter_map zero_place (take i (enumerate_from 0 es)) ++ cons_option (cond b (Some i) None) []) is
    ∙ append-nil (filter_map zero_place (take i (enumerate_from 0 es))))

-- ---- how many are negated

ones_cut : (n r : ℕ) → n ≤ r → take {A = ℕ} n (replicate r 1) ≡ replicate n 1
ones_cut zero r h = refl
ones_cut (suc n) zero h = absurd (omega (arith, h))
ones_cut (suc n) (suc r) h = ap (λ l. 1 ∷ l) (ones_cut n r (omega (arith, h)))

ones_behind : (xs : List ℕ) (n r : ℕ) → length xs ≤ n → n ≤ r → take n (xs ++ replicate r 1) ≡ xs ++ replicate (n - length xs) 1
ones_behind [] n r long h =
    let all : n - 0 ≡ n = omega arith in
    ones_cut n r h ∙ ap (λ m. replicate m 1) (sym all)
ones_behind (x ∷ xs) zero r long h = absurd (omega (arith, long))
ones_behind (x ∷ xs) (suc n) r long h =
    let rest : n - length xs ≡ suc n - length (x ∷ xs) = omega arith in
    ap (λ l. x ∷ l) (ones_behind xs n r (omega (arith, long)) (omega (arith, h)) ∙ ap (λ m. xs ++ replicate m 1) rest)

pub padded_counts : (cs : List (List Pred)) → are_kept_clauses cs ≡ true → take 16 (map negated_in cs ++ replicate 16 1) ≡ map negated_in cs ++ replicate (16 - length cs) 1
padded_counts cs kept =
    let few : length cs ≤ 16 = leb-true (length cs) 16 (and_parts (nat_le (length cs) 16) (list_all is_kept_clause cs) kept).0 in
    ones_behind (map negated_in cs) 16 16 (omega (arith, few, length-map cs negated_in)) (omega arith)
    ∙ ap (λ m. map negated_in cs ++ replicate (16 - m) 1) (length-map cs negated_in)

pub negated_is : (es : List Cnf) → flat_map negated_of es ≡ all_negated es
unfolding all_negated
negated_is es = refl

pub zeros_are : (es : List Cnf) → filter_map zero_place (enumerate_from 0 es) ≡ zero_list es
unfolding zero_list
zeros_are es = refl

-- ---- the index

pub index_is : (xs es : List Cnf) (growing : Growing) (index : CnfIndex) → xs ≡ es → length es ≤ 4096 → AreKept xs → IsGrown (pairs_of xs) growing
    → index.keys ≡ growing.keys → index.lists ≡ lists_of growing → index.zeros ≡ zero_list xs → index.negated ≡ all_negated xs → IsIndexOf es index
index_is xs es growing index same few kept grown its_keys its_lists zeros negated =
    subst (λ (l : List Cnf). IsIndexOf l index) same (record {
      kept = kept;
      few = omega (arith, few, ap length same);
      unique = subst (λ m. IsDistinct same_key (keys m)) (sym its_keys) grown.unique;
      named = λ key. ap (λ m. list_any (same_key key) (keys m)) its_keys ∙ grown.named key ∙ named_are xs key;
      lists = its_lists ∙ grown.lists ∙ lists_are xs (keys growing.keys) kept ∙ ap (λ m. map (entries_of xs) (keys m)) (sym its_keys);
      zeros = zeros;
      negated = negated;
    })
