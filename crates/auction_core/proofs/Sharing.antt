-- Lists that several share, by their places.
use Rattle.std.proofs.Common.{◌≡◌, ℕ, zero, suc, ◌<◌, ◌&&◌, ◌++◌, List, [], ◌∷◌, Bool, true, Result, Ok, Err, Some, get_or, length, map, option_map, refl, sym, ◌∙◌, ap, arith}
use Rattle.std.specs.Prelude.{OnErr, OnOk, Option, slice_get, ◌==◌}
use Rattle.std.specs.List.{list_all}
use Rattle.std.specs.Option.{option_map_or}
use Rattle.std.proofs.lemmas.Bool.{and_parts, eqb-true, le-leb, leb-true}
use Rattle.std.proofs.lemmas.List.{length_push, map-append}
use Rattle.std.proofs.lemmas.List.Folds.{list_all-append}
use Rattle.std.proofs.lemmas.Option.{same_Some, slice_get-get_or, slice_get-map}
use Rattle.auction_core.specs.Placed.{is_placed, list_at}

at_more : {X : Type 0} (lists : List (List X)) (x : List X) (p : ℕ) → p < length lists → list_at (lists ++ x ∷ []) p ≡ list_at lists p
at_more [] x p h = absurd (omega (arith, h))
at_more (l ∷ lists) x zero h = refl
at_more (l ∷ lists) x (suc p) h = at_more lists x p (omega (arith, h))

at_last : {X : Type 0} (lists : List (List X)) (x : List X) → list_at (lists ++ x ∷ []) (length lists) ≡ x
at_last [] x = refl
at_last (l ∷ lists) x = at_last lists x

placed_more : {X : Type 0} (lists : List (List X)) (x : List X) (p : ℕ) → is_placed lists p ≡ true → is_placed (lists ++ x ∷ []) p ≡ true
placed_more lists x p h = le-leb (suc p) (length (lists ++ x ∷ [])) (omega (arith, leb-true (suc p) (length lists) h, length_push lists x))

all_more : {X : Type 0} (lists : List (List X)) (x : List X) (places : List ℕ) → list_all (is_placed lists) places ≡ true → list_all (is_placed (lists ++ x ∷ [])) places ≡ true
all_more lists x [] h = refl
all_more lists x (p ∷ places) h =
    let (first, rest) = and_parts (is_placed lists p) (list_all (is_placed lists) places) h in
    ap (λ (b : Bool). b && list_all (is_placed (lists ++ x ∷ [])) places) (placed_more lists x p first) ∙ all_more lists x places rest

same_more : {X : Type 0} (lists : List (List X)) (x : List X) (places : List ℕ) → list_all (is_placed lists) places ≡ true → map (list_at (lists ++ x ∷ [])) places ≡ map (list_at lists) places
same_more lists x [] h = refl
same_more {X} lists x (p ∷ places) h =
    let (first, rest) = and_parts (is_placed lists p) (list_all (is_placed lists) places) h in
    ap (λ (l : List X). l ∷ map (list_at (lists ++ x ∷ [])) places) (at_more lists x p (leb-true (suc p) (length lists) first))
    ∙ ap (λ (ls : List (List X)). list_at lists p ∷ ls) (same_more lists x places rest)

last_placed : {X : Type 0} (lists : List (List X)) (x : List X) → is_placed (lists ++ x ∷ []) (length lists) ≡ true
last_placed lists x = le-leb (suc (length lists)) (length (lists ++ x ∷ [])) (omega (arith, length_push lists x))

-- one list more, and its place, where there was memory for it
pub placed_after : {X A E : Type 0} (r : Result A E) (lists more : List (List X)) (x : List X) (places after : List ℕ) (n : ℕ) → list_all (is_placed lists) places ≡ true → more ≡ lists ++ x ∷ [] → n ≡ length lists
    → OnOk r (after ≡ places ++ n ∷ []) → OnErr r (after ≡ places) → list_all (is_placed more) after ≡ true
placed_after {X} (Ok a) lists more x places after n h e at ok err =
    ap (λ (ls : List (List X)). list_all (is_placed ls) after) e
    ∙ ap (list_all (is_placed (lists ++ x ∷ []))) (ok ∙ ap (λ (k : ℕ). places ++ k ∷ []) at)
    ∙ list_all-append (is_placed (lists ++ x ∷ [])) places (length lists ∷ [])
    ∙ ap (λ (b : Bool). b && (is_placed (lists ++ x ∷ []) (length lists) && true)) (all_more lists x places h)
    ∙ ap (λ (b : Bool). b && true) (last_placed lists x)
placed_after {X} (Err f) lists more x places after n h e at ok err =
    ap (λ (ls : List (List X)). list_all (is_placed ls) after) e ∙ ap (list_all (is_placed (lists ++ x ∷ []))) err ∙ all_more lists x places h

pub lists_after : {X A E : Type 0} (r : Result A E) (lists more value : List (List X)) (x : List X) (places after : List ℕ) (n : ℕ) → list_all (is_placed lists) places ≡ true → map (list_at lists) places ≡ value → more ≡ lists ++ x ∷ [] → n ≡ length lists
    → OnOk r (after ≡ places ++ n ∷ []) → OnOk r (map (list_at more) after ≡ value ++ x ∷ [])
lists_after {X} (Ok a) lists more value x places after n h v e at ok =
    ap (λ (ls : List (List X)). map (list_at ls) after) e
    ∙ ap (map (list_at (lists ++ x ∷ []))) (ok ∙ ap (λ (k : ℕ). places ++ k ∷ []) at)
    ∙ map-append (list_at (lists ++ x ∷ [])) places (length lists ∷ [])
    ∙ ap (λ (ls : List (List X)). ls ++ list_at (lists ++ x ∷ []) (length lists) ∷ []) (same_more lists x places h ∙ v)
    ∙ ap (λ (l : List X). value ++ l ∷ []) (at_last lists x)
lists_after (Err f) lists more value x places after n h v e at ok = tt

-- the list of the impression at a place
pub list_there : {X : Type 0} (lists value : List (List X)) (places : List ℕ) (imp place : ℕ) (list cs : List X) → map (list_at lists) places ≡ value → imp < length places → place ≡ get_or places imp place → place < length lists → list ≡ get_or lists place list
    → slice_get value imp ≡ Some cs → list ≡ cs
list_there {X} lists value places imp place list cs v inside at within is got =
    let placed : slice_get places imp ≡ Some place = slice_get-get_or places imp place inside ∙ ap (λ (k : ℕ). Some k) (sym at) in
    let has : slice_get lists place ≡ Some list = slice_get-get_or lists place list within ∙ ap (λ (l : List X). Some l) (sym is) in
    let told : Some (list_at lists place) ≡ Some cs =
    ap (option_map (list_at lists)) (sym placed) ∙ sym (slice_get-map (list_at lists) places imp) ∙ ap (λ (ls : List (List X)). slice_get ls imp) v ∙ got in
    sym (ap (λ (o : Option (List X)). option_map_or (λ (l : List X). l) o []) has) ∙ same_Some (list_at lists place) cs told

-- the last list again
pub last_after : {X A E : Type 0} (r : Result A E) (lists value : List (List X)) (places after : List ℕ) (n last : ℕ) (cs : List X) → map (list_at lists) places ≡ value → n < length places → last ≡ get_or places n last → slice_get value n ≡ Some cs
    → OnOk r (after ≡ places ++ last ∷ []) → OnOk r (map (list_at lists) after ≡ value ++ cs ∷ [])
last_after {X} (Ok a) lists value places after n last cs v inside at got ok =
    let placed : slice_get places n ≡ Some last = slice_get-get_or places n last inside ∙ ap (λ (k : ℕ). Some k) (sym at) in
    let told : Some (list_at lists last) ≡ Some cs =
    ap (option_map (list_at lists)) (sym placed) ∙ sym (slice_get-map (list_at lists) places n) ∙ ap (λ (ls : List (List X)). slice_get ls n) v ∙ got in
    ap (map (list_at lists)) ok
    ∙ map-append (list_at lists) places (last ∷ [])
    ∙ ap (λ (ls : List (List X)). ls ++ list_at lists last ∷ []) v
    ∙ ap (λ (l : List X). value ++ l ∷ []) (same_Some (list_at lists last) cs told)
last_after (Err f) lists value places after n last cs v inside at got ok = tt

-- impressions with one place have one list
pub shared_there : {X : Type 0} (lists value : List (List X)) (places : List ℕ) (i j : ℕ) → map (list_at lists) places ≡ value → i < length places → j < length places → (get_or places i 0 == get_or places j 0) ≡ true → slice_get value i ≡ slice_get value j
shared_there {X} lists value places i j v here there h =
    let same : slice_get places i ≡ slice_get places j =
    slice_get-get_or places i 0 here ∙ ap (λ (k : ℕ). Some k) (eqb-true (get_or places i 0) (get_or places j 0) h) ∙ sym (slice_get-get_or places j 0 there) in
    ap (λ (ls : List (List X)). slice_get ls i) (sym v)
    ∙ slice_get-map (list_at lists) places i
    ∙ ap (option_map (list_at lists)) same
    ∙ sym (slice_get-map (list_at lists) places j)
    ∙ ap (λ (ls : List (List X)). slice_get ls j) v
