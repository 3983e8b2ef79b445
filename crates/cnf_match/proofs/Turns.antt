-- What lists are with one item more, for the loops.
use Rattle.std.proofs.Common.{◌≡◌, ℕ, ◌+◌, ◌≤◌, ◌<◌, List, [], ◌∷◌, ◌++◌, Option, map, length, take, get_or, sym, ◌∙◌, ap, append_assoc, arith}
use Rattle.std.specs.List.{cons_option, filter_map, flat_map, fold, sum_by}
use Rattle.std.proofs.lemmas.List.{append-nil, map-append, map_more, take_more}
use Rattle.std.proofs.lemmas.List.Concat.{flat_map-append}
use Rattle.std.proofs.lemmas.List.Elements.{filter_map-append}
use Rattle.std.proofs.lemmas.List.Sums.{fold_more, sum_by_more}

pub spread_more : {X Y : Type 0} (f : X → List Y) (xs : List X) (i : ℕ) (d : X) → i < length xs → flat_map f (take (i + 1) xs) ≡ flat_map f (take i xs) ++ f (get_or xs i d)
spread_more f xs i d h = ap (flat_map f) (take_more xs i d h) ∙ flat_map-append f (take i xs) (get_or xs i d ∷ []) ∙ ap (λ l. flat_map f (take i xs) ++ l) (append-nil (f (get_or xs i d)))

pub found_more : {X Y : Type 0} (f : X → Option Y) (xs : List X) (i : ℕ) (d : X) → i < length xs → filter_map f (take (i + 1) xs) ≡ filter_map f (take i xs) ++ cons_option (f (get_or xs i d)) []
found_more f xs i d h = ap (filter_map f) (take_more xs i d h) ∙ filter_map-append f (take i xs) (get_or xs i d ∷ [])

-- a turn that appends what there is of the next item
pub found_step : {X Y : Type 0} (f : X → Option Y) (xs : List X) (before old new : List Y) (i : ℕ) (d : X) (o : Option Y)
    → i < length xs → new ≡ old ++ cons_option o [] → old ≡ before ++ filter_map f (take i xs) → o ≡ f (get_or xs i d) → new ≡ before ++ filter_map f (take (i + 1) xs)
found_step {X} {Y} f xs before old new i d o h pushed was is =
    pushed ∙ ap (λ l. l ++ cons_option o []) was ∙ append_assoc before (filter_map f (take i xs)) (cons_option o [])
    ∙ ap (λ l. before ++ l) (ap (λ (p : Option Y). filter_map f (take i xs) ++ cons_option p []) is ∙ sym (found_more f xs i d h))

-- the same of what a function of the item gives
pub mapped_step : {X Y Z : Type 0} (f : Y → Option Z) (g : X → Y) (xs : List X) (before old new : List Z) (i : ℕ) (d : X) (o : Option Z)
    → i < length xs → new ≡ old ++ cons_option o [] → old ≡ before ++ filter_map f (map g (take i xs)) → o ≡ f (g (get_or xs i d)) → new ≡ before ++ filter_map f (map g (take (i + 1) xs))
mapped_step {X} {Y} {Z} f g xs before old new i d o h pushed was is =
    let more : filter_map f (map g (take (i + 1) xs)) ≡ filter_map f (map g (take i xs)) ++ cons_option (f (g (get_or xs i d))) [] =
    ap (filter_map f) (map_more g xs i d h) ∙ filter_map-append f (map g (take i xs)) (g (get_or xs i d) ∷ []) in
    pushed ∙ ap (λ l. l ++ cons_option o []) was ∙ append_assoc before (filter_map f (map g (take i xs))) (cons_option o [])
    ∙ ap (λ l. before ++ l) (ap (λ (p : Option Z). filter_map f (map g (take i xs)) ++ cons_option p []) is ∙ sym more)

-- a turn that appends what there is of the items of the next list
pub listed_step : {X Y Z V : Type 0} (f : Y → Option Z) (g : X → Y) (v : V → List X) (vs : List V) (old new : List Z) (i : ℕ) (d : V)
    → i < length vs → old ≡ filter_map f (map g (flat_map v (take i vs))) → new ≡ old ++ filter_map f (map g (v (get_or vs i d)))
    → new ≡ filter_map f (map g (flat_map v (take (i + 1) vs)))
listed_step f g v vs old new i d h was pushed =
    pushed ∙ ap (λ l. l ++ filter_map f (map g (v (get_or vs i d)))) was
    ∙ sym (ap (λ l. filter_map f (map g l)) (spread_more v vs i d h)
    ∙ ap (filter_map f) (map-append g (flat_map v (take i vs)) (v (get_or vs i d)))
    ∙ filter_map-append f (map g (flat_map v (take i vs))) (map g (v (get_or vs i d))))

-- what it has cost
pub listed_cost : {X V : Type 0} (v : V → List X) (vs : List V) (start old new : ℕ) (i : ℕ) (d : V)
    → i < length vs → old ≤ start + sum_by (λ x. length (v x)) (take i vs) → new ≤ old + length (v (get_or vs i d)) → new ≤ start + sum_by (λ x. length (v x)) (take (i + 1) vs)
listed_cost v vs start old new i d h was now = omega (arith, was, now, sum_by_more (λ x. length (v x)) vs i d h)

-- a turn that takes the next item in
pub folded_step : {X Y : Type 0} (f : Y → X → Y) (start : Y) (xs : List X) (old new : Y) (i : ℕ) (x : X)
    → i < length xs → ((d : X) → x ≡ get_or xs i d) → old ≡ fold f start (take i xs) → new ≡ f old x → new ≡ fold f start (take (i + 1) xs)
folded_step f start xs old new i x h is was now = now ∙ ap (λ y. f y x) was ∙ ap (f (fold f start (take i xs))) (is x) ∙ sym (fold_more f start xs i x h)
