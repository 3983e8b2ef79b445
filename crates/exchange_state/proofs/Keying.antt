-- Candidates that are brought near their order by keys are the same candidates.
use Rattle.std.proofs.Common.{◌≡◌, ℕ, zero, suc, ◌+◌, ◌<◌, ◌≤◌, List, [], ◌∷◌, ◌++◌, All, get_or, length, map, take, refl, sym, ◌∙◌, ap, subst, arith, length-append}
use Rattle.std.specs.List.Sorted.{IsPermutation}
use Rattle.std.proofs.lemmas.List.{get_or_default, length-map, map-append, take_all, take_more}
use Rattle.std.proofs.lemmas.List.Elements.{All-append, All-cons, All-head, All-nil, All-tail}
use Rattle.std.proofs.lemmas.List.Sorted.{All-permutation, IsPermutation-map}
use Rattle.clearing.specs.declared.Offer.{Offer}
use Rattle.exchange_state.specs.Keys.{place_in, places}

-- ---- keys

places_long : (n : ℕ) → length (places n) ≡ n
places_long zero = refl
places_long (suc n) = omega (arith, length-append (places n) (n ∷ []), places_long n)

pub long_as : (keys : List ℕ) (n : ℕ) → map place_in keys ≡ places n → length keys ≡ n
long_as keys n is = sym (length-map keys place_in) ∙ ap length is ∙ places_long n

pub keyed : (keys new : List ℕ) (n key : ℕ) → map place_in keys ≡ places n → new ≡ keys ++ key ∷ [] → place_in key ≡ length keys → map place_in new ≡ places (n + 1)
keyed keys new n key so_far is place =
    let next : suc n ≡ n + 1 = omega arith in
    ap (map place_in) is ∙ map-append place_in keys (key ∷ []) ∙ ap (λ (l : List ℕ). l ++ place_in key ∷ []) so_far ∙ ap (λ (m : ℕ). places n ++ m ∷ []) (place ∙ long_as keys n so_far) ∙ ap places next

-- ---- each has the place of an offer

abbrev IsWithin : ℕ → ℕ → Type 0
IsWithin n key = place_in key < n

places_within : (m n : ℕ) → m ≤ n → All (λ p. p < n) (places m)
places_within zero n le = All-nil (λ p. p < n)
places_within (suc m) n le = All-append (λ p. p < n) (places m) (m ∷ []) (places_within m n (omega (arith, le))) (All-cons (λ p. p < n) m [] (omega (arith, le)) (All-nil (λ p. p < n)))

all_within : (n : ℕ) (keys ps : List ℕ) → map place_in keys ≡ ps → All (λ p. p < n) ps → All (IsWithin n) keys
all_within n [] ps is all = All-nil (IsWithin n)
all_within n (key ∷ keys) [] is all = absurd (cc)
all_within n (key ∷ keys) (p ∷ ps) is all =
    let head : place_in key ≡ p = cc in
    let tail : map place_in keys ≡ ps = cc in
    All-cons (IsWithin n) key keys (subst (λ x. x < n) (sym head) (All-head (λ x. x < n) p ps all)) (all_within n keys ps tail (All-tail (λ x. x < n) p ps all))

pub sorted_within : (n : ℕ) (keys sorted : List ℕ) → map place_in keys ≡ places n → IsPermutation keys sorted → All (IsWithin n) sorted
sorted_within n keys sorted is moved = All-permutation (IsWithin n) keys sorted moved (all_within n keys (places n) is (places_within n n (omega arith)))

-- ---- the offers at the places

abbrev at : List Offer → Offer → ℕ → Offer
at offers d k = get_or offers k d

at_places : (offers : List Offer) (d : Offer) (n : ℕ) → n ≤ length offers → map (at offers d) (places n) ≡ take n offers
at_places offers d zero le = refl
at_places offers d (suc n) le =
    let next : n + 1 ≡ suc n = omega arith in
    map-append (at offers d) (places n) (n ∷ []) ∙ ap (λ (l : List Offer). l ++ at offers d n ∷ []) (at_places offers d n (omega (arith, le))) ∙ sym (take_more offers n d (omega (arith, le))) ∙ ap (λ m. take m offers) next

by_key : (offers : List Offer) (d : Offer) (keys : List ℕ) → map (λ key. at offers d (place_in key)) keys ≡ map (at offers d) (map place_in keys)
by_key offers d [] = refl
by_key offers d (key ∷ keys) = ap (λ (l : List Offer). at offers d (place_in key) ∷ l) (by_key offers d keys)

pub same_offers : (offers : List Offer) (d : Offer) (keys sorted : List ℕ) (all : List Offer) → map place_in keys ≡ places (length offers) → IsPermutation keys sorted → all ≡ map (λ key. get_or offers (place_in key) d) sorted → IsPermutation offers all
same_offers offers d keys sorted all is moved all_are =
    let f : ℕ → Offer = λ key. at offers d (place_in key) in
    let whole : map f keys ≡ offers = by_key offers d keys ∙ ap (map (at offers d)) is ∙ at_places offers d (length offers) (omega arith) ∙ take_all (length offers) offers (omega arith) in
    subst (λ (l : List Offer). IsPermutation l all) whole (subst (IsPermutation (map f keys)) (sym all_are) (IsPermutation-map f keys sorted moved))

-- one more
pub placed_more : (offers : List Offer) (keys : List ℕ) (n : ℕ) (x : Offer) (old new : List Offer) → ((d : Offer) → old ≡ map (λ key. get_or offers (place_in key) d) (take n keys)) → n < length keys
    → x ≡ get_or offers (place_in (get_or keys n 0)) x → place_in (get_or keys n 0) < length offers → new ≡ old ++ x ∷ [] → (d : Offer) → new ≡ map (λ key. get_or offers (place_in key) d) (take (n + 1) keys)
placed_more offers keys n x old new so_far lt is within new_is d =
    let f : ℕ → Offer = λ key. at offers d (place_in key) in
    let place = place_in (get_or keys n 0) in
    let same : x ≡ f (get_or keys n 0) = is ∙ get_or_default offers place x d within in
    new_is ∙ ap (λ (l : List Offer). l ++ x ∷ []) (so_far d) ∙ ap (λ (o : Offer). map f (take n keys) ++ o ∷ []) same
    ∙ sym (map-append f (take n keys) (get_or keys n 0 ∷ [])) ∙ ap (map f) (sym (take_more keys n 0 lt))

pub placed_all : (offers : List Offer) (keys : List ℕ) (n : ℕ) (all : List Offer) → ((d : Offer) → all ≡ map (λ key. get_or offers (place_in key) d) (take n keys)) → length keys ≤ n → (d : Offer) → all ≡ map (λ key. get_or offers (place_in key) d) keys
placed_all offers keys n all so_far end d = so_far d ∙ ap (map (λ key. get_or offers (place_in key) d)) (take_all n keys end)
