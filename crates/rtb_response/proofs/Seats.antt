-- What one sale more adds to the bids of a seat, and to the seats.
use Rattle.std.proofs.Common.{◌≡◌, ℕ, List, [], ◌∷◌, ◌++◌, map, Bool, true, false, not, ◌||◌, cond, filter, Option, refl, sym, ap, ◌∙◌}
use Rattle.std.specs.List.{list_any}
use Rattle.std.specs.Str.{bytes_eq}
use Rattle.std.proofs.lemmas.List.{map-append}
use Rattle.std.proofs.lemmas.List.Elements.{filter-append}
use Rattle.std.proofs.lemmas.Slice.Eq.{bytes_eq-Decides}
use Rattle.address_keys.specs.declared.keys.Keys.{Keys}
use Rattle.plain_exchange.specs.declared.commands.Sold.{Sold}
use Rattle.rtb_response.specs.Response.{bid_text, is_of_seat, seat_bids, seat_of, seats_of}
use Rattle.rtb_types.specs.declared.request.BidRequest.{BidRequest}

chosen : {A B : Type 0} (f : A → B) (b : Bool) (x : A) → map f (cond b (x ∷ []) []) ≡ cond b (f x ∷ []) []
chosen f true x = refl
chosen f false x = refl

pub bids_push : (public : Option (List ℕ)) (keys : Keys) (r : BidRequest) (sold : List Sold) (s : Sold) (seat : List ℕ)
    → seat_bids public keys r (sold ++ s ∷ []) seat ≡ seat_bids public keys r sold seat ++ cond (is_of_seat seat s) (bid_text public keys r s ∷ []) []
bids_push public keys r sold s seat =
    ap (map (bid_text public keys r)) (filter-append (is_of_seat seat) sold (s ∷ []))
    ∙ map-append (bid_text public keys r) (filter (is_of_seat seat) sold) (cond (is_of_seat seat s) (s ∷ []) [])
    ∙ ap (λ l. seat_bids public keys r sold seat ++ l) (chosen (bid_text public keys r) (is_of_seat seat s) s)

bytes_swapped : (a b : List ℕ) → bytes_eq a b ≡ bytes_eq b a
bytes_swapped a b = by (bytes_eq a b) (bytes_eq b a) (λ h. (bytes_eq-Decides b a).1 (sym ((bytes_eq-Decides a b).0 h))) (λ h. (bytes_eq-Decides a b).1 (sym ((bytes_eq-Decides b a).0 h)))
  where
    by : (x y : Bool) → (x ≡ true → y ≡ true) → (y ≡ true → x ≡ true) → x ≡ y
    by true y f g = sym (f refl)
    by false true f g = g refl
    by false false f g = refl

pub no_seats : seats_of [] ≡ []
unfolding seats_of
no_seats = refl

-- a seat that is there is not there again, and another one is
left : (others : List ℕ → Bool) (is_own is_there : Bool) (seat : List ℕ) → others seat ≡ not is_own
    → filter others (cond is_there [] (seat ∷ [])) ≡ cond (is_own || is_there) [] (seat ∷ [])
left others true true seat e = refl
left others false true seat e = refl
left others true false seat e = ap (λ b. cond b (seat ∷ []) []) e
left others false false seat e = ap (λ b. cond b (seat ∷ []) []) e

-- one sale more
pub seats_push : (sold : List Sold) (s : Sold) → seats_of (sold ++ s ∷ []) ≡ seats_of sold ++ cond (list_any (is_of_seat (seat_of s)) sold) [] (seat_of s ∷ [])
unfolding seats_of
seats_push [] s = refl
seats_push (t ∷ sold) s =
    let others = λ (seat : List ℕ). not (bytes_eq seat (seat_of t)) in
    let is_there = list_any (is_of_seat (seat_of s)) sold in
    ap (λ l. seat_of t ∷ filter others l) (seats_push sold s)
    ∙ ap (λ l. seat_of t ∷ l) (filter-append others (seats_of sold) (cond is_there [] (seat_of s ∷ []))
    ∙ ap (λ l. filter others (seats_of sold) ++ l) (left others (bytes_eq (seat_of t) (seat_of s)) is_there (seat_of s) (ap not (bytes_swapped (seat_of s) (seat_of t)))))

pub unless_mapped : {A B : Type 0} (f : A → B) (xs : List A) (b : Bool) (x : A) → map f (xs ++ cond b [] (x ∷ [])) ≡ map f xs ++ cond b [] (f x ∷ [])
unless_mapped f xs b x = map-append f xs (cond b [] (x ∷ [])) ∙ ap (λ l. map f xs ++ l) (by b)
  where
    by : (c : Bool) → map f (cond c [] (x ∷ [])) ≡ cond c [] (f x ∷ [])
    by true = refl
    by false = refl
