-- The campaigns that values reach, one after the other.
use Rattle.std.proofs.Common.{◌≡◌, ℕ, ◌+◌, ◌<◌, ◌≤◌, Bool, true, false, cond, List, [], ◌∷◌, ◌++◌, length, map, take, get_or, refl, ◌∙◌, ap, arith, Some}
use Rattle.std.specs.Prelude.{filter, slice_get}
use Rattle.std.specs.List.{enumerate_from}
use Rattle.std.proofs.lemmas.List.{map-append, take_all, take_more}
use Rattle.std.proofs.lemmas.List.Elements.{filter_more}
use Rattle.std.proofs.lemmas.List.FromFn.{get_or-enumerate_from, length-enumerate_from}
use Rattle.std.proofs.lemmas.Option.{get_or_from_slice_get}
use Rattle.auction_core.specs.Draft.{found_for}
use Rattle.auction_core.specs.Scan.{is_open_to, open_to}
use Rattle.plain_exchange.specs.State.{Campaign, State}
use Rattle.rtb_types.specs.declared.request.BidRequest.{BidRequest}
use Rattle.rtb_types.specs.declared.request.Imp.{Imp}
use Rattle.target_expr.specs.declared.attr.Attr.{Attr}

one_number : (b : Bool) (p : ℕ × Campaign) → map (λ (q : ℕ × Campaign). q.0) (cond b (p ∷ []) []) ≡ cond b (p.0 ∷ []) []
one_number true p = refl
one_number false p = refl

-- the numbers of those among the first so many
abbrev pub first_open : List (Attr × List ℕ) → State → ℕ → List ℕ
first_open values s k = map (λ (q : ℕ × Campaign). q.0) (filter (λ (q : ℕ × Campaign). is_open_to values q.1) (take k (enumerate_from 1 s.campaigns)))

pub numbers_more : (values : List (Attr × List ℕ)) (s : State) (k : ℕ) (c : Campaign) → k < length s.campaigns → slice_get s.campaigns k ≡ Some c → first_open values s (k + 1) ≡ first_open values s k ++ cond (is_open_to values c) ((k + 1) ∷ []) []
numbers_more values s k c inside at =
    let open_ : ℕ × Campaign → Bool = λ q. is_open_to values q.1 in
    let number : ℕ × Campaign → ℕ = λ q. q.0 in
    let all = enumerate_from 1 s.campaigns in
    let front = filter open_ (take k all) in
    let d : ℕ × Campaign = (0, c) in
    let place : 1 + k ≡ k + 1 = omega arith in
    let inside2 : k < length all = omega (arith, length-enumerate_from 1 s.campaigns) in
    let item : get_or all k d ≡ (k + 1, c) = get_or-enumerate_from 1 s.campaigns k d inside ∙ ap (λ n. (n, get_or s.campaigns k c)) place ∙ ap (λ (x : Campaign). (k + 1, x)) (get_or_from_slice_get s.campaigns k c c at) in
    ap (map number) (filter_more open_ all k d inside2)
    ∙ map-append number front (cond (open_ (get_or all k d)) (get_or all k d ∷ []) [])
    ∙ ap (λ (p : ℕ × Campaign). map number front ++ map number (cond (open_ p) (p ∷ []) [])) item
    ∙ ap (λ l. map number front ++ l) (one_number (is_open_to values c) (k + 1, c))

pub all_open : (values : List (Attr × List ℕ)) (s : State) (k : ℕ) → length s.campaigns ≤ k → first_open values s k ≡ open_to values s
all_open values s k whole =
    let all = enumerate_from 1 s.campaigns in
    ap (λ l. map (λ (q : ℕ × Campaign). q.0) (filter (λ (q : ℕ × Campaign). is_open_to values q.1) l)) (take_all k all (omega (arith, whole, length-enumerate_from 1 s.campaigns)))

pub found_more : (s : State) (r : BidRequest) (k : ℕ) (i : Imp) → k < length r.imps → slice_get r.imps k ≡ Some i → map (found_for s r) (take (k + 1) r.imps) ≡ map (found_for s r) (take k r.imps) ++ found_for s r i ∷ []
found_more s r k i inside at =
    ap (map (found_for s r)) (take_more r.imps k i inside)
    ∙ map-append (found_for s r) (take k r.imps) (get_or r.imps k i ∷ [])
    ∙ ap (λ (x : Imp). map (found_for s r) (take k r.imps) ++ found_for s r x ∷ []) (get_or_from_slice_get r.imps k i i at)
