-- What is found in the index of a state's live campaigns.
use Rattle.std.proofs.Common.{◌≡◌, ℕ, zero, suc, ◌+◌, ◌<◌, ◌≤◌, ◌&&◌, List, [], ◌∷◌, ◌++◌, length, take, map, filter, get_or, Bool, true, false, cond, Some, refl, sym, ap, ◌∙◌, arith}
use Rattle.std.specs.Prelude.{slice_get, sum_by}
use Rattle.std.specs.List.{enumerate_from, flat_map}
use Rattle.std.proofs.lemmas.List.{map-append, take_more}
use Rattle.std.proofs.lemmas.List.Sums.{sum_by-append, sum_by-cons}
use Rattle.std.proofs.lemmas.Option.{get_or_from_slice_get}
use Rattle.assign.specs.Rows.{pairs_of}
use Rattle.auction_core.specs.Core.{listed, listed_as}
use Rattle.auction_core.specs.Draft.{found_for, is_reached}
use Rattle.conj_index.specs.Campaigns.{Campaigns}
use Rattle.conj_index.specs.Find.{true_under}
use Rattle.plain_exchange.specs.State.{Campaign, State}
use Rattle.rtb_types.specs.declared.request.BidRequest.{BidRequest}
use Rattle.rtb_types.specs.declared.request.Imp.{Imp}
use Rattle.target_expr.specs.declared.attr.Attr.{Attr}
use Rattle.target_expr.specs.declared.pred.Pred.{Pred}
use Rattle.target_expr.specs.Truth.{holds}
use Rattle.live_index.specs.Reached.{live_expression, live_expressions}

abbrev Pairs : Type 0
Pairs = List (Attr × List ℕ)

-- one campaign in front
in_front : (pairs : Pairs) (n : ℕ) (c : Campaign) (rest : Campaigns) (live : Bool)
    → true_under pairs (cond live ((n, c.expr) ∷ []) [] ++ rest) ≡ map (λ (p : ℕ × Campaign). p.0) (cond (live && holds pairs c.expr) ((n, c) ∷ []) []) ++ true_under pairs rest
in_front pairs n c rest false = refl
in_front pairs n c rest true = by (holds pairs c.expr)
  where
    by : (h : Bool) → map (λ (p : ℕ × List (List Pred)). p.0) (cond h ((n, c.expr) ∷ filter (λ (p : ℕ × List (List Pred)). holds pairs p.1) rest) (filter (λ (p : ℕ × List (List Pred)). holds pairs p.1) rest))
        ≡ map (λ (p : ℕ × Campaign). p.0) (cond h ((n, c) ∷ []) []) ++ true_under pairs rest
    by true = refl
    by false = refl

-- a filter takes one in front where it passes
passed : (test : Bool) (n : ℕ) (c : Campaign) (rest : List (ℕ × Campaign))
    → map (λ (p : ℕ × Campaign). p.0) (cond test ((n, c) ∷ []) []) ++ map (λ (p : ℕ × Campaign). p.0) rest ≡ map (λ (p : ℕ × Campaign). p.0) (cond test ((n, c) ∷ rest) rest)
passed true n c rest = refl
passed false n c rest = refl

from : (r : BidRequest) (imp : Imp) (n : ℕ) (cs : List Campaign)
    → true_under (pairs_of r imp) (flat_map live_expression (enumerate_from n (map listed_as cs))) ≡ map (λ (p : ℕ × Campaign). p.0) (filter (is_reached r imp) (enumerate_from n cs))
from r imp n [] = refl
from r imp n (c ∷ cs) =
    in_front (pairs_of r imp) n c (flat_map live_expression (enumerate_from (n + 1) (map listed_as cs))) c.live
    ∙ ap (λ l. map (λ (p : ℕ × Campaign). p.0) (cond (is_reached r imp (n, c)) ((n, c) ∷ []) []) ++ l) (from r imp (n + 1) cs)
    ∙ passed (is_reached r imp (n, c)) n c (filter (is_reached r imp) (enumerate_from (n + 1) cs))

-- they are the campaigns that the auction looks at
pub found_by_index : (s : State) (r : BidRequest) (imp : Imp) → true_under (pairs_of r imp) (live_expressions (listed s)) ≡ found_for s r imp
found_by_index s r imp = from r imp 1 s.campaigns

-- ---- one impression after the other

-- what is pushed for the next
pub pushed : {B : Type 0} (f : Imp → B) (imps : List Imp) (k : ℕ) (i : Imp) (found : List B) (next : B) → k < length imps → slice_get imps k ≡ Some i → found ≡ map f (take k imps) → next ≡ f i
    → found ++ next ∷ [] ≡ map f (take (k + 1) imps)
pushed {B} f imps k i found next inside at so_far is =
    ap (λ (l : List B). l ++ next ∷ []) so_far
    ∙ ap (λ (x : B). map f (take k imps) ++ x ∷ []) (is ∙ ap f (sym (get_or_from_slice_get imps k i i at)))
    ∙ sym (ap (map f) (take_more imps k i inside) ∙ map-append f (take k imps) (get_or imps k i ∷ []))

-- what the next costs beside those before it, which with it cost no more than all
pub cost_of_one_more : (f : Imp → ℕ) (imps : List Imp) (k : ℕ) (i : Imp) → k < length imps → slice_get imps k ≡ Some i → sum_by f (take (k + 1) imps) ≡ sum_by f (take k imps) + f i
cost_of_one_more f imps k i inside at =
    let split = ap (sum_by f) (take_more imps k i inside) ∙ sum_by-append f (take k imps) (get_or imps k i ∷ []) in
    let one = sum_by-cons f (get_or imps k i) [] in
    let item = ap f (get_or_from_slice_get imps k i i at) in
    omega (arith, split, one, item)

pub cost_of_front : (f : Imp → ℕ) (imps : List Imp) (k : ℕ) → sum_by f (take k imps) ≤ sum_by f imps
cost_of_front f imps zero = omega arith
cost_of_front f [] (suc k) = omega arith
cost_of_front f (i ∷ imps) (suc k) = omega (arith, sum_by-cons f i (take k imps), sum_by-cons f i imps, cost_of_front f imps k)

pub cost_within : (f : Imp → ℕ) (imps : List Imp) (k : ℕ) (i : Imp) → k < length imps → slice_get imps k ≡ Some i → sum_by f (take k imps) + f i ≤ sum_by f imps
cost_within f imps k i inside at = omega (arith, cost_of_one_more f imps k i inside at, cost_of_front f imps (k + 1))
