-- The first ones of campaigns in order: their numbers are below the next, and with it they hold no more than all.
use Rattle.std.proofs.Common.{◌≡◌, ◌∙◌, ℕ, ◌+◌, ◌<◌, ◌≤◌, List, [], ◌∷◌, ◌++◌, All, length, take, get_or, map, ap, sym, subst, arith, length-append, append-nil}
use Rattle.std.specs.List.{flat_map}
use Rattle.std.specs.List.Sorted.{IsStrictlyIncreasing}
use Rattle.std.proofs.lemmas.List.{length-map, length-take-le, get_or-map, get_or-take, take-map}
use Rattle.std.proofs.lemmas.List.Concat.{flat_map-append}
use Rattle.std.proofs.lemmas.List.Folds.{length-flat_map-take}
use Rattle.std.proofs.lemmas.List.Kept.{AllPairs-from_increasing}
use Rattle.campaign_store.specs.declared.listed.LiveRecord.{LiveRecord}
use Rattle.conj_index.specs.Campaigns.{Campaigns, DoRise, conjunctions_in}
use Rattle.target_expr.specs.declared.pred.Pred.{Pred}
use Rattle.index_versions.specs.Versions.{campaigns_of, numbered_expression}

first_below : {X : Type 0} (f : X → ℕ) (xs : List X) (k : ℕ) (x : X) → IsStrictlyIncreasing (map f xs) → k < length xs → x ≡ get_or xs k x → All (λ y. f y < f x) (take k xs)
first_below f xs k x rising within is = λ j d lt.
    let before : j < k = omega (arith, length-take-le k xs) in
    let inside : k < length (map f xs) = omega (arith, length-map xs f) in
    let here : f (get_or (take k xs) j d) ≡ get_or (map f xs) j 0 = ap f (get_or-take k xs j d before) ∙ sym (get_or-map f xs j d 0 (omega arith)) in
    let next : f x ≡ get_or (map f xs) k 0 = ap f is ∙ sym (get_or-map f xs k x 0 within) in
    let below : get_or (map f xs) j 0 < get_or (map f xs) k 0 = AllPairs-from_increasing (map f xs) rising j k 0 before inside in
    omega (arith, here, next, below)

first_fit : (added : Campaigns) (k : ℕ) (p : ℕ × List (List Pred)) → conjunctions_in added ≤ 1000000 → k < length added → p ≡ get_or added k p → conjunctions_in (take k added ++ p ∷ []) ≤ 1000000
first_fit added k p few within is =
    let expr : ℕ × List (List Pred) → List (List Pred) = λ q. q.1 in
    let enough : length (flat_map expr (take k added)) + length (expr (get_or added k p)) ≤ length (flat_map expr added) = length-flat_map-take expr added k p within in
    let item : length (p.1) ≡ length (expr (get_or added k p)) = ap (λ (q : ℕ × List (List Pred)). length q.1) is in
    let split : conjunctions_in (take k added ++ p ∷ []) ≡ length (flat_map expr (take k added)) + length (p.1) =
    ap length (flat_map-append expr (take k added) (p ∷ []) ∙ ap (λ (l : List (List Pred)). flat_map expr (take k added) ++ l) (append-nil p.1))
    ∙ length-append (flat_map expr (take k added)) p.1 in
    omega (arith, enough, item, split, few)

place : (live : List LiveRecord) (k : ℕ) (r : LiveRecord) → k < length live → r ≡ get_or live k r → numbered_expression r ≡ get_or (campaigns_of live) k (numbered_expression r)
place live k r within is = ap numbered_expression is ∙ sym (get_or-map numbered_expression live k r (numbered_expression r) within)

long : (live : List LiveRecord) (k : ℕ) → k < length live → k < length (campaigns_of live)
long live k within = omega (arith, length-map live numbered_expression)

pub above : (live : List LiveRecord) (k : ℕ) (r : LiveRecord) → DoRise (campaigns_of live) → k < length live → r ≡ get_or live k r
    → All (λ (p : ℕ × List (List Pred)). p.0 < r.number) (campaigns_of (take k live))
above live k r rising within is =
    subst (λ (b : Campaigns). All (λ (p : ℕ × List (List Pred)). p.0 < r.number) b) (take-map numbered_expression k live)
    (first_below (λ (p : ℕ × List (List Pred)). p.0) (campaigns_of live) k (numbered_expression r) rising (long live k within) (place live k r within is))

pub room : (live : List LiveRecord) (k : ℕ) (r : LiveRecord) → conjunctions_in (campaigns_of live) ≤ 1000000 → k < length live → r ≡ get_or live k r
    → conjunctions_in (campaigns_of (take k live) ++ numbered_expression r ∷ []) ≤ 1000000
room live k r few within is =
    subst (λ (b : Campaigns). conjunctions_in (b ++ numbered_expression r ∷ []) ≤ 1000000) (take-map numbered_expression k live)
    (first_fit (campaigns_of live) k (numbered_expression r) few (long live k within) (place live k r within is))
