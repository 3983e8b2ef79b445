use Rattle.std.proofs.Common.{◌≡◌, ◌∙◌, ◌<◌, All, List, arith, ap, get_or, length, map, subst, sym, ℕ}
use Rattle.std.specs.List.Sorted.{IsPermutation}
use Rattle.std.proofs.lemmas.Result.{IfOk-weaker}
use Rattle.clearing.specs.declared.Offer.{Offer}
use Rattle.exchange_state.specs.Keys.{place_in, places}
use Rattle.exchange_state.proofs.Founds.{item_at}
use Rattle.exchange_state.proofs.Keying.{same_offers, sorted_within}
use Rattle.exchange_state.proofs.keys.by_bid.Goals as goal

pub placed-requires : goal.placed-requires
placed-requires c =
    let offers = c.args.offers.items in
    let keys = c.in_ok-keys.keys.items in
    let sorted = c.sort_unstable.new.self.items in
    let is : map place_in keys ≡ places (length offers) = c.in_ok-keys.ensures ∙ ap (λ (l : List Offer). places (length l)) c.as_slice.ensures.value in
    subst (λ (l : List Offer). All (λ (key : ℕ). place_in key < length l) c.as_slice-3.result.now) (sym c.as_slice-2.ensures.value)
    (subst (λ (ks : List ℕ). All (λ (key : ℕ). place_in key < length offers) ks) (sym c.as_slice-3.ensures.value) (sorted_within (length offers) keys sorted is c.sort_unstable.ensures.permutation))

pub returns : goal.returns
returns c =
    let offers = c.args.offers.items in
    let keys = c.in_ok-keys.keys.items in
    let sorted = c.sort_unstable.new.self.items in
    let is : map place_in keys ≡ places (length offers) = c.in_ok-keys.ensures ∙ ap (λ (l : List Offer). places (length l)) c.as_slice.ensures.value in
    let some : 0 < length offers = omega (arith, c.if-len-le-FEW.false, c.len.ensures, ap length c.as_slice.ensures.value, c.as_slice.ensures.len) in
    let (d, at) = item_at offers 0 some in
    IfOk-weaker c.placed.result (λ v. v.items ≡ map (λ (key : ℕ). get_or c.as_slice-2.result.now (place_in key) d) c.as_slice-3.result.now) (λ v. IsPermutation offers v.items)
    (λ v told. same_offers offers d keys sorted v.items is c.sort_unstable.ensures.permutation
    (told ∙ ap (λ (l : List Offer). map (λ (key : ℕ). get_or l (place_in key) d) c.as_slice-3.result.now) c.as_slice-2.ensures.value ∙ ap (map (λ (key : ℕ). get_or offers (place_in key) d)) c.as_slice-3.ensures.value))
    (c.placed.ensures d)
