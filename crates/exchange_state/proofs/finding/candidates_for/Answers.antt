use Rattle.std.proofs.Common.{◌∙◌, drop, length, subst, sym}
use Rattle.std.specs.List.Sorted.{IsPermutation}
use Rattle.std.proofs.lemmas.List.Sorted.{IsPermutation-trans, length_permutation}
use Rattle.exchange_state.specs.Finding.{AreAll}
use Rattle.exchange_state.proofs.Founds.{are_all, take_front}
use Rattle.exchange_state.proofs.finding.candidates_for.Goals as goal

pub returns : goal.returns
returns c = λ i at rise is.
    let live = c.args.live.now in
    let r = c.args.asked.now in
    let walked = c.in_ok-walked.walked.items in
    let near = c.in_ok-offers.offers.items in
    let sorted = c.put_in_order.new.candidates in
    let as_many = length_permutation c.deref_mut.result.now sorted c.put_in_order.ensures.same ∙ c.deref_mut.ensures.len in
    subst (AreAll live r i) (sym (c.from_vec.ensures ∙ take_front sorted (drop (length sorted) near) c.in_ok-offers.offers.len as_many))
    (are_all live r i walked sorted (c.in_ok-walked.ensures i at rise is) (IsPermutation-trans walked near sorted c.in_ok-offers.ensures (subst (λ os. IsPermutation os sorted) c.deref_mut.ensures.value c.put_in_order.ensures.same)) c.put_in_order.ensures.order)
