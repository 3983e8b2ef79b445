use Rattle.std.proofs.Common.{◌∙◌, ap, arith, get_or}
use Rattle.std.proofs.lemmas.Option.{get_or_from_slice_get}
use Rattle.assign.specs.Rows.{pairs_of}
use Rattle.conj_index.specs.Find.{find_cost, true_under}
use Rattle.index_versions.specs.Versions.{campaigns_of}
use Rattle.rtb_types.specs.declared.request.BidRequest.{BidRequest}
use Rattle.exchange_state.proofs.finding.numbers_at.Goals as goal

pub returns-in_err-numbers-clause-cost : goal.returns-in_err-numbers-clause-cost
returns-in_err-numbers-clause-cost g c = λ i at.
    let r = c.args.asked.now in
    let is = c.in_ok-assignment.ensures i ∙ ap (λ (q : BidRequest). pairs_of q (get_or q.imps c.args.imp i)) c.request.ensures ∙ ap (pairs_of r) (get_or_from_slice_get r.imps c.args.imp i i at) in
    omega (arith, c.in_err-numbers.ensures.cost, ap (find_cost c.args.version.now.index) is)

pub returns-clause-cost : goal.returns-clause-cost
returns-clause-cost g c = λ i at.
    let r = c.args.asked.now in
    let is = c.in_ok-assignment.ensures i ∙ ap (λ (q : BidRequest). pairs_of q (get_or q.imps c.args.imp i)) c.request.ensures ∙ ap (pairs_of r) (get_or_from_slice_get r.imps c.args.imp i i at) in
    omega (arith, c.in_ok-numbers.ensures.cost, ap (find_cost c.args.version.now.index) is)

pub returns-clause-found : goal.returns-clause-found
returns-clause-found g c = λ i at index.
    let r = c.args.asked.now in
    let live = c.args.version.now.live in
    let is = c.in_ok-assignment.ensures i ∙ ap (λ (q : BidRequest). pairs_of q (get_or q.imps c.args.imp i)) c.request.ensures ∙ ap (pairs_of r) (get_or_from_slice_get r.imps c.args.imp i i at) in
    c.in_ok-numbers.ensures.answer (campaigns_of live) index ∙ ap (λ a. true_under a (campaigns_of live)) is
