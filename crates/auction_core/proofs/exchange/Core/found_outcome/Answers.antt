use Rattle.std.proofs.Common.{◌∙◌, ◌≡◌, ◌≤◌, length, subst, sym}
use Rattle.std.specs.Prelude.{IfOk}
use Rattle.auction_core.specs.Auctions.{award_outcome}
use Rattle.auction_core.proofs.Payable.{few_imps}
use Rattle.auction_core.proofs.Preparing.{awarded_result}
use Rattle.rtb_types.specs.declared.request.BidRequest.{BidRequest}
use Rattle.auction_core.proofs.exchange.Core.found_outcome.Goals as goal

pub awards_found-requires-clause-few : goal.awards_found-requires-clause-few
awards_found-requires-clause-few g c = few_imps c.args.findings.now.asked.now c.requires.valid

pub award_outcome-requires : goal.award_outcome-requires
award_outcome-requires g c = record { few = subst (λ l. length l ≤ 64) (sym c.as_slice.ensures.value) c.in_ok-awards.ensures.few }

pub returns-clause-value : goal.returns-clause-value
returns-clause-value g c =
    let settings = c.args.self.now.settings in
    let m = c.args.moment in
    let s = c.args.self.now.state in
    let awards = c.as_slice.result.now in
    awarded_result settings m c.args.findings.now.asked.now s awards c.award_outcome.result
    (c.as_slice.ensures.value ∙ c.in_ok-awards.ensures.value)
    (subst (λ (q : BidRequest). IfOk c.award_outcome.result (λ o. o ≡ award_outcome settings m q s awards)) c.request.ensures c.award_outcome.ensures)
