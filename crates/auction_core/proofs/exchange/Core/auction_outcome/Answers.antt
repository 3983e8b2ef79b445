use Rattle.std.proofs.Common.{◌∙◌, ◌≤◌, length, subst, sym}
use Rattle.auction_core.proofs.Payable.{few_imps}
use Rattle.auction_core.proofs.Preparing.{awarded_result}
use Rattle.auction_core.proofs.exchange.Core.auction_outcome.Goals as goal

pub awards-requires-clause-few : goal.awards-requires-clause-few
awards-requires-clause-few c = few_imps c.args.request.now c.requires.valid

pub award_outcome-requires : goal.award_outcome-requires
award_outcome-requires c = record { few = subst (λ l. length l ≤ 64) (sym c.as_slice.ensures.value) c.in_ok-awards.ensures.few }

pub returns : goal.returns
returns c =
    awarded_result c.args.self.now.settings c.args.moment c.args.request.now c.args.self.now.state c.as_slice.result.now c.award_outcome.result
    (c.as_slice.ensures.value ∙ c.in_ok-awards.ensures.value) c.award_outcome.ensures
