use Rattle.std.proofs.Common.{◌∙◌, subst, sym}
use Rattle.auction_core.specs.Outcomes.{IsOutcome}
use Rattle.plain_exchange.specs.State.{campaign_at, swept}
use Rattle.plain_exchange.specs.Step.{at_campaign, pause_campaign}
use Rattle.auction_core.proofs.Fitting.{mapped_same}
use Rattle.auction_core.proofs.exchange.Core.pause_outcome.Goals as goal

pub returns-in-Some : goal.returns-in-Some
returns-in-Some c =
    let s = c.args.self.now.state in
    let same = (mapped_same c.args.n (campaign_at s c.args.n) c.in-Some.n (sym c.number.ensures ∙ c.in-Some.is)).0 in
    λ m. subst (λ k. IsOutcome (at_campaign (swept m s) k (pause_campaign k (swept m s))) c.pause_there.result) same (c.pause_there.ensures m)
