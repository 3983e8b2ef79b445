use Rattle.std.proofs.Common.{◌∙◌, ap, sym}
use Rattle.std.specs.Prelude.{is_some, nat_le}
use Rattle.plain_exchange.specs.Effects.{charge_of}
use Rattle.plain_exchange.specs.State.{Campaign, campaign_at, free}
use Rattle.auction_core.proofs.Fitting.{mapped_same, tested_there}
use Rattle.auction_core.proofs.exchange.Core.can_cover.Goals as goal

pub returns-in-Some : goal.returns-in-Some
returns-in-Some c =
    let s = c.args.self.now.state in
    let row = c.args.row.now in
    let found = mapped_same c.from.result (campaign_at s c.from.result) c.in-Some.n (sym c.number.ensures ∙ c.in-Some.is) in
    let same = found.0 ∙ c.from.ensures in
    tested_there (λ (x : Campaign). nat_le (charge_of row) (free s row.campaign x)) (campaign_at s row.campaign) c.can_cover_there.result (ap (λ i. is_some (campaign_at s i)) (sym c.from.ensures) ∙ found.1)
    (λ x at. c.can_cover_there.ensures x (ap (campaign_at s) same ∙ at) ∙ ap (λ i. nat_le (charge_of row) (free s i x)) same)
