use Rattle.std.proofs.Common.{◌∙◌, ap, sym}
use Rattle.std.specs.Prelude.{is_some}
use Rattle.auction_core.specs.Putting.{can_change}
use Rattle.campaign_store.specs.declared.record.Record.{Record}
use Rattle.plain_exchange.specs.State.{campaign_at, swept}
use Rattle.auction_core.proofs.Fitting.{mapped_same, tested_there}
use Rattle.auction_core.proofs.exchange.Core.can_change.Goals as goal

pub returns-in-Some : goal.returns-in-Some
returns-in-Some c =
    let s = c.args.self.now.state in
    let t = swept c.args.moment s in
    let e : Record = record { facts = c.args.facts.now; expr = c.args.expr.now } in
    let found = mapped_same c.from.result (campaign_at s c.from.result) c.in-Some.n (sym c.number.ensures ∙ c.in-Some.is) in
    let same = found.0 ∙ c.from.ensures in
    tested_there (can_change t c.args.n e) (campaign_at s c.args.n) c.can_change_there.result (ap (λ i. is_some (campaign_at s i)) (sym c.from.ensures) ∙ found.1)
    (λ x at. c.can_change_there.ensures x (ap (campaign_at s) same ∙ at) ∙ ap (λ i. can_change t i e x) same)
