use Rattle.std.proofs.Common.{◌∙◌, ap}
use Rattle.auction_core.specs.Core.{CoreState}
use Rattle.plain_exchange.specs.State.{limit_passed, with_campaign}
use Rattle.plain_exchange.specs.Step.{with_record}
use Rattle.auction_core.proofs.Stating.{here, passed_changed}
use Rattle.auction_core.proofs.exchange.Core.limit_changed.Goals as goal

pub returns : goal.returns
returns c = λ d at.
    let i = c.self.inside in
    let f = c.args.facts.now in
    let e = c.args.expr.now in
    c.limit_of.ensures ∙ c.room.ensures
    ∙ passed_changed (here i.table.campaigns i.book.campaigns i.book.sales) c.args.n d (record { facts = f; expr = e }) i.table.campaigns c.self.invariant.listing
    ∙ ap (λ (v : CoreState). limit_passed (with_campaign v.state c.args.n (with_record f e d))) c.self.view_is
