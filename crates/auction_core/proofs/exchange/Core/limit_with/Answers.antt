use Rattle.std.proofs.Common.{◌∙◌, ◌∷◌, [], ap}
use Rattle.auction_core.specs.Core.{CoreState}
use Rattle.plain_exchange.specs.State.{limit_passed, with_campaigns}
use Rattle.plain_exchange.specs.Step.{new_campaign}
use Rattle.auction_core.proofs.Stating.{here, passed_more}
use Rattle.auction_core.proofs.exchange.Core.limit_with.Goals as goal

pub returns : goal.returns
returns c =
    let i = c.self.inside in
    let f = c.args.facts.now in
    let e = c.args.expr.now in
    c.limit_of.ensures ∙ c.room.ensures
    ∙ passed_more (here i.table.campaigns i.book.campaigns i.book.sales) (record { facts = f; expr = e }) i.table.campaigns c.self.invariant.listing
    ∙ ap (λ (v : CoreState). limit_passed (with_campaigns v.state (new_campaign f e ∷ []))) c.self.view_is
