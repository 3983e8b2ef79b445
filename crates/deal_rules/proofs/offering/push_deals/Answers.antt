use Rattle.std.proofs.Common.{◌+◌, ◌++◌, ◌∙◌, ap, option_to_list}
use Rattle.deal_rules.specs.Offers.{deal_offer}
use Rattle.deal_rules.proofs.Dealt.{more_offers}
use Rattle.deal_rules.proofs.offering.push_deals.Goals as goal

pub loop-k-preserved : goal.loop-k-preserved
loop-k-preserved c =
    let deal = c.index-deals-k.result in
    let k = c.loop-k.k in
    c.in_ok-push_deal.ensures
    ∙ ap (λ l. l ++ option_to_list (deal_offer c.args.number c.args.facts.now (k + 1, deal))) c.loop-k.invariant
    ∙ more_offers c.args.number c.args.facts.now c.args.offers.now.items c.args.deals.now k deal c.loop-k-test.true c.index-deals-k.is
