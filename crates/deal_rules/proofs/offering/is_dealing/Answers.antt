use Rattle.std.proofs.Common.{ap, sym, ◌∙◌}
use Rattle.std.specs.Prelude.{nat_lt}
use Rattle.deal_rules.proofs.Standing.{below_deals, without_deals}
use Rattle.deal_rules.specs.Named.{least_floor}
use Rattle.deal_rules.proofs.offering.is_dealing.Goals as goal

pub returns-then-is_below_deals : goal.returns-then-is_below_deals
returns-then-is_below_deals c = λ number e.
    let deals = c.args.opportunity.now.imp.now.pmp.deals in
    below_deals number c.args.opportunity.now.facts.now deals (ap (λ b. nat_lt b (least_floor deals)) (sym c.bid.ensures.value) ∙ sym c.is_below_deals.ensures ∙ c.if-is_below_deals.true)

pub returns-then-not-may_have_deal_of : goal.returns-then-not-may_have_deal_of
returns-then-not-may_have_deal_of c = λ number e. without_deals number c.args.opportunity.now.facts.now c.args.opportunity.now.imp.now (c.may_have_deal_of.ensures c.if-not-may_have_deal_of.true)

pub returns : goal.returns
returns c = λ number e. without_deals number c.args.opportunity.now.facts.now c.args.opportunity.now.imp.now (sym c.has_deals.ensures ∙ e)
