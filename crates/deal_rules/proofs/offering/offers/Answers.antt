use Rattle.std.proofs.Common.{ap, ◌++◌, ◌∙◌}
use Rattle.std.specs.List.{list_all}
use Rattle.clearing.specs.Clearing.{is_fit}
use Rattle.deal_rules.specs.Offers.{candidates_of}
use Rattle.deal_rules.specs.Terms.{terms_of}
use Rattle.deal_rules.proofs.Fitting.{offers_fit}
use Rattle.deal_rules.proofs.Standing.{paid, unpaid}
use Rattle.deal_rules.proofs.offering.offers.Goals as goal

pub returns-then-not-may_pay-clause-value : goal.returns-then-not-may_pay-clause-value
returns-then-not-may_pay-clause-value c = λ i at.
    unpaid c.args.number c.args.asked.now i c.args.facts.now c.args.free c.args.shown c.from_vec.result c.may_pay.result c.may_pay.ensures c.if-not-may_pay.true (c.from_vec.ensures ∙ c.new-offers.ensures.items)

pub returns-then-not-may_pay-clause-fit : goal.returns-then-not-may_pay-clause-fit
returns-then-not-may_pay-clause-fit c = λ i at.
    ap (list_all (is_fit (terms_of c.args.asked.now i))) (returns-then-not-may_pay-clause-value c i at) ∙ offers_fit c.args.number c.args.asked.now i c.args.facts.now c.args.free c.args.shown

pub returns-clause-value : goal.returns-clause-value
returns-clause-value c = λ i at.
    paid c.args.number c.args.asked.now i c.args.facts.now c.args.free c.args.shown c.from_vec-2.result c.may_pay.result c.may_pay.ensures c.if-not-may_pay.false
    (c.from_vec-2.ensures ∙ c.in_ok-push_candidates.ensures i at ∙ ap (λ l. l ++ candidates_of c.args.number c.args.asked.now i c.args.facts.now) c.new-offers.ensures.items)

pub returns-clause-fit : goal.returns-clause-fit
returns-clause-fit c = λ i at.
    ap (list_all (is_fit (terms_of c.args.asked.now i))) (returns-clause-value c i at) ∙ offers_fit c.args.number c.args.asked.now i c.args.facts.now c.args.free c.args.shown
