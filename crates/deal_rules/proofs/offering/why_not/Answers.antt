use Rattle.std.proofs.Common.{◌≡◌, ◌<◌, ap, length, subst, sym, ◌∙◌}
use Rattle.std.specs.Prelude.{◌↔◌, IsNone}
use Rattle.deal_rules.specs.Offers.{offers_of, why_not_of}
use Rattle.deal_rules.specs.Rules.{opportunity_of}
use Rattle.deal_rules.proofs.Reasons.{offered}
use Rattle.deal_rules.proofs.offering.why_not.Goals as goal

pub returns-clause-offered : goal.returns-clause-offered
returns-clause-offered c = λ i number at.
    let r = c.args.asked.now in
    let o = opportunity_of r i c.args.facts.now c.args.free c.args.shown in
    let told : c.why_not_for.result ≡ why_not_of o = c.why_not_for.ensures ∙ ap (λ k. why_not_of (opportunity_of r k c.args.facts.now c.args.free c.args.shown)) (c.imp_at.ensures i at) in
    subst (λ reason. IsNone reason ↔ (0 < length (offers_of number o))) (sym told) (offered number o)
