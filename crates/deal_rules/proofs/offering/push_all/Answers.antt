use Rattle.std.proofs.Common.{List, ap, subst, ◌++◌, ◌≡◌, ◌∙◌}
use Rattle.std.specs.Prelude.{OnOk}
use Rattle.std.proofs.lemmas.List.{append_assoc}
use Rattle.clearing.specs.declared.Offer.{Offer}
use Rattle.deal_rules.specs.Offers.{deal_offers, in_public}
use Rattle.deal_rules.proofs.Standing.{public_alone_pushed}
use Rattle.rtb_types.specs.declared.request.Deal.{Deal}
use Rattle.deal_rules.proofs.offering.push_all.Goals as goal

pub returns-then-not-dealing : goal.returns-then-not-dealing
returns-then-not-dealing c =
    let o = c.args.opportunity.now in
    c.in_ok-push_public.ensures ∙ public_alone_pushed c.args.number o.facts.now o.imp.now c.args.offers.now.items c.args.public (c.requires.dealing c.if-not-dealing.true)

pub returns : goal.returns
returns c =
    let o = c.args.opportunity.now in
    let n = c.args.number in
    let f = o.facts.now in
    let before = c.args.offers.now.items in
    let front = in_public n f c.args.public in
    subst (λ (l : List Offer). OnOk c.push_deals.result (c.push_deals.new.offers.items ≡ l))
    (ap (λ (l : List Offer). l ++ deal_offers n f c.deals.result.now) c.in_ok-push_public.ensures
    ∙ ap (λ (ds : List Deal). (before ++ front) ++ deal_offers n f ds) c.deals.ensures
    ∙ append_assoc before front (deal_offers n f o.imp.now.pmp.deals))
    c.push_deals.ensures
