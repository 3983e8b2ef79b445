use Rattle.std.proofs.Common.{List, ap, not, subst, ◌++◌, ◌≡◌}
use Rattle.std.specs.Prelude.{OnOk}
use Rattle.clearing.specs.declared.Offer.{Offer}
use Rattle.deal_rules.proofs.Standing.{all_pushed, none_asked, none_at_sight, none_taken}
use Rattle.deal_rules.specs.Seen.{opportunity_seen}
use Rattle.deal_rules.proofs.offering.push_for.Goals as goal

pub returns-then-not-dealing : goal.returns-then-not-dealing
returns-then-not-dealing c =
    none_asked c.args.number (opportunity_seen c.args.opportunity.now) c.args.offers.now.items (not c.is_excluded_in_public-public.result)
    (ap not c.is_excluded_in_public-public.ensures) (ap not c.if-not-public.true) (c.is_dealing-dealing.ensures c.args.number c.if-not-dealing.true)

pub returns-then-is_excluded_at_sight : goal.returns-then-is_excluded_at_sight
returns-then-is_excluded_at_sight c =
    none_at_sight c.args.number (opportunity_seen c.args.opportunity.now) c.args.offers.now.items c.is_excluded_at_sight.result c.is_excluded_at_sight.ensures c.if-is_excluded_at_sight.true

pub returns-then-not-takes : goal.returns-then-not-takes
returns-then-not-takes c =
    none_taken c.args.number (opportunity_seen c.args.opportunity.now) c.args.offers.now.items c.takes.result c.takes.ensures c.if-not-takes.true

pub returns : goal.returns
returns c =
    let before = c.args.offers.now.items in
    subst (λ (l : List Offer). OnOk c.push_all.result (c.push_all.new.offers.items ≡ before ++ l))
    (all_pushed c.args.number (opportunity_seen c.args.opportunity.now) c.is_excluded_at_sight.result c.takes.result (not c.is_excluded_in_public-public.result)
    c.is_excluded_at_sight.ensures c.takes.ensures (ap not c.is_excluded_in_public-public.ensures) c.if-is_excluded_at_sight.false c.if-not-takes.false)
    c.push_all.ensures

pub push_all-requires : goal.push_all-requires
push_all-requires c = record { dealing = λ e. c.is_dealing-dealing.ensures c.args.number e }
