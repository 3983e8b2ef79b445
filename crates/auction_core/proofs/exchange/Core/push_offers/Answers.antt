use Rattle.std.proofs.Common.{◌≡◌, ◌∙◌, ◌==◌, ◌&&◌, ◌++◌, List, ap, length, subst, sym, true}
use Rattle.std.specs.Prelude.{OnOk, nat_lt}
use Rattle.auction_core.specs.Auctions.{beside}
use Rattle.auction_core.specs.Payers.{pays_as}
use Rattle.auction_core.proofs.Touching.{all_if_paid, none_if_below, none_if_unpaid, there_at}
use Rattle.campaign.specs.declared.parts.FactParts.{FactParts}
use Rattle.campaign_store.specs.declared.record.Record.{Record}
use Rattle.clearing.specs.declared.Offer.{Offer}
use Rattle.deal_rules.proofs.Places.{same_place}
use Rattle.rtb_types.specs.declared.request.BidRequest.{BidRequest}
use Rattle.rtb_types.specs.declared.request.Imp.{Imp}
use Rattle.auction_core.proofs.exchange.Core.push_offers.Goals as goal

pub returns-then-bids_below : goal.returns-then-bids_below
returns-then-bids_below c = λ i at.
    let s = c.args.self.now.state in
    let r = c.args.asked.now in
    let m = c.args.moment in
    let n = c.args.n in
    let t = beside c.args.self.now.settings m r s c.args.awards.now in
    let (d, there) = there_at s n c.requires.there.0 c.requires.there.1 in
    let imp = c.index-imps-imp.result in
    let facts = ap (λ (e : Record). e.facts) (c.record.ensures ∙ c.entry.ensures d there) in
    let same : imp ≡ i = same_place c.imps.result.now r.imps c.args.imp imp i c.index-imps-imp.is c.imps.ensures at in
    let said = sym c.bids_below.ensures ∙ c.if-bids_below.true in
    let below = subst (λ (f : FactParts). (nat_lt f.bid imp.floor && (length imp.pmp.deals == 0)) ≡ true) facts said in
    let below_there = subst (λ (k : Imp). (nat_lt d.facts.bid k.floor && (length k.pmp.deals == 0)) ≡ true) same below in
    none_if_below t r i m n d c.args.all.now.items there below_there

pub returns-then-not-may_pay_bid : goal.returns-then-not-may_pay_bid
returns-then-not-may_pay_bid c = λ i at.
    let s = c.args.self.now.state in
    let r = c.args.asked.now in
    let m = c.args.moment in
    let n = c.args.n in
    let t = beside c.args.self.now.settings m r s c.args.awards.now in
    let (d, there) = there_at s n c.requires.there.0 c.requires.there.1 in
    let pays_is = c.may_pay_bid.ensures d there ∙ ap (λ (q : BidRequest). pays_as (beside c.args.self.now.settings m q s c.args.awards.now) q m n d) c.request.ensures in
    none_if_unpaid t r i m n d c.args.all.now.items c.may_pay_bid.result there pays_is c.if-not-may_pay_bid.true

pub returns : goal.returns
returns c = λ i at.
    let s = c.args.self.now.state in
    let r = c.args.asked.now in
    let m = c.args.moment in
    let n = c.args.n in
    let t = beside c.args.self.now.settings m r s c.args.awards.now in
    let (d, there) = there_at s n c.requires.there.0 c.requires.there.1 in
    let facts = ap (λ (e : Record). e.facts) (c.record.ensures ∙ c.entry.ensures d there) in
    let pays_is = c.may_pay_bid.ensures d there ∙ ap (λ (q : BidRequest). pays_as (beside c.args.self.now.settings m q s c.args.awards.now) q m n d) c.request.ensures in
    let same = all_if_paid t r i m n d c.record.result.now.facts c.may_pay_bid.result there facts pays_is c.if-not-may_pay_bid.false in
    subst (λ (l : List Offer). OnOk c.push_candidates.result (c.push_candidates.new.offers.items ≡ c.args.all.now.items ++ l)) same (c.push_candidates.ensures i at)
