use Rattle.std.proofs.Common.{◌∙◌, Bool, Option, ap, false, not, sym}
use Rattle.std.specs.Prelude.{◌&&◌}
use Rattle.std.specs.Option.{option_map_or}
use Rattle.auction_core.specs.Auctions.{beside}
use Rattle.auction_core.specs.Payers.{pays, pays_as}
use Rattle.auction_core.proofs.Touching.{asked_known}
use Rattle.plain_exchange.proofs.Each.{some_same}
use Rattle.plain_exchange.proofs.Keeping.{there_known}
use Rattle.plain_exchange.specs.State.{Campaign}
use Rattle.auction_core.proofs.payers.BesidePayers.may_pay.Goals as goal

pub may_pay_bid-requires-clause-few : goal.may_pay_bid-requires-clause-few
may_pay_bid-requires-clause-few c =
    let b = c.args.self.now in
    (asked_known b.core.now b.touched.now b.awards.now c.args.candidate.now c.requires.known (sym c.has.ensures ∙ c.if-has.false)).0

pub may_pay_bid-requires-clause-there : goal.may_pay_bid-requires-clause-there
may_pay_bid-requires-clause-there c =
    let b = c.args.self.now in
    let (few, d, at, bids) = asked_known b.core.now b.touched.now b.awards.now c.args.candidate.now c.requires.known (sym c.has.ensures ∙ c.if-has.false) in
    there_known b.core.now.state c.args.candidate.now.campaign d at

pub may_pay_bid-requires-clause-bid : goal.may_pay_bid-requires-clause-bid
may_pay_bid-requires-clause-bid c = λ e there.
    let b = c.args.self.now in
    let (few, d, at, bids) = asked_known b.core.now b.touched.now b.awards.now c.args.candidate.now c.requires.known (sym c.has.ensures ∙ c.if-has.false) in
    bids ∙ ap (λ (x : Campaign). x.facts.bid) (some_same d e (sym at ∙ there))

pub returns : goal.returns
returns c =
    let b = c.args.self.now in
    let o = c.args.candidate.now in
    let core = b.core.now in
    let t = beside core.settings b.moment b.request.now core.state b.awards.now in
    let fresh = sym c.has.ensures ∙ c.if-has.false in
    let (few, d, at, bids) = asked_known core b.touched.now b.awards.now o c.requires.known fresh in
    c.may_pay_bid.ensures d at
    ∙ sym (ap (λ (x : Option Campaign). option_map_or (pays_as t b.request.now b.moment o.campaign) x false) at)
    ∙ sym (ap (λ (x : Bool). not x && pays core b.request.now b.moment b.awards.now o) fresh)
