use Rattle.std.proofs.Common.{◌∙◌, ap}
use Rattle.std.specs.List.{flat_map, list_all}
use Rattle.auction_core.specs.Auctions.{beside, is_number_in, offers_at}
use Rattle.clearing.specs.Clearing.{is_fit, outcome}
use Rattle.deal_rules.specs.Terms.{terms_of}
use Rattle.plain_exchange.specs.Auction.{offers}
use Rattle.auction_core.proofs.Auctioning.{some_there}
use Rattle.auction_core.proofs.Touching.{all_offers, found_numbers, offers_at_fit}
use Rattle.auction_core.proofs.exchange.Core.win.Goals as goal

pub offers-requires-clause-there : goal.offers-requires-clause-there
offers-requires-clause-there c =
    let s = c.args.self.now.state in
    let r = c.args.asked.now in
    let (i, at) = some_there r.imps c.args.imp c.requires.imp in
    ap (list_all (is_number_in s)) (c.as_slice.ensures ∙ c.requires.found i at) ∙ found_numbers s r i

pub clear-requires : goal.clear-requires
clear-requires c =
    let r = c.args.asked.now in
    let m = c.args.moment in
    let t = beside c.args.self.now.settings m r c.args.self.now.state c.args.awards.now in
    let (i, at) = some_there r.imps c.args.imp c.requires.imp in
    ap (λ ts. list_all (is_fit ts) c.as_slice-2.result.now) (c.terms_at.ensures i at)
    ∙ ap (list_all (is_fit (terms_of r i))) (c.as_slice-2.ensures.value ∙ c.in_ok-offers.ensures i at)
    ∙ offers_at_fit t r i m c.as_slice.result.now

pub returns : goal.returns
returns c = λ i at.
    let core = c.args.self.now in
    let r = c.args.asked.now in
    let m = c.args.moment in
    let awards = c.args.awards.now in
    let t = beside core.settings m r core.state awards in
    c.clear.ensures.sale
    ∙ ap (λ os. outcome os c.terms_at.result.now) (c.as_slice-2.ensures.value ∙ c.in_ok-offers.ensures i at ∙ ap (flat_map (offers_at t r i m)) (c.as_slice.ensures ∙ c.requires.found i at) ∙ all_offers core r i m awards)
    ∙ ap (outcome (offers t r i m)) (c.terms_at.ensures i at)
