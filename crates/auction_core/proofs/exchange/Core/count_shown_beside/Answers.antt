use Rattle.std.proofs.Common.{◌≡◌, ℕ, ◌∙◌, ap, sym, Some}
use Rattle.std.specs.Prelude.{option_map}
use Rattle.auction_core.specs.Auctions.{beside}
use Rattle.deal_rules.specs.Terms.{user_of}
use Rattle.plain_exchange.specs.Auction.{shown_to}
use Rattle.auction_core.proofs.Auctioning.{shown_counted}
use Rattle.auction_core.proofs.exchange.Core.count_shown_beside.Goals as goal

pub returns : goal.returns
returns c = λ d e.
    let s = c.args.self.now.state in
    let r = c.args.request.now in
    let awards = c.args.awards.now in
    let user = c.as_bytes.result.now in
    let to : user_of r ≡ Some user = sym (ap (λ u. Some u) c.as_bytes.ensures.value ∙ c.in_ok-user.ensures) in
    ap (λ (k : ℕ). Some k) (c.times_shown.ensures.value ∙ shown_counted c.args.self.now.settings c.args.moment r c.args.n user s awards d c.args.cap to c.times_shown.ensures.some e)
    ∙ ap (option_map (shown_to (beside c.args.self.now.settings c.args.moment r s awards) c.args.moment c.args.n d)) (sym to)
