use Rattle.std.proofs.Common.{ap, sym, ◌∙◌}
use Rattle.auction_core.specs.Auctions.{beside}
use Rattle.auction_core.proofs.Affording.{paid_as, short_of}
use Rattle.auction_core.proofs.Auctioning.{free_drawn}
use Rattle.campaign.specs.declared.parts.FactParts.{FactParts}
use Rattle.campaign_store.specs.declared.record.Record.{Record}
use Rattle.auction_core.proofs.exchange.Core.may_pay_bid.Goals as goal

pub returns-then-lt : goal.returns-then-lt
returns-then-lt c = λ d there.
    let core = c.args.self.now in
    let r = c.args.request.now in
    let m = c.args.moment in
    let left = c.free_beside-free.ensures d there ∙ sym (free_drawn core.settings m r c.args.n core.state d c.args.awards.now) in
    short_of (beside core.settings m r core.state c.args.awards.now) r m c.args.n d c.free_beside-free.result c.from.result left (c.from.ensures ∙ c.requires.bid d there) (sym c.lt.ensures ∙ c.if-lt.true)

pub returns : goal.returns
returns c = λ d there.
    let s = c.args.self.now.state in
    let r = c.args.request.now in
    let m = c.args.moment in
    let n = c.args.n in
    let facts = ap (λ (e : Record). e.facts) (c.record.ensures ∙ c.entry.ensures d there) in
    let left = c.free_beside-free.ensures d there ∙ sym (free_drawn c.args.self.now.settings m r n s d c.args.awards.now) in
    let cap = sym (c.cap.ensures ∙ ap (λ (f : FactParts). f.cap) facts) in
    let shown = c.count_shown_beside-shown.ensures d cap in
    c.may_pay.ensures ∙ paid_as (beside c.args.self.now.settings m r s c.args.awards.now) r m n d c.record.result.now.facts c.free_beside-free.result c.count_shown_beside-shown.result facts left shown
