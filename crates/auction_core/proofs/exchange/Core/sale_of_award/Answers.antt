use Rattle.std.proofs.Common.{◌≡◌, ℕ, ◌∙◌, ap, refl, sym, Option, Some, None}
use Rattle.std.specs.Prelude.{option_map}
use Rattle.std.specs.Option.{option_copied}
use Rattle.auction_core.specs.Core.{CoreState, listed_as}
use Rattle.campaign_store.specs.declared.listed.Listed.{Listed}
use Rattle.campaign_store.specs.declared.record.Record.{Record}
use Rattle.campaign_store.specs.Table as tabled
use Rattle.plain_exchange.specs.Auction.{Award}
use Rattle.plain_exchange.specs.declared.commands.Sold.{Sold}
use Rattle.plain_exchange.specs.State.{Campaign, campaign_at, record_of}
use Rattle.plain_exchange.specs.Step.{deal_of, sold_as}
use Rattle.rtb_types.specs.declared.request.BidRequest.{BidRequest}
use Rattle.auction_core.proofs.Stating.{at_listed, here}
use Rattle.auction_core.proofs.exchange.Core.sale_of_award.Goals as goal

abbrev sold_with : BidRequest → ℕ → Award → Record → Sold
sold_with r sale a entry = record { imp = a.0; sale = sale; price = a.1.price; deal = deal_of r a.0 a.1.pool; campaign = a.1.campaign; «record» = entry }

abbrev entry_of : Listed → Record
entry_of l = l.entry

-- what the table has of a campaign is its record
by_record : {A : Type 0} (f : Record → A) (o : Option Campaign) → option_map f (option_map entry_of (option_map listed_as o)) ≡ option_map (λ (c : Campaign). f (record_of c)) o
by_record f None = refl
by_record f (Some c) = refl

pub returns-in-None : goal.returns-in-None
returns-in-None c =
    let i = c.self.inside in
    let s = here i.table.campaigns i.book.campaigns i.book.sales in
    let r = c.args.request.now in
    let a = c.args.award.now in
    let f = sold_with r c.args.sale a in
    let n = a.1.campaign in
    let found = c.get.ensures ∙ ap (λ t. option_map entry_of (tabled.campaign_at t n)) c.self.invariant.listing ∙ ap (option_map entry_of) (at_listed s n) in
    sym (ap (λ o. option_map f (option_copied o)) c.in-None.is)
    ∙ ap (option_map f) found
    ∙ by_record f (campaign_at s n)
    ∙ ap (λ (v : CoreState). sold_as v.state r (c.args.sale, a)) c.self.view_is

pub returns-in_ok-sold_of-in-Some : goal.returns-in_ok-sold_of-in-Some
returns-in_ok-sold_of-in-Some c =
    let i = c.self.inside in
    let s = here i.table.campaigns i.book.campaigns i.book.sales in
    let r = c.args.request.now in
    let a = c.args.award.now in
    let f = sold_with r c.args.sale a in
    let n = a.1.campaign in
    let found = c.get.ensures ∙ ap (λ t. option_map entry_of (tabled.campaign_at t n)) c.self.invariant.listing ∙ ap (option_map entry_of) (at_listed s n) in
    ap Some c.in_ok-sold_of-in-Some.ensures
    ∙ sym (ap (λ o. option_map f (option_copied o)) c.in-Some.is)
    ∙ ap (option_map f) found
    ∙ by_record f (campaign_at s n)
    ∙ ap (λ (v : CoreState). sold_as v.state r (c.args.sale, a)) c.self.view_is
