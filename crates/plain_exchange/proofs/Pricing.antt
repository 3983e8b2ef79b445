-- Worked cases, by evaluation: who wins, and at what price.
use Rattle.std.proofs.Common.{◌≡◌, ℕ, List, [], ◌∷◌, refl, Bool, true, false, Option, Some, None}
use Rattle.std.specs.Prelude.{codes}
use Rattle.assign.specs.Rows.{blank_device, blank_geo, pairs_of, site_rows, app_rows, publisher_of, geo_rows, device_rows, user_rows, imp_rows}
use Rattle.deal_rules.specs.Offers.{offers_of}
use Rattle.deal_rules.specs.Rules.{common_rules, public_rules}
use Rattle.deal_rules.specs.Terms.{terms_of, user_of}
use Rattle.plain_exchange.specs.declared.commands.Act.TheVariants as act
use Rattle.plain_exchange.specs.declared.commands.Command.{Command}
use Rattle.plain_exchange.specs.declared.commands.Command.TheVariants as command
use Rattle.plain_exchange.specs.State.{empty}
use Rattle.plain_exchange.proofs.Samples.{asked, bidding, by_reader, cars, facts_of, imp_of, on_news, one_sale, read, replies, shoes, wants, wants_all}
use Rattle.rtb_types.specs.declared.request.Deal.{Deal}
use Rattle.rtb_types.specs.declared.request.Device.{Device}
use Rattle.target_expr.specs.declared.attr.Attr.TheVariants as attr
use Rattle.target_expr.specs.declared.pred.Pred.{Pred}

-- ---- prices

-- the greater bid wins, at the other bid and 0.01 more
second_price : replies empty one_sale ≡ (codes "added", 1 ∷ []) ∷ (codes "added", 2 ∷ []) ∷ (codes "sold", 1 ∷ 1010000 ∷ 1 ∷ []) ∷ []
unfolding offers_of common_rules public_rules terms_of user_of pairs_of site_rows app_rows publisher_of geo_rows device_rows user_rows imp_rows
second_price = refl

without_campaigns : replies empty ((1000, read) ∷ []) ≡ (codes "no bid", []) ∷ []
unfolding offers_of common_rules public_rules terms_of user_of pairs_of site_rows app_rows publisher_of geo_rows device_rows user_rows imp_rows
without_campaigns = refl

-- of equal bids the first campaign's wins, and it pays no more than it bid
equal_bids : replies empty ((0, bidding 2500000) ∷ (0, bidding 2500000) ∷ (0, asked (0 ∷ [])) ∷ []) ≡ (codes "added", 1 ∷ []) ∷ (codes "added", 2 ∷ []) ∷ (codes "sold", 1 ∷ 2500000 ∷ 1 ∷ []) ∷ []
unfolding offers_of common_rules public_rules terms_of user_of pairs_of site_rows app_rows publisher_of geo_rows device_rows user_rows imp_rows
equal_bids = refl

-- without another bid the price is 0.01
one_bid : replies empty ((0, bidding 2500000) ∷ (0, asked (0 ∷ [])) ∷ []) ≡ (codes "added", 1 ∷ []) ∷ (codes "sold", 1 ∷ 10000 ∷ 1 ∷ []) ∷ []
unfolding offers_of common_rules public_rules terms_of user_of pairs_of site_rows app_rows publisher_of geo_rows device_rows user_rows imp_rows
one_bid = refl

-- a bid of 0.3 does not meet a floor of 0.300001
bid_below_the_floor : replies empty ((0, bidding 300000) ∷ (0, asked (300001 ∷ [])) ∷ []) ≡ (codes "added", 1 ∷ []) ∷ (codes "no bid", []) ∷ []
unfolding offers_of common_rules public_rules terms_of user_of pairs_of site_rows app_rows publisher_of geo_rows device_rows user_rows imp_rows
bid_below_the_floor = refl

-- the smallest bid meets the smallest floor
bid_of_one_micro : replies empty ((0, bidding 1) ∷ (0, asked (1 ∷ [])) ∷ []) ≡ (codes "added", 1 ∷ []) ∷ (codes "sold", 1 ∷ 1 ∷ 1 ∷ []) ∷ []
unfolding offers_of common_rules public_rules terms_of user_of pairs_of site_rows app_rows publisher_of geo_rows device_rows user_rows imp_rows
bid_of_one_micro = refl

-- two conjunctions that are true make one offer, and no rival
two_conjunctions : replies empty ((0, command.Act (act.Add (facts_of 2500000 10000000000 (codes "s1") (codes "ad1.example")) ([] ∷ wants (codes "news.example")))) ∷ (0, asked (0 ∷ [])) ∷ []) ≡ (codes "added", 1 ∷ []) ∷ (codes "sold", 1 ∷ 10000 ∷ 1 ∷ []) ∷ []
unfolding offers_of common_rules public_rules terms_of user_of pairs_of site_rows app_rows publisher_of geo_rows device_rows user_rows imp_rows
two_conjunctions = refl

-- the second impression is sold on what the first one left: 0.00199 is free, and one impression at 2.50
-- would cost 0.0025
short_budget : replies empty ((0, command.Act (act.Add (facts_of 2500000 3000000 (codes "s1") (codes "ad1.example")) wants_all)) ∷ (0, bidding 1000000) ∷ (0, asked (300000 ∷ 300000 ∷ [])) ∷ [])
    ≡ (codes "added", 1 ∷ []) ∷ (codes "added", 2 ∷ []) ∷ (codes "sold", 1 ∷ 1010000 ∷ 1 ∷ 2 ∷ 300000 ∷ 2 ∷ []) ∷ []
unfolding offers_of common_rules public_rules terms_of user_of pairs_of site_rows app_rows publisher_of geo_rows device_rows user_rows imp_rows
short_budget = refl

-- ---- targets

abbrev target_of : List Pred → Command
target_of preds = command.Act (act.Add (facts_of 2500000 10000000000 (codes "s1") (codes "ad1.example")) (preds ∷ []))

abbrev on_device : Option Device → Command
on_device device = command.Auction (record (on_news (imp_of 0 ∷ [])) { device = device })

-- "not in" is true of an attribute that is absent
attribute_without_value : replies empty ((0, target_of (record { attr = attr.Os; negated = true; values = codes "iOS" ∷ [] } ∷ [])) ∷ (0, on_device None) ∷ []) ≡ (codes "added", 1 ∷ []) ∷ (codes "sold", 1 ∷ 10000 ∷ 1 ∷ []) ∷ []
unfolding offers_of common_rules public_rules terms_of user_of pairs_of site_rows app_rows publisher_of geo_rows device_rows user_rows imp_rows
attribute_without_value = refl

abbrev phone : Option Device
phone = Some (record blank_device {
  geo = Some (record blank_geo { country = Some (codes "USA") });
  os = Some (codes "iOS");
})

abbrev apart_from_news : List Pred
apart_from_news = record { attr = attr.Country; negated = false; values = codes "USA" ∷ [] } ∷ record { attr = attr.Os; negated = false; values = codes "iOS" ∷ [] } ∷ record { attr = attr.Domain; negated = true; values = codes "news.example" ∷ [] } ∷ []

-- two "in" are true, and a "not in" is false
one_predicate_false : replies empty ((0, target_of apart_from_news) ∷ (0, on_device phone) ∷ []) ≡ (codes "added", 1 ∷ []) ∷ (codes "no bid", []) ∷ []
unfolding offers_of common_rules public_rules terms_of user_of pairs_of site_rows app_rows publisher_of geo_rows device_rows user_rows imp_rows
one_predicate_false = refl

-- ---- deals

-- the deal d1 of that kind of price and that floor
abbrev deal_of : ℕ → ℕ → Deal
deal_of at floor = record { id = codes "d1"; floor = floor; currency = codes "USD"; at = at; wseat = []; wadomain = [] }

-- a campaign that may buy in it
abbrev dealing : ℕ → Command
dealing bid = command.Act (act.Add (record (facts_of bid 10000000000 (codes "s1") (codes "ad1.example")) { deals = codes "d1" ∷ [] }) wants_all)

abbrev with_deal : Bool → Deal → Command
with_deal private_auction deal = command.Auction (on_news (record (imp_of 0) { pmp = record { private_auction = private_auction; deals = deal ∷ [] } } ∷ []))

-- a campaign without the deal
private_auction : replies empty ((0, bidding 2500000) ∷ (0, with_deal true (deal_of 2 0)) ∷ []) ≡ (codes "added", 1 ∷ []) ∷ (codes "no bid", []) ∷ []
unfolding offers_of common_rules public_rules terms_of user_of pairs_of site_rows app_rows publisher_of geo_rows device_rows user_rows imp_rows
private_auction = refl

-- the floor is the price
agreed_price : replies empty ((0, dealing 5000000) ∷ (0, with_deal false (deal_of 3 4000000)) ∷ []) ≡ (codes "added", 1 ∷ []) ∷ (codes "sold", 1 ∷ 4000000 ∷ 1 ∷ []) ∷ []
unfolding offers_of common_rules public_rules terms_of user_of pairs_of site_rows app_rows publisher_of geo_rows device_rows user_rows imp_rows
agreed_price = refl

-- at first price, against a greater bid in the public pool
deal_before_public : replies empty ((0, bidding 9000000) ∷ (0, dealing 2000000) ∷ (0, with_deal false (deal_of 1 1000000)) ∷ []) ≡ (codes "added", 1 ∷ []) ∷ (codes "added", 2 ∷ []) ∷ (codes "sold", 2 ∷ 2000000 ∷ 1 ∷ []) ∷ []
unfolding offers_of common_rules public_rules terms_of user_of pairs_of site_rows app_rows publisher_of geo_rows device_rows user_rows imp_rows
deal_before_public = refl

-- ---- lists of a request

blocked_advertiser : replies empty ((0, shoes) ∷ (0, cars) ∷ (0, command.Auction (record by_reader { badv = codes "shoes.example" ∷ [] })) ∷ []) ≡ (codes "added", 1 ∷ []) ∷ (codes "added", 2 ∷ []) ∷ (codes "sold", 2 ∷ 300000 ∷ 1 ∷ []) ∷ []
unfolding offers_of common_rules public_rules terms_of user_of pairs_of site_rows app_rows publisher_of geo_rows device_rows user_rows imp_rows
blocked_advertiser = refl

allowed_seat : replies empty ((0, shoes) ∷ (0, cars) ∷ (0, command.Auction (record by_reader { wseat = codes "s1" ∷ [] })) ∷ []) ≡ (codes "added", 1 ∷ []) ∷ (codes "added", 2 ∷ []) ∷ (codes "sold", 1 ∷ 300000 ∷ 1 ∷ []) ∷ []
unfolding offers_of common_rules public_rules terms_of user_of pairs_of site_rows app_rows publisher_of geo_rows device_rows user_rows imp_rows
allowed_seat = refl

-- nothing is offered for a test, and nothing where none of the currencies is USD
test_request : replies empty ((0, shoes) ∷ (0, command.Auction (record by_reader { test = true })) ∷ (0, command.Auction (record by_reader { cur = codes "EUR" ∷ [] })) ∷ []) ≡ (codes "added", 1 ∷ []) ∷ (codes "no bid", []) ∷ (codes "no bid", []) ∷ []
unfolding offers_of common_rules public_rules terms_of user_of pairs_of site_rows app_rows publisher_of geo_rows device_rows user_rows imp_rows
test_request = refl
