-- Who wins an impression, and at what price.
use Rattle.std.specs.Prelude.{ℕ, ◌+◌, ◌==◌, ◌&&◌, ◌||◌, nat_lt, nat_le, not, min, max, List, Bool, false, Option, filter, map, find, fold, slice_get, option_map, option_and_then, Contains, All, IsTrue}
use Rattle.std.specs.Option.{option_map_or}
use Rattle.std.specs.List.{list_all}
use Rattle.clearing.specs.declared.Offer.{Offer}
use Rattle.clearing.specs.declared.PriceKind.{PriceKind}
use Rattle.clearing.specs.declared.PriceKind.TheVariants.{First, Second, Agreed}
use Rattle.clearing.specs.declared.Terms.{Terms}
use Rattle.clearing.specs.declared.Win.{Win}

-- pool 0 is the public one, and each other is a deal's
abbrev pub is_deal : Offer → Bool
is_deal o = nat_lt 0 o.pool

-- the first of two tests decides where they differ
abbrev pub first_by : Bool → Bool → Bool → Bool
first_by better worse next = better || (not worse && next)

-- a goes before b: deals before the public pool, then the greater bid, then the smaller campaign
-- number, then the lower pool
abbrev pub beats : Offer → Offer → Bool
beats a b = first_by (is_deal a && not (is_deal b)) (is_deal b && not (is_deal a))
    (first_by (nat_lt b.bid a.bid) (nat_lt a.bid b.bid)
    (first_by (nat_lt a.campaign b.campaign) (nat_lt b.campaign a.campaign)
    (nat_lt a.pool b.pool)))

-- the offer that no other beats
abbrev pub winner : List Offer → Option Offer
winner offers = find (λ o. list_all (λ other. not (beats other o)) offers) offers

-- the offers of other campaigns in the pool of this one
abbrev pub rivals : Offer → List Offer → List Offer
rivals o offers = filter (λ other. (other.pool == o.pool) && not (other.campaign == o.campaign)) offers

-- the greatest bid, or 0 where there is none
abbrev pub greatest_bid : List Offer → ℕ
greatest_bid offers = fold max 0 (map (λ (o : Offer). o.bid) offers)

-- by how much the second price is above the next bid: 0.01 US dollars per thousand impressions
abbrev pub increment : ℕ
increment = 10000

-- what the winner pays (OpenRTB 2.5, sections 3.2.1 and 3.2.12, `at`)
abbrev pub price_of : PriceKind → ℕ → Offer → List Offer → ℕ
price_of First floor o offers = o.bid
price_of Second floor o offers = min o.bid (max floor (greatest_bid (rivals o offers) + increment))
price_of Agreed floor o offers = floor

abbrev pub win_by : List Offer → Offer → Terms → Win
win_by offers o t = record { campaign = o.campaign; pool = o.pool; price = price_of t.kind t.floor o offers }

-- the winner, and its price by the terms of its pool
abbrev pub outcome : List Offer → List Terms → Option Win
outcome offers terms = option_and_then (λ (o : Offer). option_map (λ t. win_by offers o t) (slice_get terms o.pool)) (winner offers)

-- the offer's pool has terms, and its bid is at least their floor
abbrev pub is_fit : List Terms → Offer → Bool
is_fit terms o = option_map_or (λ (t : Terms). nat_le t.floor o.bid) (slice_get terms o.pool) false

-- some offer, which no offer beats
abbrev pub IsUnbeaten : List Offer → Offer → Type 0
IsUnbeaten offers o = Contains offers o × All (λ other. IsTrue (not (beats other o))) offers
