-- Campaigns, requests and replies for the worked cases. Bids and floors are in micro-dollars.
use Rattle.std.proofs.Common.{ℕ, List, [], ◌∷◌, true, false, Some, None}
use Rattle.std.proofs.Math.IntN.{pos}
use Rattle.std.specs.Prelude.{codes, map}
use Rattle.std.specs.List.{flat_map}
use Rattle.assign.specs.Rows.{blank_banner, blank_imp, blank_site, blank_user}
use Rattle.budget_book.specs.declared.sales.Totals.{Totals}
use Rattle.campaign.specs.Caps.{cap_of}
use Rattle.campaign.specs.declared.parts.FactParts.{FactParts}
use Rattle.plain_exchange.specs.declared.commands.Act.TheVariants as act
use Rattle.plain_exchange.specs.declared.commands.Command.{Command}
use Rattle.plain_exchange.specs.declared.commands.Command.TheVariants as command
use Rattle.plain_exchange.specs.declared.commands.Reply.{Reply}
use Rattle.plain_exchange.specs.declared.commands.Reply.TheVariants as reply
use Rattle.plain_exchange.specs.declared.commands.Sold.{Sold}
use Rattle.plain_exchange.specs.declared.settings.Settings.{Settings}
use Rattle.plain_exchange.specs.State.{State}
use Rattle.plain_exchange.specs.Step.{step}
use Rattle.rtb_types.specs.declared.request.BidRequest.{BidRequest}
use Rattle.rtb_types.specs.declared.request.Imp.{Imp}
use Rattle.rtb_types.specs.declared.request.User.{User}
use Rattle.target_expr.specs.declared.attr.Attr.TheVariants as attr
use Rattle.target_expr.specs.declared.pred.Pred.{Pred}

-- ---- replies in numbers

-- of a sold impression its campaign, price and sale
abbrev pub sold_in : Sold → List ℕ
sold_in s = s.campaign ∷ s.price ∷ s.sale ∷ []

abbrev pub totals_in : Totals → List ℕ
totals_in t = t.reserved ∷ t.spent ∷ t.held ∷ t.billed ∷ t.lost ∷ t.expired ∷ []

-- a word of the reply, and its numbers
abbrev pub Brief : Type 0
Brief = List ℕ × List ℕ

abbrev pub brief : Reply → Brief
brief reply.NoBid = (codes "no bid", [])
brief (reply.Sold all) = (codes "sold", flat_map sold_in all)
brief (reply.Added n) = (codes "added", n ∷ [])
brief (reply.Changed n) = (codes "changed", n ∷ [])
brief (reply.Paused n) = (codes "paused", n ∷ [])
brief (reply.Resumed n) = (codes "resumed", n ∷ [])
brief (reply.Reported n live bid budget totals) = (codes "reported", totals_in totals)
brief (reply.Billed sale) = (codes "billed", sale ∷ [])
brief (reply.Lost sale) = (codes "lost", sale ∷ [])
brief (reply.Trimmed sales forgotten) = (codes "trimmed", sales ∷ forgotten ∷ [])
brief reply.NoSuchCampaign = (codes "no such campaign", [])
brief reply.NoSuchSale = (codes "no such sale", [])
brief reply.WasLost = (codes "was lost", [])
brief reply.WasBilled = (codes "was billed", [])
brief reply.WasExpired = (codes "was expired", [])
brief reply.Forgotten = (codes "forgotten", [])
brief (reply.BelowCommitted committed) = (codes "below committed", committed ∷ [])
brief (reply.Full limit) = (codes "full", [])

-- ---- commands at their moments, with sales that are held for five minutes

abbrev pub settings : Settings
settings = record { ttl = 300000; limit = 4194304 }

abbrev pub Timed : Type 0
Timed = ℕ × Command

abbrev pub replies : State → List Timed → List Brief
replies s [] = []
replies s (t ∷ ts) = brief (step settings t.0 s t.1).reply ∷ replies (step settings t.0 s t.1).after ts

abbrev pub after : State → List Timed → State
after s [] = s
after s (t ∷ ts) = after (step settings t.0 s t.1).after ts

-- ---- campaigns

abbrev pub facts_of : ℕ → ℕ → List ℕ → List ℕ → FactParts
facts_of bid budget seat domain = record {
  seat = seat;
  adomain = domain;
  cat = [];
  w = None;
  h = None;
  attr = [];
  secure = true;
  bid = bid;
  deals = [];
  budget = budget;
  adm = codes "ad";
  crid = codes "cr";
  adid = None;
  cap = None;
}

-- a target of one predicate wants its values, or not
abbrev pub wants : List ℕ → List (List Pred)
wants domain = (record { attr = attr.Domain; negated = false; values = domain ∷ [] } ∷ []) ∷ []

abbrev pub wants_all : List (List Pred)
wants_all = [] ∷ []

-- one campaign that bids so much, and has ten dollars
abbrev pub bidding : ℕ → Command
bidding bid = command.Act (act.Add (facts_of bid 10000000000 (codes "s1") (codes "ad1.example")) wants_all)

-- shoes on news.example for 2.50, and cars for 1.00
abbrev pub shoes_facts : FactParts
shoes_facts = record (facts_of 2500000 10000000000 (codes "s1") (codes "shoes.example")) { w = Some (pos 300); h = Some (pos 250) }

abbrev pub shoes : Command
shoes = command.Act (act.Add shoes_facts (wants (codes "news.example")))

abbrev pub cars_facts : FactParts
cars_facts = record (facts_of 1000000 10000000000 (codes "s2") (codes "cars.example")) { w = Some (pos 300); h = Some (pos 250) }

abbrev pub cars : Command
cars = command.Act (act.Add cars_facts wants_all)

-- shoes once a minute to a user
abbrev pub capped_facts : FactParts
capped_facts = record shoes_facts { cap = cap_of 1 60 }

abbrev pub capped_shoes : Command
capped_shoes = command.Act (act.Add capped_facts (wants (codes "news.example")))

-- ---- requests

-- for a banner of any size, open to all
abbrev pub imp_of : ℕ → Imp
imp_of floor = record blank_imp { id = codes "1"; floor = floor; currency = codes "USD"; banner = Some blank_banner }

abbrev pub on_news : List Imp → BidRequest
on_news imps = record {
  id = codes "b1";
  at = 2;
  test = false;
  wseat = [];
  bseat = [];
  cur = [];
  bcat = [];
  badv = [];
  site = Some (record blank_site { domain = Some (codes "news.example") });
  app = None;
  device = None;
  user = None;
  imps = imps;
}

-- impressions of these floors, for no user that is known
abbrev pub asked : List ℕ → Command
asked floors = command.Auction (on_news (map imp_of floors))

-- one impression from 0.30 on for the user 55816b39, with sizes and lists of what is blocked
abbrev pub reader_imp : Imp
reader_imp = record (imp_of 300000) {
  tagid = Some (codes "top");
  secure = true;
  banner = Some (record blank_banner { sizes = record { w = pos 300; h = pos 250 } ∷ record { w = pos 320; h = pos 50 } ∷ []; battr = pos 13 ∷ []; pos = Some (pos 1) });
}

abbrev pub reader : User
reader = record blank_user { id = Some (codes "55816b39"); yob = Some (pos 1984) }

abbrev pub by_reader : BidRequest
by_reader = record (on_news (reader_imp ∷ [])) { cur = codes "USD" ∷ []; bcat = codes "IAB25" ∷ []; badv = codes "other.example" ∷ []; user = Some reader }

abbrev pub read : Command
read = command.Auction by_reader

-- shoes, cars, and one sale of shoes
abbrev pub one_sale : List Timed
one_sale = (1000, shoes) ∷ (1000, cars) ∷ (1000, read) ∷ []
