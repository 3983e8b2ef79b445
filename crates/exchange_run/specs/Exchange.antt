-- The exchange of the command `try`, and what it answers to a bid request.
use Rattle.std.specs.Prelude.{ℕ, ◌^◌, List, [], ◌∷◌, ◌++◌, map, true, false, Option, Some, None, codes, decimal}
use Rattle.std.specs.List.{enumerate_from}
use Rattle.address_keys.specs.Tokens.{no_keys}
use Rattle.campaign.specs.declared.parts.FactParts.{FactParts}
use Rattle.plain_exchange.specs.declared.commands.Command.TheVariants.{Auction}
use Rattle.plain_exchange.specs.declared.commands.Reply.{Reply}
use Rattle.plain_exchange.specs.declared.commands.Reply.TheVariants as reply
use Rattle.plain_exchange.specs.State.{State, Campaign as LiveCampaign}
use Rattle.plain_exchange.specs.Step.{new_campaign, step}
use Rattle.plain_exchange.specs.declared.settings.Settings.{Settings}
use Rattle.rtb_response.specs.Response.{response_text}
use Rattle.rtb_types.specs.declared.request.BidRequest.{BidRequest}
use Rattle.target_expr.specs.declared.attr.Attr.TheVariants.{Domain}
use Rattle.target_expr.specs.declared.pred.Pred.{Pred}
use Rattle.exchange_run.specs.Words.{Campaign}

-- ---- its campaigns

-- what campaign n states beside its target: it bids so many micro-dollars per thousand, and its budget is a
-- million dollars, in nano-dollars
abbrev pub facts_of : ℕ → ℕ → FactParts
facts_of n bid = record {
  seat = codes "s" ++ decimal n;
  adomain = codes "ad" ++ decimal n ++ codes ".example";
  cat = [];
  w = None;
  h = None;
  attr = [];
  secure = true;
  bid = bid;
  deals = [];
  budget = 10 ^ 15;
  adm = codes "ad " ++ decimal n;
  crid = codes "cr" ++ decimal n;
  adid = None;
  cap = None;
}

-- `domain in [DOMAIN]`, or one conjunction without a predicate, which is true of everything
abbrev pub target_of : Option (List ℕ) → List (List Pred)
target_of None = [] ∷ []
target_of (Some domain) = (record { attr = Domain; negated = false; values = domain ∷ [] } ∷ []) ∷ []

-- campaign n, which is live and has sold nothing
abbrev pub live_campaign : ℕ × Campaign → LiveCampaign
live_campaign (n, c) = new_campaign (facts_of n c.bid) (target_of c.domain)

-- the exchange as it starts: these campaigns, numbered from 1, and no sale
unfoldable pub opening : List Campaign → State
opening campaigns = record { campaigns = map live_campaign (enumerate_from 1 campaigns); sales = [] }

-- ---- its answer

-- for how many milliseconds it holds a sale, and how many its list is to have; no reply to one request tells
abbrev pub settings : Settings
settings = record { ttl = 300000; limit = 4194304 }

-- the reply to the request, which comes at moment 0
unfoldable pub reply_at_opening : List Campaign → BidRequest → Reply
reply_at_opening campaigns r = (step settings 0 (opening campaigns) (Auction r)).reply

-- the bid response where it sold, without addresses of notices, and else `no-bid`
abbrev pub line_for : BidRequest → Reply → List ℕ
line_for r (reply.Sold sold) = response_text None no_keys r sold
line_for r _ = codes "no-bid"
