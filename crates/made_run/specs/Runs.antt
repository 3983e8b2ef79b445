-- A run that anybody can repeat: campaigns and bid requests that are drawn from a number, each posted to an exchange
-- without campaigns, with the answer that an exchange of one thread gives.
use Rattle.std.specs.Prelude.{◌≡◌, ℕ, ◌+◌, ◌==◌, ◌&&◌, Bool, nat_lt, zero, suc, All, List, [], ◌∷◌, ◌++◌, map, count_by, sum_by, false, if◌then◌else◌, codes, decimal}
use Rattle.std.specs.List.{flat_map}
use Rattle.address_keys.specs.Tokens.{no_keys}
use Rattle.audit.specs.Accounts.{Accounts, passes}
use Rattle.budget_book.specs.Sales.{is_held}
use Rattle.budget_book.specs.declared.sales.SaleRow.{SaleRow}
use Rattle.http_wire.specs.declared.message.Message.{Message}
use Rattle.loadgen.specs.Draws.{behind_campaign, behind_request, campaign_draws, request_draws}
use Rattle.loadgen.specs.Texts.{campaign_text, request_text}
use Rattle.made_run.specs.declared.run.Made.{Made}
use Rattle.plain_exchange.specs.State.{State, empty}
use Rattle.rtb_num.specs.Amounts.{nanos_text}
use Rattle.trace.specs.Traces.{entry_bytes, header_bytes}
use Rattle.trace.specs.declared.entry.Entry.{Entry}
use Rattle.trace.specs.declared.header.Header.{Header}

-- ---- what is posted

abbrev pub campaigns : ℕ
campaigns = 100

abbrev pub post : List ℕ → List ℕ → Message
post target body = record { method = codes "POST"; target = target; body = body; closes = false }

-- the campaign that is drawn from the generator's state
unfoldable pub campaign_post : ℕ → Message
campaign_post x = post (codes "/campaign") (campaign_text (campaign_draws x))

-- the bid request of this number that is drawn from the state
unfoldable pub request_post : ℕ → ℕ → Message
request_post number x = post (codes "/openrtb2/auction") (request_text number (request_draws x))

-- so many campaigns from the state on, each at moment 0
unfoldable pub campaigns_from : ℕ → ℕ → List (ℕ × Message)
campaigns_from x zero = []
campaigns_from x (suc k) = (0, campaign_post x) ∷ campaigns_from (behind_campaign x) k

-- the state behind so many campaigns
unfoldable pub behind_campaigns : ℕ → ℕ → ℕ
behind_campaigns x zero = x
behind_campaigns x (suc k) = behind_campaigns (behind_campaign x) k

-- so many requests from the state and the number on, each at the moment that is its number
abbrev pub requests_from : ℕ → ℕ → ℕ → List (ℕ × Message)
requests_from x number zero = []
requests_from x number (suc k) = (number, request_post number x) ∷ requests_from (behind_request x) (number + 1) k

-- the campaigns, and behind them n requests from number 1 on
unfoldable pub posted : ℕ → ℕ → List (ℕ × Message)
posted start n = campaigns_from start campaigns ++ requests_from (behind_campaigns start campaigns) 1 n

-- ---- the run

abbrev pub header : Header
header = record { ttl = 300000; public = codes "http://make.example" }

-- the moment and the message of an entry
abbrev pub post_of : Entry → ℕ × Message
post_of e = (e.moment, e.message)

-- These entries have these messages at their moments, in their order, and account for their answers from an exchange
-- without campaigns and without keys on, and none of them tells of memory or of the store; and this is the state behind them.
pub record IsRunOf (posts : List (ℕ × Message)) (entries : List Entry) (behind : State) : Type 0 where
  pub messages : map post_of entries ≡ posts
  pub account : Accounts no_keys header empty entries behind
  pub answered : All (λ (e : Entry). passes e ≡ false) entries

-- ---- what is made of it

abbrev pub trace_text : List Entry → List ℕ
trace_text entries = header_bytes header ++ flat_map entry_bytes entries

-- an entry of a request, whose moment is its number, with this status
abbrev pub has_status : ℕ → Entry → Bool
has_status status e = nat_lt 0 e.moment && (e.status == status)

-- how many of the requests have this status
abbrev pub with_status : ℕ → List Entry → ℕ
with_status status entries = count_by (has_status status) entries

-- what the sale reserves
abbrev pub held_price : SaleRow → ℕ
held_price sale = if is_held sale.state then sale.price else 0

-- what the held sales cost, in nano-dollars
abbrev pub reserved_in : List SaleRow → ℕ
reserved_in sales = sum_by held_price sales

-- the run of this start, with so many requests: its trace, how many requests were sold and how many were not, and what is
-- reserved behind it
pub record IsMade (start n : ℕ) (made : Made) : Type 0 where
  pub entries : List Entry
  pub behind : State
  pub run : IsRunOf (posted start n) entries behind
  pub trace_is : made.trace ≡ trace_text entries
  pub sold_is : made.sold ≡ with_status 200 entries
  pub no_bid_is : made.no_bid ≡ with_status 204 entries
  pub reserved_is : made.reserved ≡ reserved_in behind.sales

-- the same of a run whose trace is not wanted, which is left out
abbrev pub IsCounted : ℕ → ℕ → Made → Type 0
IsCounted start n made = (whole : Made) × IsMade start n whole × (made ≡ record whole { trace = [] })

-- a number behind a text
unfoldable pub numbered : List ℕ → ℕ → List ℕ
numbered before n = before ++ decimal n

-- what is reserved, and the line's end
unfoldable pub reserved_text : ℕ → List ℕ
reserved_text reserved = codes " reserved=" ++ nanos_text reserved ++ codes "\n"

-- the line that tells the counts
abbrev pub counts_line : ℕ → Made → List ℕ
counts_line n made = numbered (codes "campaigns=100 requests=") n ++ numbered (codes " sold=") made.sold ++ numbered (codes " nobid=") made.no_bid ++ reserved_text made.reserved
