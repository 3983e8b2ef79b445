-- The answer to each reply: its status (RFC 9110, section 15), and its body.
use Rattle.std.specs.Prelude.{ℕ, Bool, List, [], ◌∷◌, ◌++◌, Option, codes, decimal, if◌then◌else◌}
use Rattle.std.specs.Option.{option_map_or}
use Rattle.address_keys.specs.Tokens.{token}
use Rattle.address_keys.specs.declared.keys.Keys.{Keys}
use Rattle.budget_book.specs.declared.sales.Totals.{Totals}
use Rattle.campaign_store.specs.declared.limit.Limit.{Limit}
use Rattle.campaign_store.specs.declared.limit.Limit.TheVariants as limit
use Rattle.http_wire.specs.declared.answer.Allow.TheVariants as allow
use Rattle.http_wire.specs.declared.answer.Answer.{Answer}
use Rattle.json_out.specs.Texts.{Member, object_text}
use Rattle.plain_exchange.specs.declared.commands.Reply.{Reply}
use Rattle.plain_exchange.specs.declared.commands.Reply.TheVariants as reply
use Rattle.rtb_num.specs.Amounts.{micros_text, nanos_text}
use Rattle.rtb_response.specs.Response.{response_text, text_member}
use Rattle.rtb_types.specs.declared.request.BidRequest.{BidRequest}

abbrev pub answer : ℕ → List ℕ → Answer
answer status body = record { status = status; allow = allow.None; body = body }

-- no content
abbrev pub no_content : Answer
no_content = answer 204 []

abbrev pub object_answer : ℕ → List Member → Answer
object_answer status ms = answer status (object_text ms)

abbrev pub number_member : List ℕ → ℕ → Member
number_member name n = (name, decimal n)

-- a campaign by its number
abbrev pub campaign_answer : ℕ → ℕ → Answer
campaign_answer status n = object_answer status (number_member (codes "campaign") n ∷ [])

-- a campaign that was added, by its number, and the token that opens its paths where addresses are signed
abbrev pub added_answer : Keys → ℕ → Answer
added_answer keys n = object_answer 201 (number_member (codes "campaign") n ∷ option_map_or (λ key. text_member (codes "token") (token key (codes "/campaign/" ++ decimal n)) ∷ []) keys.key [])

-- a sale by its number, and what has become of it
abbrev pub sale_answer : ℕ → List ℕ → Answer
sale_answer n state = object_answer 200 (number_member (codes "sale") n ∷ text_member (codes "state") state ∷ [])

-- how many sales are left in the list, and how many are forgotten in all
abbrev pub trimmed_answer : ℕ → ℕ → Answer
trimmed_answer sales forgotten = object_answer 200 (number_member (codes "sales") sales ∷ number_member (codes "forgotten") forgotten ∷ [])

abbrev pub error_answer : ℕ → List ℕ → List Member → Answer
error_answer status word ms = object_answer status (text_member (codes "error") word ∷ ms)

abbrev pub state_of : Bool → List ℕ
state_of live = if live then codes "live" else codes "paused"

-- what a campaign's sales add up to; amounts are in US dollars
abbrev pub totals_members : Totals → List Member
totals_members t =
    (codes "reserved", nanos_text t.reserved)
    ∷ (codes "spent", nanos_text t.spent)
    ∷ number_member (codes "held") t.held
    ∷ number_member (codes "billed") t.billed
    ∷ number_member (codes "lost") t.lost
    ∷ number_member (codes "expired") t.expired
    ∷ []

-- the bid is in US dollars per thousand impressions
abbrev pub report_members : ℕ → Bool → ℕ → ℕ → Totals → List Member
report_members n live bid budget totals =
    number_member (codes "campaign") n
    ∷ text_member (codes "state") (state_of live)
    ∷ (codes "bid", micros_text bid)
    ∷ (codes "budget", nanos_text budget)
    ∷ totals_members totals

abbrev pub limit_word : Limit → List ℕ
limit_word limit.Sales = codes "sales"
limit_word limit.Campaigns = codes "campaigns"
limit_word limit.Conjunctions = codes "conjunctions"
limit_word limit.Values = codes "values"
limit_word limit.TextBytes = codes "text-bytes"

-- what is answered to a reply, of which one that sold is to this request; `public` is what the addresses of
-- notices begin with, and by the keys they are signed
abbrev pub answer_of : Option BidRequest → Option (List ℕ) → Keys → Reply → Answer
answer_of request public keys reply.NoBid = no_content
answer_of request public keys (reply.Sold sold) = answer 200 (option_map_or (λ r. response_text public keys r sold) request [])
answer_of request public keys (reply.Added n) = added_answer keys n
answer_of request public keys (reply.Changed n) = campaign_answer 200 n
answer_of request public keys (reply.Paused n) = campaign_answer 200 n
answer_of request public keys (reply.Resumed n) = campaign_answer 200 n
answer_of request public keys (reply.Reported n live bid budget totals) = object_answer 200 (report_members n live bid budget totals)
answer_of request public keys (reply.Billed sale) = sale_answer sale (codes "billed")
answer_of request public keys (reply.Lost sale) = sale_answer sale (codes "lost")
answer_of request public keys (reply.Trimmed sales forgotten) = trimmed_answer sales forgotten
answer_of request public keys reply.NoSuchCampaign = error_answer 404 (codes "no-such-campaign") []
answer_of request public keys reply.NoSuchSale = error_answer 404 (codes "no-such-sale") []
answer_of request public keys reply.WasLost = error_answer 409 (codes "was-lost") []
answer_of request public keys reply.WasBilled = error_answer 409 (codes "was-billed") []
answer_of request public keys reply.WasExpired = error_answer 410 (codes "was-expired") []
answer_of request public keys reply.Forgotten = error_answer 410 (codes "forgotten") []
answer_of request public keys (reply.BelowCommitted committed) = error_answer 409 (codes "below-committed") ((codes "committed", nanos_text committed) ∷ [])
answer_of request public keys (reply.Full limit) = error_answer 503 (codes "full") (text_member (codes "limit") (limit_word limit) ∷ [])
