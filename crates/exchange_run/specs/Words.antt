-- The words of the command `try`: each is a campaign.
use Rattle.std.specs.Prelude.{ℕ, ◌==◌, ◌&&◌, nat_le, List, [], ◌∷◌, length, Bool, if◌then◌else◌, Option, None, Some, option_map, option_and_then, codes}
use Rattle.std.specs.List.{list_any, before_first, after_first}
use Rattle.std.specs.Str.{bytes_eq}
use Rattle.exchange_run.specs.Each.{each_of}
use Rattle.std.specs.Result.{result_ok}
use Rattle.rtb_num.specs.Numbers.{is_number}
use Rattle.json_fields.specs.Amounts.{exact_of}

-- a number of JSON that is an exact amount of micro-dollars, up to a million dollars
abbrev pub amount_of : List ℕ → Option ℕ
amount_of text = if is_number text then result_ok (exact_of text) else None

-- a campaign: what it bids, in micro-dollars per thousand impressions, and the site domain that it
-- wants, where it wants only one
pub record Campaign : Type 0 where
  pub bid : ℕ
  pub domain : Option (List ℕ)

abbrev pub is_at : ℕ → Bool
is_at c = c == 64

-- from 1 to n
abbrev pub is_within : ℕ → ℕ → Bool
is_within n k = nat_le 1 k && nat_le k n

-- what stands behind the first `@`, if there is one: 1 to 255 bytes
abbrev pub domain_of : List ℕ → Option (Option (List ℕ))
domain_of word =
    if list_any is_at word then
    (if is_within 255 (length (after_first is_at word)) then Some (Some (after_first is_at word)) else None)
    else Some None

-- a bid is an amount of at least one micro-dollar
abbrev pub bid_of : List ℕ → Option ℕ
bid_of word = option_and_then (λ m. if nat_le 1 m then Some m else None) (amount_of (before_first is_at word))

-- `BID` or `BID@DOMAIN`
abbrev pub campaign_of : List ℕ → Option Campaign
campaign_of word = option_and_then (λ bid. option_map (λ domain. record { bid = bid; domain = domain }) (domain_of word)) (bid_of word)

-- each word's campaign, where each word is one
abbrev pub campaigns_of : List (List ℕ) → Option (List Campaign)
campaigns_of words = each_of campaign_of words

-- what stands behind the command's name: at most 64 words
abbrev pub campaign_words : List (List ℕ) → Option (List (List ℕ))
campaign_words [] = None
campaign_words (name ∷ words) = if bytes_eq name (codes "try") && nat_le (length words) 64 then Some words else None

-- the campaigns of the command `try`, numbered from 1
abbrev pub command_of : List (List ℕ) → Option (List Campaign)
command_of words = option_and_then campaigns_of (campaign_words words)
