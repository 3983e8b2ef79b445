-- Which bid requests are valid: what a reader gives, and what every call that takes one wants.
use Rattle.std.specs.Prelude.{ℕ, ◌&&◌, nat_le, length, Bool}
use Rattle.std.specs.List.{list_all}
use Rattle.rtb_types.specs.declared.request.BidRequest.{BidRequest}
use Rattle.rtb_types.specs.declared.request.Imp.{Imp}
use Rattle.rtb_types.specs.declared.request.Deal.{Deal}

-- from a to b
abbrev pub is_from : ℕ → ℕ → ℕ → Bool
is_from a b n = nat_le a n && nat_le n b

-- first price, second price, or the agreed one (section 3.2.12)
abbrev pub is_valid_deal : Deal → Bool
is_valid_deal d = is_from 1 3 d.at

abbrev pub has_valid_deals : Imp → Bool
has_valid_deals i = list_all is_valid_deal i.pmp.deals

-- first or second price (section 3.2.1), and 1 to 64 impressions
abbrev pub is_valid : BidRequest → Bool
is_valid r = is_from 1 2 r.at && (is_from 1 64 (length r.imps) && list_all has_valid_deals r.imps)
