-- The text of a bid response (OpenRTB 2.5, sections 4.2.1 to 4.2.3), without spaces.
use Rattle.std.specs.Prelude.{ℕ, ℤ, not, Bool, List, [], ◌∷◌, ◌++◌, filter, map, slice_get, Option, option_map, codes, decimal}
use Rattle.std.specs.Fmt.{signed_decimal}
use Rattle.std.specs.Option.{option_map_or, option_to_list}
use Rattle.std.specs.Str.{bytes_eq}
use Rattle.address_keys.specs.Tokens.{token}
use Rattle.address_keys.specs.declared.keys.Keys.{Keys}
use Rattle.campaign.specs.declared.parts.FactParts.{FactParts}
use Rattle.campaign.specs.Kept.{size_of}
use Rattle.json_out.specs.Strings.{string_text}
use Rattle.json_out.specs.Texts.{Member, array_text, object_text}
use Rattle.plain_exchange.specs.declared.commands.Sold.{Sold}
use Rattle.rtb_macros.specs.declared.filling.MacroValues.{MacroValues}
use Rattle.rtb_macros.specs.Macros.{filled_in}
use Rattle.rtb_num.specs.Amounts.{micros_text}
use Rattle.rtb_types.specs.declared.request.BidRequest.{BidRequest}
use Rattle.rtb_types.specs.declared.request.Imp.{Imp}

-- ---- members

abbrev pub text_member : List ℕ → List ℕ → Member
text_member name text = (name, string_text text)

-- left out where there is none
abbrev pub optional_text : List ℕ → Option (List ℕ) → List Member
optional_text name text = option_to_list (option_map (text_member name) text)

-- left out where it is empty
abbrev pub optional_array : List ℕ → List (List ℕ) → List Member
optional_array name [] = []
optional_array name (v ∷ vs) = (name, array_text (v ∷ vs)) ∷ []

-- ---- a bid object (section 4.2.3)

-- the id of the impression that was sold
abbrev pub imp_id : BidRequest → Sold → List ℕ
imp_id r s = option_map_or (λ (i : Imp). i.id) (slice_get r.imps s.imp) []

abbrev pub seat_of : Sold → List ℕ
seat_of s = s.record.facts.seat

-- what stands for the macros of the markup (section 4.4)
abbrev pub macro_values : BidRequest → Sold → MacroValues
macro_values r s = record {
  auction = r.id;
  bid = decimal s.sale;
  imp = imp_id r s;
  seat = seat_of s;
  ad = s.record.facts.adid;
  price = micros_text s.price;
}

-- what was sold, under the number of the sale, and the price in US dollars per thousand impressions
abbrev pub sale_members : BidRequest → Sold → List Member
sale_members r s =
    text_member (codes "id") (decimal s.sale)
    ∷ text_member (codes "impid") (imp_id r s)
    ∷ (codes "price", micros_text s.price)
    ∷ []

-- a path, with its token behind it where addresses are signed
abbrev pub signed : Keys → List ℕ → List ℕ
signed keys path = path ++ option_map_or (λ key. 47 ∷ token key path) keys.key []

-- the addresses at which the sale is billed and lost, where it is known with what they begin
abbrev pub notice_members : Option (List ℕ) → Keys → ℕ → List Member
notice_members public keys n = option_map_or (λ p. text_member (codes "burl") (p ++ signed keys (codes "/bill/" ++ decimal n)) ∷ text_member (codes "lurl") (p ++ signed keys (codes "/lose/" ++ decimal n)) ∷ []) public []

-- what is shown, and of whom
abbrev pub ad_members : BidRequest → Sold → List Member
ad_members r s =
    text_member (codes "adm") (filled_in (macro_values r s) s.record.facts.adm)
    ∷ (codes "adomain", array_text (string_text s.record.facts.adomain ∷ []))
    ∷ text_member (codes "cid") (decimal s.campaign)
    ∷ text_member (codes "crid") s.record.facts.crid
    ∷ []

abbrev pub sides_members : ℤ × ℤ → List Member
sides_members p = (codes "w", signed_decimal p.0) ∷ (codes "h", signed_decimal p.1) ∷ []

-- what the creative is like, and the deal that it was sold by
abbrev pub further_members : FactParts → Option (List ℕ) → List Member
further_members f deal =
    optional_array (codes "cat") (map string_text f.cat)
    ++ (optional_array (codes "attr") (map signed_decimal f.attr)
    ++ (optional_text (codes "dealid") deal ++ option_map_or sides_members (size_of f) []))

abbrev pub bid_members : Option (List ℕ) → Keys → BidRequest → Sold → List Member
bid_members public keys r s =
    sale_members r s
    ++ (optional_text (codes "adid") s.record.facts.adid
    ++ (notice_members public keys s.sale ++ (ad_members r s ++ further_members s.record.facts s.deal)))

abbrev pub bid_text : Option (List ℕ) → Keys → BidRequest → Sold → List ℕ
bid_text public keys r s = object_text (bid_members public keys r s)

-- ---- seats (section 4.2.2)

abbrev pub is_of_seat : List ℕ → Sold → Bool
is_of_seat seat s = bytes_eq (seat_of s) seat

-- the seats that bought, in the order of what each bought first
unfoldable pub seats_of : List Sold → List (List ℕ)
seats_of [] = []
seats_of (s ∷ sold) = seat_of s ∷ filter (λ seat. not (bytes_eq seat (seat_of s))) (seats_of sold)

-- the bids of a seat, in the order of the impressions
abbrev pub seat_bids : Option (List ℕ) → Keys → BidRequest → List Sold → List ℕ → List (List ℕ)
seat_bids public keys r sold seat = map (bid_text public keys r) (filter (is_of_seat seat) sold)

abbrev pub seat_text : Option (List ℕ) → Keys → BidRequest → List Sold → List ℕ → List ℕ
seat_text public keys r sold seat = object_text ((codes "bid", array_text (seat_bids public keys r sold seat)) ∷ text_member (codes "seat") seat ∷ [])

-- ---- the response (section 4.2.1)

-- one object a seat
abbrev pub response_text : Option (List ℕ) → Keys → BidRequest → List Sold → List ℕ
response_text public keys r sold = object_text (text_member (codes "id") r.id
    ∷ (codes "seatbid", array_text (map (seat_text public keys r sold) (seats_of sold)))
    ∷ text_member (codes "cur") (codes "USD")
    ∷ [])
