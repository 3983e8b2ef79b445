-- The bytes of facts.
use Rattle.std.specs.Prelude.{◌≡◌, ℕ, List, ◌++◌, ℤ, Some, None, Result, Ok, Err}
use Rattle.std.specs.Int.{w32, cast_unsigned}
use Rattle.byte_fields.specs.Codes.{IsReadAt}
use Rattle.byte_fields.specs.Encodings.{four_bytes, eight_bytes, flag_bytes, text_bytes, option_bytes, list_bytes}
use Rattle.campaign.specs.declared.parts.FactParts.{FactParts}
use Rattle.campaign.specs.declared.decode.FactBytes.{FactBytes}
use Rattle.campaign.specs.declared.decode.FactBytes.TheVariants.{Torn, Memory}
use Rattle.campaign.specs.Kept.{IsEncodable, size_of}

-- a whole number of 32 bits, in four bytes
abbrev pub int_bytes : ℤ → List ℕ
int_bytes z = four_bytes (cast_unsigned w32 z)

-- a width and a height
abbrev pub sides_bytes : ℤ × ℤ → List ℕ
sides_bytes s = int_bytes s.0 ++ int_bytes s.1

-- the fields one behind the other but for the cap: the size as one or none, the bid in micro-dollars, the
-- budget in nano-dollars
unfoldable pub facts_bytes : FactParts → List ℕ
facts_bytes p = text_bytes p.seat
    ++ text_bytes p.adomain
    ++ list_bytes text_bytes p.cat
    ++ option_bytes sides_bytes (size_of p)
    ++ list_bytes int_bytes p.attr
    ++ flag_bytes p.secure
    ++ eight_bytes p.bid
    ++ list_bytes text_bytes p.deals
    ++ eight_bytes p.budget
    ++ text_bytes p.adm
    ++ text_bytes p.crid
    ++ option_bytes text_bytes p.adid

-- what is decoded at a place: facts without a cap whose bytes begin there, with the place behind them; torn
-- at that place where the bytes of no facts begin there
abbrev pub IsDecoded : List ℕ → ℕ → Result (FactParts × ℕ) FactBytes → Type 0
IsDecoded bytes place (Ok p) = IsReadAt IsEncodable facts_bytes bytes place (Some p)
IsDecoded bytes place (Err (Torn at)) = (at ≡ place) × IsReadAt IsEncodable facts_bytes bytes place None
IsDecoded bytes place (Err Memory) = Unit {0}
