-- Cited by private functions alone: the bytes of facts in four groups of three fields.
use Rattle.std.specs.Prelude.{◌≡◌, ℕ, ◌^◌, ◌≤◌, List, Bool, ℤ, pos, ◌≤ℤ◌, FitsSigned, Option, None, is_some, option_map}
use Rattle.std.specs.Int.{w32}
use Rattle.byte_fields.specs.Codes.{BothValid, both_bytes}
use Rattle.byte_fields.specs.Encodings.{eight_bytes, IsFlag, flag_bytes, IsShort, text_bytes, IsOptionOf, option_bytes, IsListWithin, list_bytes}
use Rattle.campaign.specs.declared.parts.FactParts.{FactParts}
use Rattle.campaign.specs.Encoding.{int_bytes, sides_bytes}
use Rattle.campaign.specs.Kept.{size_of}

-- a whole number of 32 bits that is not negative
abbrev pub IsWhole : ℤ → Type 0
IsWhole z = (pos 0 ≤ℤ z) × FitsSigned w32 z

abbrev pub AreSides : ℤ × ℤ → Type 0
AreSides = BothValid IsWhole IsWhole

-- at most 64 texts, and at most 64 whole numbers
abbrev pub AreTexts : List (List ℕ) → Type 0
AreTexts = IsListWithin 64 IsShort

abbrev pub AreInts : List ℤ → Type 0
AreInts = IsListWithin 64 IsWhole

-- micro-dollars and nano-dollars
abbrev pub IsMicros : ℕ → Type 0
IsMicros n = n ≤ 10 ^ 12

abbrev pub IsNanos : ℕ → Type 0
IsNanos n = n ≤ 10 ^ 15

-- `seat`, `adomain`, `cat`
abbrev pub Names : Type 0
Names = (List ℕ × List ℕ) × List (List ℕ)

abbrev pub AreNames : Names → Type 0
AreNames = BothValid (BothValid IsShort IsShort) AreTexts

abbrev pub names_bytes : Names → List ℕ
names_bytes = both_bytes (both_bytes text_bytes text_bytes) (list_bytes text_bytes)

-- the size, `attr`, `secure`
abbrev pub Look : Type 0
Look = (Option (ℤ × ℤ) × List ℤ) × Bool

abbrev pub IsLook : Look → Type 0
IsLook = BothValid (BothValid (IsOptionOf AreSides) AreInts) IsFlag

abbrev pub look_bytes : Look → List ℕ
look_bytes = both_bytes (both_bytes (option_bytes sides_bytes) (list_bytes int_bytes)) flag_bytes

-- `bid`, `deals`, `budget`
abbrev pub Money : Type 0
Money = (ℕ × List (List ℕ)) × ℕ

abbrev pub IsMoney : Money → Type 0
IsMoney = BothValid (BothValid IsMicros AreTexts) IsNanos

abbrev pub money_bytes : Money → List ℕ
money_bytes = both_bytes (both_bytes eight_bytes (list_bytes text_bytes)) eight_bytes

-- `adm`, `crid`, `adid`
abbrev pub Creative : Type 0
Creative = (List ℕ × List ℕ) × Option (List ℕ)

abbrev pub IsCreative : Creative → Type 0
IsCreative = BothValid (BothValid IsShort IsShort) (IsOptionOf IsShort)

abbrev pub creative_bytes : Creative → List ℕ
creative_bytes = both_bytes (both_bytes text_bytes text_bytes) (option_bytes text_bytes)

-- all four
abbrev pub Groups : Type 0
Groups = ((Names × Look) × Money) × Creative

abbrev pub AreGroups : Groups → Type 0
AreGroups = BothValid (BothValid (BothValid AreNames IsLook) IsMoney) IsCreative

abbrev pub groups_bytes : Groups → List ℕ
groups_bytes = both_bytes (both_bytes (both_bytes names_bytes look_bytes) money_bytes) creative_bytes

abbrev pub names_of : FactParts → Names
names_of p = ((p.seat, p.adomain), p.cat)

abbrev pub look_of : FactParts → Look
look_of p = ((size_of p, p.attr), p.secure)

abbrev pub money_of : FactParts → Money
money_of p = ((p.bid, p.deals), p.budget)

abbrev pub creative_of : FactParts → Creative
creative_of p = ((p.adm, p.crid), p.adid)

abbrev pub groups_of : FactParts → Groups
groups_of p = (((names_of p, look_of p), money_of p), creative_of p)

-- the parts without a cap of which these are the groups
abbrev pub parts_from : Groups → FactParts
parts_from (((((seat, adomain), cat), ((size, attr), secure)), ((bid, deals), budget)), ((adm, crid), adid)) = record {
  seat = seat;
  adomain = adomain;
  cat = cat;
  w = option_map (λ s. s.0) size;
  h = option_map (λ s. s.1) size;
  attr = attr;
  secure = secure;
  bid = bid;
  deals = deals;
  budget = budget;
  adm = adm;
  crid = crid;
  adid = adid;
  cap = None;
}

-- the parts with these names, lists and creative in place of their own
abbrev pub join : FactParts → Names → List ℤ → List (List ℕ) → Creative → FactParts
join p names attr deals creative = record p {
  seat = names.0.0;
  adomain = names.0.1;
  cat = names.1;
  attr = attr;
  deals = deals;
  adm = creative.0.0;
  crid = creative.0.1;
  adid = creative.1;
}

-- parts whose bytes can be read, within the limits of their texts and numbers or not
pub record IsLoose (p : FactParts) : Type 0 where
  pub groups : AreGroups (groups_of p)
  pub sides : is_some p.w ≡ is_some p.h
  pub uncapped : p.cap ≡ None
