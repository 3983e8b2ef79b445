-- Only private clauses cite this file. Changes of one tag, and the plain pairs that their bytes are read as.
use Rattle.std.specs.Prelude.{◌≡◌, ◌==◌, ◌&&◌, not, if◌then◌else◌, ℕ, List, length, All, Bool, Option, None, Some}
use Rattle.budget_book.specs.declared.sales.Gone.{Gone}
use Rattle.budget_book.specs.declared.sales.SaleRow.{SaleRow}
use Rattle.budget_book.specs.declared.sales.SaleState.{SaleState}
use Rattle.byte_fields.specs.Codes.{BothValid, both_bytes}
use Rattle.byte_fields.specs.Encodings.{FitsFour, FitsEight, IsFlag, IsOptionOf, byte_bytes, eight_bytes, flag_bytes, four_bytes, option_bytes}
use Rattle.campaign.specs.Caps.{CapTerms}
use Rattle.campaign.specs.Encoding.{facts_bytes}
use Rattle.campaign.specs.Kept.{IsEncodable as IsUncapped, with_cap}
use Rattle.campaign.specs.declared.parts.FactParts.{FactParts}
use Rattle.effects.specs.Bytes.{IsAmount, IsCap, IsChange, IsGone, IsItem, gone_bytes, is_kept, state_number, terms_bytes}
use Rattle.effects.specs.Tags.{number_of, tag_of}
use Rattle.effects.specs.declared.tag.Tag.{Tag}
use Rattle.plain_exchange.specs.declared.changes.Change.{Change}
use Rattle.plain_exchange.specs.declared.changes.Effect.{Effect}
use Rattle.plain_exchange.specs.declared.changes.KeptCampaign.{KeptCampaign}
use Rattle.plain_exchange.specs.declared.changes.SoldItem.{SoldItem}
use Rattle.target_expr.specs.Bytes.{IsEncodable as IsExpr, expr_bytes}
use Rattle.target_expr.specs.declared.pred.Pred.{Pred}

-- every tag has a byte
abbrev pub IsTag : Tag → Type 0
IsTag t = Unit {0}

abbrev pub tag_bytes : Tag → List ℕ
tag_bytes t = byte_bytes (number_of t)

-- a change of that tag, within its ranges
abbrev pub IsTagged : Tag → Change → Type 0
IsTagged t c = IsChange c × (tag_of c ≡ t)

-- every state has a byte
abbrev pub IsState : SaleState → Type 0
IsState s = Unit {0}

abbrev pub state_bytes : SaleState → List ℕ
state_bytes s = byte_bytes (state_number s)

-- ---- what is read piece by piece

-- campaign and price; these with a moment
abbrev pub IsPriced : ℕ × ℕ → Type 0
IsPriced = BothValid FitsFour IsAmount

abbrev pub priced_bytes : ℕ × ℕ → List ℕ
priced_bytes = both_bytes four_bytes eight_bytes

abbrev pub Triple : Type 0
Triple = (ℕ × ℕ) × ℕ

abbrev pub IsTriple : Triple → Type 0
IsTriple = BothValid IsPriced FitsEight

abbrev pub triple_bytes : Triple → List ℕ
triple_bytes = both_bytes priced_bytes eight_bytes

-- so many sold items
abbrev pub IsItemRow : ℕ → List SoldItem → Type 0
IsItemRow count items = (length items ≡ count) × All IsItem items

abbrev pub item_from : Triple → SoldItem
item_from p = record { campaign = p.0.0; price = p.0.1; due = p.1 }

-- a sale without its user: campaign, price, moment and due, then the state
abbrev pub Dated : Type 0
Dated = Triple × ℕ

abbrev pub IsDated : Dated → Type 0
IsDated = BothValid IsTriple FitsEight

abbrev pub dated_bytes : Dated → List ℕ
dated_bytes = both_bytes triple_bytes eight_bytes

abbrev pub IsStated : Dated × SaleState → Type 0
IsStated = BothValid IsDated IsState

abbrev pub stated_bytes : Dated × SaleState → List ℕ
stated_bytes = both_bytes dated_bytes state_bytes

abbrev pub row_from : Dated × SaleState → Option (List ℕ) → SaleRow
row_from p user = record { campaign = p.0.0.0.0; price = p.0.0.0.1; moment = p.0.0.1; due = p.0.1; state = p.1; user = user }

-- the two numbers of a cap
abbrev pub AreFours : ℕ × ℕ → Type 0
AreFours = BothValid FitsFour FitsFour

abbrev pub fours_bytes : ℕ × ℕ → List ℕ
fours_bytes = both_bytes four_bytes four_bytes

-- what is gone: an amount and three counts
abbrev pub AreTwo : ℕ × ℕ → Type 0
AreTwo = BothValid IsAmount FitsEight

abbrev pub two_bytes : ℕ × ℕ → List ℕ
two_bytes = both_bytes eight_bytes eight_bytes

abbrev pub AreThree : (ℕ × ℕ) × ℕ → Type 0
AreThree = BothValid AreTwo FitsEight

abbrev pub three_bytes : (ℕ × ℕ) × ℕ → List ℕ
three_bytes = both_bytes two_bytes eight_bytes

abbrev pub Eights : Type 0
Eights = ((ℕ × ℕ) × ℕ) × ℕ

abbrev pub AreEights : Eights → Type 0
AreEights = BothValid AreThree FitsEight

abbrev pub eights_bytes : Eights → List ℕ
eights_bytes = both_bytes three_bytes eight_bytes

abbrev pub gone_from : Eights → Gone
gone_from p = record { spent = p.0.0.0; billed = p.0.0.1; lost = p.0.1; expired = p.1 }

-- facts without their cap, with what stands before and behind them
abbrev pub IsNumbered : ℕ × FactParts → Type 0
IsNumbered = BothValid FitsFour IsUncapped

abbrev pub numbered_bytes : ℕ × FactParts → List ℕ
numbered_bytes = both_bytes four_bytes facts_bytes

abbrev pub IsCapped : FactParts × CapTerms → Type 0
IsCapped = BothValid IsUncapped IsCap

abbrev pub capped_bytes : FactParts × CapTerms → List ℕ
capped_bytes = both_bytes facts_bytes terms_bytes

abbrev pub IsCappedChange : (ℕ × FactParts) × CapTerms → Type 0
IsCappedChange = BothValid IsNumbered IsCap

abbrev pub capped_change_bytes : (ℕ × FactParts) × CapTerms → List ℕ
capped_change_bytes = both_bytes numbered_bytes terms_bytes

abbrev pub IsAddition : FactParts × List (List Pred) → Type 0
IsAddition = BothValid IsUncapped IsExpr

abbrev pub addition_bytes : FactParts × List (List Pred) → List ℕ
addition_bytes = both_bytes facts_bytes expr_bytes

abbrev pub IsAlteration : (ℕ × FactParts) × List (List Pred) → Type 0
IsAlteration = BothValid IsNumbered IsExpr

abbrev pub alteration_bytes : (ℕ × FactParts) × List (List Pred) → List ℕ
alteration_bytes = both_bytes numbered_bytes expr_bytes

abbrev pub IsCappedAddition : (FactParts × CapTerms) × List (List Pred) → Type 0
IsCappedAddition = BothValid IsCapped IsExpr

abbrev pub capped_addition_bytes : (FactParts × CapTerms) × List (List Pred) → List ℕ
capped_addition_bytes = both_bytes capped_bytes expr_bytes

abbrev pub IsCappedAlteration : ((ℕ × FactParts) × CapTerms) × List (List Pred) → Type 0
IsCappedAlteration = BothValid IsCappedChange IsExpr

abbrev pub capped_alteration_bytes : ((ℕ × FactParts) × CapTerms) × List (List Pred) → List ℕ
capped_alteration_bytes = both_bytes capped_change_bytes expr_bytes

abbrev pub IsLive : Bool × FactParts → Type 0
IsLive = BothValid IsFlag IsUncapped

abbrev pub live_bytes : Bool × FactParts → List ℕ
live_bytes = both_bytes flag_bytes facts_bytes

abbrev pub IsLiveCapped : (Bool × FactParts) × Option CapTerms → Type 0
IsLiveCapped = BothValid IsLive (IsOptionOf IsCap)

abbrev pub live_capped_bytes : (Bool × FactParts) × Option CapTerms → List ℕ
live_capped_bytes = both_bytes live_bytes (option_bytes terms_bytes)

abbrev pub IsAimed : ((Bool × FactParts) × Option CapTerms) × List (List Pred) → Type 0
IsAimed = BothValid IsLiveCapped IsExpr

abbrev pub aimed_bytes : ((Bool × FactParts) × Option CapTerms) × List (List Pred) → List ℕ
aimed_bytes = both_bytes live_capped_bytes expr_bytes

abbrev pub IsAimedGone : (((Bool × FactParts) × Option CapTerms) × List (List Pred)) × Gone → Type 0
IsAimedGone = BothValid IsAimed IsGone

abbrev pub aimed_gone_bytes : (((Bool × FactParts) × Option CapTerms) × List (List Pred)) × Gone → List ℕ
aimed_gone_bytes = both_bytes aimed_bytes gone_bytes

abbrev pub kept_from : ((Bool × FactParts) × Option CapTerms) × List (List Pred) → Gone → KeptCampaign
kept_from p gone = record { live = p.0.0.0; facts = with_cap p.0.1 p.0.0.1; expr = p.1; gone = gone }

-- the effect of that moment, unless the change is of a compacted journal and the moment is not 0
abbrev pub effect_with : ℕ → Change → Option Effect
effect_with moment change = if is_kept change && not (moment == 0) then None else Some (record { moment = moment; change = change })
