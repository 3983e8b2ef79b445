-- The bytes of effects: the moment in eight bytes, the tag in one, and what the tag says. Numbers have
-- their greatest place first.
use Rattle.std.specs.Prelude.{◌≡◌, ℕ, ◌≤◌, ◌^◌, List, [], ◌++◌, length, All, IsTrue, Bool, true, false, Option, Some, None, Result, Ok, Err}
use Rattle.std.specs.List.{flat_map}
use Rattle.budget_book.specs.declared.sales.Gone.{Gone}
use Rattle.budget_book.specs.declared.sales.SaleRow.{SaleRow}
use Rattle.budget_book.specs.declared.sales.SaleState.{SaleState}
use Rattle.byte_fields.specs.Encodings.{FitsFour, FitsEight, IsOptionOf, byte_bytes, four_bytes, eight_bytes, flag_bytes, option_bytes, text_bytes}
use Rattle.campaign.specs.Caps.{CapTerms, is_cap}
use Rattle.campaign.specs.Encoding.{facts_bytes}
use Rattle.campaign.specs.Kept.{IsKept}
use Rattle.campaign.specs.declared.parts.FactParts.{FactParts}
use Rattle.effects.specs.Tags.{number_of, tag_of}
use Rattle.effects.specs.declared.fault.EffectFault.{EffectFault}
use Rattle.plain_exchange.specs.declared.changes.Change.{Change}
use Rattle.plain_exchange.specs.declared.changes.Effect.{Effect}
use Rattle.plain_exchange.specs.declared.changes.KeptCampaign.{KeptCampaign}
use Rattle.plain_exchange.specs.declared.changes.SoldItem.{SoldItem}
use Rattle.target_expr.specs.Bytes.{IsEncodable as IsExpr, expr_bytes}
use Rattle.target_expr.specs.declared.pred.Pred.{Pred}

-- ---- the parts of changes

-- at most 10^15 nano-dollars
abbrev pub IsAmount : ℕ → Type 0
IsAmount n = n ≤ 10 ^ 15

pub record IsItem (i : SoldItem) : Type 0 where
  pub campaign : FitsFour i.campaign
  pub price : IsAmount i.price
  pub due : FitsEight i.due

abbrev pub item_bytes : SoldItem → List ℕ
item_bytes i = four_bytes i.campaign ++ eight_bytes i.price ++ eight_bytes i.due

-- one request has 1 to 64 impressions to sell
abbrev pub AreSome : List SoldItem → Type 0
AreSome items = (1 ≤ length items) × (length items ≤ 64)

abbrev pub AreItems : List SoldItem → Type 0
AreItems items = AreSome items × All IsItem items

-- how many in one byte, and then each
abbrev pub items_bytes : List SoldItem → List ℕ
items_bytes items = byte_bytes (length items) ++ flat_map item_bytes items

-- 1 to 255 bytes
abbrev pub IsUser : List ℕ → Type 0
IsUser user = (1 ≤ length user) × (length user ≤ 255)

abbrev pub IsCap : CapTerms → Type 0
IsCap c = IsTrue (is_cap c.count c.seconds)

abbrev pub terms_bytes : CapTerms → List ℕ
terms_bytes c = four_bytes c.count ++ four_bytes c.seconds

-- a cap where the tag tells whether there is one
abbrev pub cap_bytes : Option CapTerms → List ℕ
cap_bytes None = []
cap_bytes (Some c) = terms_bytes c

-- facts and an expression
pub record IsRecord (facts : FactParts) (expr : List (List Pred)) : Type 0 where
  pub facts_kept : IsKept facts
  pub cap : IsOptionOf IsCap facts.cap
  pub expr_kept : IsExpr expr

abbrev pub record_bytes : FactParts → List (List Pred) → List ℕ
record_bytes facts expr = facts_bytes facts ++ cap_bytes facts.cap ++ expr_bytes expr

pub record IsGone (g : Gone) : Type 0 where
  pub spent : IsAmount g.spent
  pub billed : FitsEight g.billed
  pub lost : FitsEight g.lost
  pub expired : FitsEight g.expired

abbrev pub gone_bytes : Gone → List ℕ
gone_bytes g = eight_bytes g.spent ++ eight_bytes g.billed ++ eight_bytes g.lost ++ eight_bytes g.expired

abbrev pub kept_bytes : KeptCampaign → List ℕ
kept_bytes k = flag_bytes k.live ++ facts_bytes k.facts ++ option_bytes terms_bytes k.facts.cap ++ expr_bytes k.expr ++ gone_bytes k.gone

abbrev pub state_number : SaleState → ℕ
state_number SaleState.Held = 0
state_number SaleState.Billed = 1
state_number SaleState.Lost = 2
state_number SaleState.Expired = 3

pub record IsRow (r : SaleRow) : Type 0 where
  pub campaign : FitsFour r.campaign
  pub price : IsAmount r.price
  pub moment : FitsEight r.moment
  pub due : FitsEight r.due
  pub user : IsOptionOf IsUser r.user

abbrev pub row_bytes : SaleRow → List ℕ
row_bytes r = four_bytes r.campaign ++ eight_bytes r.price ++ eight_bytes r.moment ++ eight_bytes r.due ++ byte_bytes (state_number r.state) ++ option_bytes text_bytes r.user

-- ---- changes

-- all parts are within their ranges
abbrev pub IsChange : Change → Type 0
IsChange Change.Swept = Unit {0}
IsChange (Change.Sold items) = AreItems items
IsChange (Change.Added facts expr) = IsRecord facts expr
IsChange (Change.Changed n facts expr) = FitsFour n × IsRecord facts expr
IsChange (Change.Paused n) = FitsFour n
IsChange (Change.Resumed n) = FitsFour n
IsChange (Change.Billed n) = FitsEight n
IsChange (Change.Lost n) = FitsEight n
IsChange (Change.SoldTo user items) = IsUser user × AreItems items
IsChange (Change.Kept k) = IsRecord k.facts k.expr × IsGone k.gone
IsChange (Change.KeptSale row) = IsRow row
IsChange (Change.Forgot n) = FitsEight n

-- what stands behind the tag
abbrev pub body_bytes : Change → List ℕ
body_bytes Change.Swept = []
body_bytes (Change.Sold items) = items_bytes items
body_bytes (Change.Added facts expr) = record_bytes facts expr
body_bytes (Change.Changed n facts expr) = four_bytes n ++ record_bytes facts expr
body_bytes (Change.Paused n) = four_bytes n
body_bytes (Change.Resumed n) = four_bytes n
body_bytes (Change.Billed n) = eight_bytes n
body_bytes (Change.Lost n) = eight_bytes n
body_bytes (Change.SoldTo user items) = text_bytes user ++ items_bytes items
body_bytes (Change.Kept k) = kept_bytes k
body_bytes (Change.KeptSale row) = row_bytes row
body_bytes (Change.Forgot n) = eight_bytes n

abbrev pub change_bytes : Change → List ℕ
change_bytes c = byte_bytes (number_of (tag_of c)) ++ body_bytes c

-- whether it is of a compacted journal
abbrev pub is_kept : Change → Bool
is_kept (Change.Kept k) = true
is_kept (Change.KeptSale row) = true
is_kept Change.Swept = false
is_kept (Change.Sold items) = false
is_kept (Change.Added facts expr) = false
is_kept (Change.Changed n facts expr) = false
is_kept (Change.Paused n) = false
is_kept (Change.Resumed n) = false
is_kept (Change.Billed n) = false
is_kept (Change.Lost n) = false
is_kept (Change.SoldTo user items) = false
is_kept (Change.Forgot n) = false

-- ---- effects

abbrev pub effect_bytes : Effect → List ℕ
effect_bytes e = eight_bytes e.moment ++ change_bytes e.change

-- what can be encoded and read again; what a compacted journal has is of moment 0
pub record IsEncodable (e : Effect) : Type 0 where
  pub moment : FitsEight e.moment
  pub change : IsChange e.change
  pub kept : is_kept e.change ≡ true → e.moment ≡ 0

-- what of that the types of an effect's parts do not say
abbrev pub HasLengths : Change → Type 0
HasLengths Change.Swept = Unit {0}
HasLengths (Change.Sold items) = AreSome items
HasLengths (Change.Added facts expr) = Unit {0}
HasLengths (Change.Changed n facts expr) = Unit {0}
HasLengths (Change.Paused n) = Unit {0}
HasLengths (Change.Resumed n) = Unit {0}
HasLengths (Change.Billed n) = Unit {0}
HasLengths (Change.Lost n) = Unit {0}
HasLengths (Change.SoldTo user items) = IsUser user × AreSome items
HasLengths (Change.Kept k) = Unit {0}
HasLengths (Change.KeptSale row) = IsOptionOf IsUser row.user
HasLengths (Change.Forgot n) = Unit {0}

-- ---- effects one after another

abbrev pub effects_bytes : List Effect → List ℕ
effects_bytes es = flat_map effect_bytes es

-- the bytes from the place on begin with no effect, and are not at their end
pub record IsTorn (bytes : List ℕ) (at : ℕ) : Type 0 where
  pub before : List Effect
  pub rest : List ℕ
  pub encodable : All IsEncodable before
  pub split : bytes ≡ effects_bytes before ++ rest
  pub place : at ≡ length (effects_bytes before)
  pub some : 1 ≤ length rest
  pub none : (e : Effect) (more : List ℕ) → IsEncodable e → rest ≡ effect_bytes e ++ more → ⊥

-- what is decoded: the effects whose bytes these are; torn where the first part begins that is no effect
abbrev pub IsDecoded : List ℕ → Result (List Effect) EffectFault → Type 0
IsDecoded bytes (Ok es) = All IsEncodable es × (bytes ≡ effects_bytes es)
IsDecoded bytes (Err (EffectFault.Torn at)) = IsTorn bytes at
IsDecoded bytes (Err EffectFault.Memory) = Unit {0}
