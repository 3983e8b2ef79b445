-- Which state a table of campaigns and a book of sales are together.
use Rattle.std.specs.Prelude.{◌≡◌, ℕ, List, map}
use Rattle.std.specs.List.{zip}
use Rattle.budget_book.specs.Book.{Funds}
use Rattle.budget_book.specs.declared.sales.SaleRow.{SaleRow}
use Rattle.campaign_store.specs.declared.listed.Listed.{Listed}
use Rattle.plain_exchange.specs.Consistent.{IsConsistent}
use Rattle.plain_exchange.specs.declared.settings.Settings.{Settings}
use Rattle.plain_exchange.specs.State.{Campaign, State, record_of}

-- the state, how long a sale is held, how many edits made the table, and for how many more sales and
-- campaigns there is room
pub record CoreState : Type 0 where
  pub state : State
  pub settings : Settings
  pub edits : ℕ
  pub sale_room : ℕ
  pub campaign_room : ℕ

-- what a table has of a campaign, and what a book has of it
abbrev pub listed_as : Campaign → Listed
listed_as c = record { entry = record_of c; live = c.live }

abbrev pub funds_for : Campaign → Funds
funds_for c = record { budget = c.facts.budget; gone = c.gone }

abbrev pub listed : State → List Listed
listed s = map listed_as s.campaigns

abbrev pub funds : State → List Funds
funds s = map funds_for s.campaigns

-- the campaign of which they have that
abbrev pub campaign_with : Listed × Funds → Campaign
campaign_with p = record { facts = p.0.entry.facts; expr = p.0.entry.expr; live = p.0.live; gone = p.1.gone }

abbrev pub campaigns_of : List Listed → List Funds → List Campaign
campaigns_of table book = map campaign_with (zip table book)

-- table and book are of one state, to which an exchange can come
pub record IsStateOf (table : List Listed) (book : List Funds) (s : State) : Type 0 where
  pub listing : table ≡ listed s
  pub funding : book ≡ funds s
  pub consistent : IsConsistent s

abbrev pub IsCore : List Listed → List Funds → List SaleRow → Type 0
IsCore table book sales = IsStateOf table book (record { campaigns = campaigns_of table book; sales = sales })
