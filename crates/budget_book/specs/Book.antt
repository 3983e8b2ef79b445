-- What contracts see of a book, and what is always true of one.
use Rattle.std.specs.Prelude.{◌≡◌, false, ℕ, ◌+◌, ◌*◌, ◌<◌, ◌≤◌, ◌^◌, List, length, map, sum_by}
use Rattle.std.specs.List.{enumerate_from}
use Rattle.std.proofs.Common.{get_or}
use Rattle.budget_book.specs.declared.account.Account.{Account}
use Rattle.budget_book.specs.declared.dues.Due.{Due}
use Rattle.budget_book.specs.declared.sales.Gone.{Gone}
use Rattle.budget_book.specs.declared.sales.SaleRow.{SaleRow}
use Rattle.budget_book.specs.Accounts.{AreAccounts}
use Rattle.budget_book.specs.Dues.{AreDues}
use Rattle.budget_book.specs.Sales.{gone_count, gone_with, is_held}
use Rattle.budget_book.specs.Users.{AreChains, places_of}

-- the budget of a campaign, and what is gone of it
pub record Funds : Type 0 where
  pub budget : ℕ
  pub gone : Gone

-- the campaigns in their order, the sales in theirs, and for how many more of both there is room
pub record BookState : Type 0 where
  pub campaigns : List Funds
  pub sales : List SaleRow
  pub sale_room : ℕ
  pub campaign_room : ℕ

-- once there are places for the last sales to users, there is room for any number of sales in them
abbrev pub user_room : List ℕ → ℕ
user_room lasts = length lasts * 2 ^ 32

-- how many sales are forgotten
abbrev pub forgotten_of : List Funds → ℕ
forgotten_of campaigns = sum_by (λ (p : Funds). gone_count p.gone) campaigns

abbrev pub funds_of : Account → Funds
funds_of a = record { budget = a.budget; gone = a.gone }

abbrev pub funds_of_all : List Account → List Funds
funds_of_all accounts = map funds_of accounts

-- no more than 2^62 sales are gone of any campaign
abbrev pub AreGoneFew : List Funds → Type 0
AreGoneFew campaigns = (k : ℕ) (d : Funds) → k < length campaigns → gone_count (get_or campaigns k d).gone ≤ 2 ^ 62

abbrev pub AreKnown : ℕ → List SaleRow → Type 0
AreKnown campaigns rows = (k : ℕ) (d : SaleRow) → k < length rows → (0 < (get_or rows k d).campaign) × ((get_or rows k d).campaign ≤ campaigns)

-- none of the first d sales is held
abbrev pub NoneHeld : ℕ → List SaleRow → Type 0
NoneHeld d rows = (k : ℕ) (e : SaleRow) → k < d → k < length rows → is_held (get_or rows k e).state ≡ false

-- the campaigns once these sales are forgotten too
abbrev pub forgotten_in : List SaleRow → List Funds → List Funds
forgotten_in sales campaigns = map (λ (p : ℕ × Funds). record p.1 { gone = gone_with p.0 p.1.gone sales }) (enumerate_from 1 campaigns)

-- to what is gone of each campaign its sales among these came
pub record AreForgotten (rows : List SaleRow) (old new : List Funds) : Type 0 where
  pub many : length new ≡ length old
  pub each : (k : ℕ) (d : Funds) → k < length old → get_or new k d ≡ record { budget = (get_or old k d).budget; gone = gone_with (k + 1) (get_or old k d).gone rows }

pub record IsBook (forgotten : ℕ) (accounts : List Account) (rows : List SaleRow) (links : List ℕ) (dues : List Due) (lasts : List ℕ) : Type 0 where
  pub few : length rows ≤ 67108864
  pub counted : forgotten ≡ forgotten_of (funds_of_all accounts)
  pub few_forgotten : forgotten ≤ 2 ^ 62
  pub known : AreKnown (length accounts) rows
  pub summed : AreAccounts rows accounts
  pub awaited : AreDues forgotten rows dues
  pub chains : AreChains forgotten (places_of rows) links lasts
