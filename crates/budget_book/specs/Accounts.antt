-- What an account keeps of its campaign's sales, so that nobody adds them up.
-- Only private clauses cite this file.
use Rattle.std.specs.Prelude.{◌≡◌, ℕ, ◌+◌, ◌-◌, ◌<◌, ◌≤◌, ◌^◌, List, length, count_by}
use Rattle.std.proofs.Common.{get_or}
use Rattle.budget_book.specs.declared.account.Account.{Account}
use Rattle.budget_book.specs.declared.sales.Gone.{Gone}
use Rattle.budget_book.specs.declared.sales.SaleRow.{SaleRow}
use Rattle.budget_book.specs.declared.sales.SaleState.{SaleState}
use Rattle.budget_book.specs.declared.sales.SaleState.TheVariants.{Held, Billed, Lost, Expired}
use Rattle.budget_book.specs.Sales.{is_held_of, is_billed_of, is_lost_of, is_expired_of, prices}

-- the account of campaign c, and the sales
pub record IsAccount (c : ℕ) (rows : List SaleRow) (a : Account) : Type 0 where
  pub reserved : a.reserved ≡ prices (is_held_of c) rows
  pub spent : a.spent ≡ a.gone.spent + prices (is_billed_of c) rows
  pub held : a.held ≡ count_by (is_held_of c) rows
  pub billed : a.billed ≡ a.gone.billed + count_by (is_billed_of c) rows
  pub lost : a.lost ≡ a.gone.lost + count_by (is_lost_of c) rows
  pub expired : a.expired ≡ a.gone.expired + count_by (is_expired_of c) rows
  pub within : a.reserved + a.spent ≤ a.budget
  pub range : a.budget ≤ 10 ^ 15

-- the accounts, in the order of the campaigns
abbrev pub AreAccounts : List SaleRow → List Account → Type 0
AreAccounts rows accounts = (k : ℕ) (d : Account) → k < length accounts → IsAccount (k + 1) rows (get_or accounts k d)

-- an account after a held sale of that price changes to that state
abbrev pub settled : SaleState → ℕ → Account → Account
settled Held price a = a
settled Billed price a = record a { reserved = a.reserved - price; held = a.held - 1; spent = a.spent + price; billed = a.billed + 1 }
settled Lost price a = record a { reserved = a.reserved - price; held = a.held - 1; lost = a.lost + 1 }
settled Expired price a = record a { reserved = a.reserved - price; held = a.held - 1; expired = a.expired + 1 }

-- an account after one more sale of that price in that state
abbrev pub with_sale : SaleState → ℕ → Account → Account
with_sale Held price a = record a { reserved = a.reserved + price; held = a.held + 1 }
with_sale Billed price a = record a { spent = a.spent + price; billed = a.billed + 1 }
with_sale Lost price a = record a { lost = a.lost + 1 }
with_sale Expired price a = record a { expired = a.expired + 1 }

-- what of a sale in that state counts against the budget
abbrev pub charge : SaleState → ℕ → ℕ
charge Held price = price
charge Billed price = price
charge Lost price = 0
charge Expired price = 0

-- the account of a new campaign, of which so much is gone
abbrev pub fresh : ℕ → Gone → Account
fresh budget gone = record {
  budget = budget;
  gone = gone;
  reserved = 0;
  spent = gone.spent;
  held = 0;
  billed = gone.billed;
  lost = gone.lost;
  expired = gone.expired;
}

-- what is gone once one more sale in that state, of that price, is forgotten
abbrev pub gone_more : SaleState → ℕ → Gone → Gone
gone_more Held price g = g
gone_more Billed price g = record g { spent = g.spent + price; billed = g.billed + 1 }
gone_more Lost price g = record g { lost = g.lost + 1 }
gone_more Expired price g = record g { expired = g.expired + 1 }

abbrev pub with_budget : ℕ → Account → Account
with_budget budget a = record a { budget = budget }

abbrev pub with_gone : Gone → Account → Account
with_gone gone a = record a { gone = gone }
