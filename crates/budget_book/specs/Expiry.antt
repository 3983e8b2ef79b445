-- Sales that expired, one after the other, up to a moment.
-- Only private clauses cite this file.
use Rattle.std.specs.Prelude.{◌≡◌, ℕ, ◌+◌, List, length}
use Rattle.budget_book.specs.declared.sales.SaleRow.{SaleRow}
use Rattle.budget_book.specs.Book.{AreKnown}
use Rattle.budget_book.specs.Sales.{due_count, expired}
use Rattle.budget_book.specs.Users.{places_of}

-- n held sales that were due by the moment expired
pub record IsExpiry (moment : ℕ) (old new : List SaleRow) (n : ℕ) : Type 0 where
  pub same : expired moment new ≡ expired moment old
  pub counted : n + due_count moment new ≡ due_count moment old
  pub places : places_of new ≡ places_of old
  pub many : length new ≡ length old
  pub known : (campaigns : ℕ) → AreKnown campaigns old → AreKnown campaigns new
