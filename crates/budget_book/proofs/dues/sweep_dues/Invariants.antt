use Rattle.std.proofs.Common.{heap_items, heap_len, ◌≡◌, ◌≤◌, length}
use Rattle.std.specs.BinaryHeap.{heap_capacity}
use Rattle.budget_book.specs.Accounts.{AreAccounts}
use Rattle.budget_book.specs.Book.{funds_of_all}
use Rattle.budget_book.specs.Dues.{AreDues}
use Rattle.budget_book.specs.Expiry.{IsExpiry}
use Rattle.budget_book.proofs.dues.sweep_dues.Given as goal

abbrev pub invariant-loop-entry : goal.invariant-loop-entry
invariant-loop-entry l = record {
  expiry : IsExpiry l.moment l.fn.rows.items l.rows.items l.count;
  summed : AreAccounts l.rows.items l.accounts;
  campaigns : funds_of_all l.accounts ≡ funds_of_all l.fn.accounts;
  dues : AreDues l.forgotten l.rows.items (heap_items l.dues);
  capacity : heap_capacity l.dues ≡ heap_capacity l.fn.dues;
  len : heap_len l.dues ≤ heap_len l.fn.dues;
  row_room : (l.rows.cap ≡ l.fn.rows.cap) × (l.rows.len ≡ l.fn.rows.len);
}

abbrev pub decreases-loop-entry : goal.decreases-loop-entry
decreases-loop-entry l = length (heap_items l.dues)
