use Rattle.std.proofs.Common.{◌≡◌, ◌+◌, drop, length, take}
use Rattle.budget_book.specs.Accounts.{AreAccounts}
use Rattle.budget_book.specs.Book.{AreForgotten, forgotten_of, funds_of_all}
use Rattle.budget_book.proofs.forgetting.add_gone.Given as goal

abbrev pub invariant-loop-place : goal.invariant-loop-place
invariant-loop-place l = record {
  many : length l.accounts ≡ length l.fn.accounts;
  summed : AreAccounts (drop l.place l.rows.items) l.accounts;
  counted : forgotten_of (funds_of_all l.accounts) ≡ forgotten_of (funds_of_all l.fn.accounts) + l.place;
  campaigns : AreForgotten (take l.place l.rows.items) (funds_of_all l.fn.accounts) (funds_of_all l.accounts);
}
