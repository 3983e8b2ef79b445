use Rattle.std.proofs.Common.{◌≡◌, ℕ, ◌+◌, ◌≤◌, length, take}
use Rattle.std.specs.Prelude.{count_by}
use Rattle.budget_book.specs.LastSales.{place_of}
use Rattle.budget_book.specs.Users.{places_of, last_below}
use Rattle.budget_book.proofs.Chained.{is_counted}
use Rattle.budget_book.proofs.users.count_shown.Given as goal

abbrev pub invariant-loop-nth : goal.invariant-loop-nth
invariant-loop-nth l = record {
  counted : l.count + count_by (is_counted l.ask.campaign l.ask.user.now l.ask.seconds l.ask.moment) (take l.nth l.rows.items) ≡ count_by (is_counted l.ask.campaign l.ask.user.now l.ask.seconds l.ask.moment) l.rows.items;
  at : (k : ℕ) × (k ≤ length l.rows.items) × (l.nth ≡ last_below (place_of l.ask.campaign l.ask.user.now) (places_of l.rows.items) k);
}

abbrev pub decreases-loop-nth : goal.decreases-loop-nth
decreases-loop-nth l = l.nth
