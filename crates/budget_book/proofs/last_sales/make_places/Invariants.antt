use Rattle.std.proofs.Common.{◌≡◌, ◌≤◌}
use Rattle.budget_book.specs.LastSales.{AreNone}
use Rattle.budget_book.proofs.last_sales.make_places.Given as goal

abbrev pub invariant-loop : goal.invariant-loop
invariant-loop l = record {
  many : l.numbers.len ≡ l.counter;
  room : 1048576 ≤ l.numbers.cap;
  none : AreNone l.numbers.items;
}
