use Rattle.std.proofs.Common.{◌-◌, length}
use Rattle.budget_book.proofs.ahead.+count_below.Given as goal

abbrev pub decreases-count_below : goal.decreases-count_below
decreases-count_below l = length l.dues.now - l.place
