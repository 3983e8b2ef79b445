use Rattle.std.proofs.Common.{◌-◌, length}
use Rattle.budget_book.proofs.ahead.+release_below.Given as goal

abbrev pub decreases-release_below : goal.decreases-release_below
decreases-release_below l = length l.dues.now - l.place
