use Rattle.std.proofs.Common.{rules}
use Rattle.exchange_run.proofs.auction.line_for.Goals as goal

pub returns-in-Sold : goal.returns-in-Sold
returns-in-Sold c = search rules
