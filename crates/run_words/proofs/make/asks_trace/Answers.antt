use Rattle.std.proofs.Common.{rules}
use Rattle.run_words.proofs.make.asks_trace.Goals as goal

pub returns-then-eq : goal.returns-then-eq
returns-then-eq c = search rules
