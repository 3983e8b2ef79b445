use Rattle.std.proofs.Common.{rules}
use Rattle.run_words.proofs.matched.fault.Goals as goal

pub returns-in-OutOfMemory : goal.returns-in-OutOfMemory
returns-in-OutOfMemory c = search rules
