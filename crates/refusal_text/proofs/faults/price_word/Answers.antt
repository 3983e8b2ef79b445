use Rattle.std.proofs.Common.{rules}
use Rattle.refusal_text.proofs.faults.price_word.Goals as goal

pub returns-in-TooFine : goal.returns-in-TooFine
returns-in-TooFine c = search rules
