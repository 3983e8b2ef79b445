use Rattle.std.proofs.Common.{rules}
use Rattle.clearing.proofs.Offer.beats.Goals as goal

pub returns-then-ne : goal.returns-then-ne
returns-then-ne c = search rules

pub returns-then-self-other : goal.returns-then-self-other
returns-then-self-other c = search rules

pub returns : goal.returns
returns c = search rules
