use Rattle.clearing.proofs.Walking.{walk_clears}
use Rattle.clearing.proofs.walk_clears.Goals as goal

pub returns : goal.returns
returns c = walk_clears
