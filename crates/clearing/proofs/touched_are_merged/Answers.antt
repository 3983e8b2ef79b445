use Rattle.clearing.proofs.Touched.{merged}
use Rattle.clearing.proofs.touched_are_merged.Goals as goal

pub returns : goal.returns
returns c = merged
