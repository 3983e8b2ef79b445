use Rattle.clearing.proofs.Fronts.{front_asked, front_filtered}
use Rattle.clearing.proofs.fronts_are_passed.Goals as goal

pub returns : goal.returns
returns c = λ may os k h. (front_filtered may os k h, front_asked may os k h)
