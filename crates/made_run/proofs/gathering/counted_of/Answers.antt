use Rattle.std.proofs.Common.{refl}
use Rattle.made_run.proofs.SoFar.{counted_so}
use Rattle.made_run.proofs.gathering.counted_of.Goals as goal

pub returns-in-Ok : goal.returns-in-Ok
returns-in-Ok c = λ start n is. let (far, reserved) = rw c.in-Ok.is at is in counted_so start n c.args.gathering _ far c.new.ensures refl refl reserved
