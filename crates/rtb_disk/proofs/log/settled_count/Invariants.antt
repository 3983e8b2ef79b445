use Rattle.rtb_disk.proofs.Crashing.{IsSplit}
use Rattle.rtb_disk.proofs.log.settled_count.Given as goal

abbrev pub invariant-loop-i : goal.invariant-loop-i
invariant-loop-i l = IsSplit l.made l.i l.count
