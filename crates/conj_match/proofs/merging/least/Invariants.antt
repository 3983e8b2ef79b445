use Rattle.std.proofs.Common.{take}
use Rattle.conj_match.specs.Merge.{IsLeast}
use Rattle.conj_match.proofs.merging.least.Given as goal

abbrev pub invariant-loop-cursor : goal.invariant-loop-cursor
invariant-loop-cursor l = IsLeast (take l.cursor-index l.cursors) l.least
