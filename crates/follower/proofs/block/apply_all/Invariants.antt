use Rattle.std.proofs.Common.{take}
use Rattle.follower.specs.Following.{Lead}
use Rattle.follower.proofs.block.apply_all.Given as goal

abbrev pub invariant-loop-effect : goal.invariant-loop-effect
invariant-loop-effect l = record {
  lead : Lead l.fn.core.state l.core.state l.fn.count l.count (take l.effect-index l.effects);
}
