use Rattle.std.proofs.Common.{◌≡◌, ◌+◌, ◌≤◌, ◌^◌, take, Some}
use Rattle.plain_exchange.specs.Effects.{all_applied, edits}
use Rattle.compaction.proofs.carrying.apply_all.Given as goal

abbrev pub invariant-loop-effect : goal.invariant-loop-effect
invariant-loop-effect l = record {
  after : all_applied (take l.effect-index l.effects) l.fn.core.state ≡ Some l.core.state;
  edits_are : l.core.edits ≡ l.fn.core.edits + edits (take l.effect-index l.effects);
  few : l.fn.core.edits ≤ 2 ^ 61 → l.core.edits ≤ 2 ^ 61;
}
