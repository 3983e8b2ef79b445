use Rattle.std.proofs.Common.{◌≡◌, ℕ, List}
use Rattle.compaction.specs.Passing.{WalkedOn}
use Rattle.recovery.specs.Openings.{IsLed}
use Rattle.compaction.proofs.passing.read_blocks.Given as goal

abbrev pub invariant-loop : goal.invariant-loop
invariant-loop g l = record {
  walked : (payloads : List (List ℕ)) × WalkedOn g.D.Disk l.fn.from l.from payloads l.fn.core.state l.core.state l.fn.gate l.gate;
  led : IsLed l.fn.core → IsLed l.core;
  same : g.D.Disk.store l.from ≡ g.D.Disk.store l.fn.from;
  faults : g.D.Disk.faults l.from ≡ g.D.Disk.faults l.fn.from;
}
