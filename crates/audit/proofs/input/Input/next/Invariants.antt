use Rattle.std.proofs.Common.{◌≡◌}
use Rattle.audit.specs.Inputs.{Comes}
use Rattle.audit.proofs.input.Input.next.Given as goal

abbrev pub invariant-loop : goal.invariant-loop
invariant-loop g l = record {
  comes : Comes (g.S.Source.left l.fn.source) (g.S.Source.left l.source) l.fn.self l.self;
  faults : g.S.Source.faults l.source ≡ g.S.Source.faults l.fn.source;
}
