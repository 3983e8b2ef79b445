use Rattle.std.proofs.Common.{◌≡◌}
use Rattle.door_worker.specs.Languages.{rtb}
use Rattle.door_worker.specs.Working.{ServesAt}
use Rattle.door_worker.proofs.door.serve_links.Given as goal

abbrev pub invariant-loop : goal.invariant-loop
invariant-loop g l = record {
  here : l.worker.here ≡ l.initial.worker.here;
  served : ServesAt g.G.Link.Link (rtb l.tools.public.now l.tools.keys.now) l.initial.worker (g.G.Door.held l.initial.door) l.worker (g.G.Door.held l.door);
  faults : g.G.Door.faults l.door ≡ g.G.Door.faults l.initial.door;
}
