use Rattle.std.proofs.Common.{◌≡◌}
use Rattle.follower.specs.Doors.{ServesReports}
use Rattle.follower.proofs.door.serve_reports.Given as goal

abbrev pub invariant-loop : goal.invariant-loop
invariant-loop g l = record {
  served : ServesReports g.D.Disk g.G.Link.Link l.fn.follower (g.G.Door.held l.fn.door) l.follower (g.G.Door.held l.door);
  faults : g.G.Door.faults l.door ≡ g.G.Door.faults l.fn.door;
}
