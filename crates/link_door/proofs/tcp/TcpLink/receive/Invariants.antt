use Rattle.std.proofs.Common.{◌≡◌}
use Rattle.link_door.proofs.tcp.TcpLink.receive.Given as goal

abbrev pub invariant-loop : goal.invariant-loop
invariant-loop g l = l.self.faults ≡ l.fn.self.faults
