use Rattle.exchange_shared.specs.Seats.{lock_of}
use Rattle.seat_cases.specs.Hands.{AreTwo}
use Rattle.seat_cases.proofs.session.run_until_end.Given as goal

abbrev pub invariant-loop-command : goal.invariant-loop-command
invariant-loop-command g l = AreTwo (lock_of l.exchange) l.two
