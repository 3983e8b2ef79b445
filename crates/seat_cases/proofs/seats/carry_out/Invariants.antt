use Rattle.exchange_shared.specs.Seats.{lock_of}
use Rattle.seat_cases.specs.Hands.{GoesOn}
use Rattle.seat_cases.proofs.seats.carry_out.Given as goal

abbrev pub invariant-loop : goal.invariant-loop
invariant-loop g l = GoesOn (lock_of l.exchange) l.initial.hand l.hand
