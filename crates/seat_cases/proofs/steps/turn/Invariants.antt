use Rattle.exchange_shared.specs.Seats.{lock_of}
use Rattle.seat_cases.specs.Hands.{GoesOn}
use Rattle.seat_cases.proofs.steps.turn.Given as goal

abbrev pub invariant-loop-i : goal.invariant-loop-i
invariant-loop-i g l = GoesOn (lock_of l.exchange) l.initial.hand l.hand
