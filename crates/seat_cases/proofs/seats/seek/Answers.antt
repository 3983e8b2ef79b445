use Rattle.std.proofs.Common.{IfOk, subst}
use Rattle.exchange_shared.specs.Seats.{Seat}
use Rattle.exchange_state.specs.Tickets.{IsVersionOf, version_in}
use Rattle.exchange_state.specs.Views.{calls}
use Rattle.seat_cases.proofs.Hands.{goes_waiting}
use Rattle.seat_cases.proofs.seats.seek.Goals as goal

pub returns-in-Ok-clause-on : goal.returns-in-Ok-clause-on
returns-in-Ok-clause-on g c = goes_waiting _ c.args.hand c.begin-seat.result.0 c.begin-seat.ensures.seat.0 c.requires.hand c.begin-seat.ensures.seat.1

pub returns-in-Err-clause-on : goal.returns-in-Err-clause-on
returns-in-Err-clause-on g c = goes_waiting _ c.args.hand c.begin-seat.result.0 c.begin-seat.ensures.seat.0 c.requires.hand c.begin-seat.ensures.seat.1

pub returns-in-Ok-clause-sought : goal.returns-in-Ok-clause-sought
returns-in-Ok-clause-sought g c =
    let seat : Seat = c.begin-seat.result.0 in
    record { version = subst (λ r. IfOk r (λ t. IsVersionOf seat.origin (calls seat.seen) (version_in t))) c.in-Ok.is c.begin-seat.ensures.version; valid = c.requires.valid }
