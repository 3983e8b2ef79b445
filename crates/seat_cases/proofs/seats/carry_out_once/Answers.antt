use Rattle.std.proofs.Common.{IfOk, OnErr, subst}
use Rattle.exchange_shared.specs.Seats.{Calls, Waits}
use Rattle.seat_cases.proofs.Hands.{goes_calling, goes_waiting}
use Rattle.plain_exchange.specs.declared.commands.Command.TheVariants.{Act}
use Rattle.seat_cases.proofs.seats.carry_out_once.Goals as goal

pub returns-in-Ok : goal.returns-in-Ok
returns-in-Ok g c =
    goes_calling _ c.args.hand c.simple-seat.result.0 (Act c.args.act.now) 1000 c.in-Ok.settled c.simple-seat.ensures.seat
    (subst (λ r. IfOk r (Calls (Act c.args.act.now) 1000 c.args.hand.seat c.simple-seat.result.0)) c.in-Ok.is c.simple-seat.ensures.settled)

pub returns-in-Err : goal.returns-in-Err
returns-in-Err g c =
    goes_waiting _ c.args.hand c.simple-seat.result.0 c.simple-seat.ensures.seat c.requires.hand
    (subst (λ r. OnErr r (Waits c.args.hand.seat c.simple-seat.result.0)) c.in-Err.is c.simple-seat.ensures.unsettled)
