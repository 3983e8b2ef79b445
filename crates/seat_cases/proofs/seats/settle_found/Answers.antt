use Rattle.std.proofs.Common.{IfOk, OnErr, subst}
use Rattle.exchange_shared.specs.Seats.{Calls, Waits}
use Rattle.plain_exchange.specs.declared.commands.Command.TheVariants.{Auction}
use Rattle.seat_cases.proofs.Hands.{goes_calling, goes_waiting}
use Rattle.seat_cases.proofs.seats.settle_found.Goals as goal

pub returns-in-Ok : goal.returns-in-Ok
returns-in-Ok g c =
    goes_calling _ c.args.hand c.settle-seat.result.0 (Auction c.args.found.asked) 1000 c.in-Ok.settled c.settle-seat.ensures.seat
    (subst (λ r. IfOk r (Calls (Auction c.args.found.asked) 1000 c.args.hand.seat c.settle-seat.result.0)) c.in-Ok.is c.settle-seat.ensures.settled)

pub returns-in-Err : goal.returns-in-Err
returns-in-Err g c =
    goes_waiting _ c.args.hand c.settle-seat.result.0 c.settle-seat.ensures.seat c.requires.hand
    (subst (λ r. OnErr r (Waits c.args.hand.seat c.settle-seat.result.0)) c.in-Err.is c.settle-seat.ensures.unsettled)
