use Rattle.std.proofs.Common.{subst}
use Rattle.std.specs.Prelude.{IfOk, OnErr}
use Rattle.exchange_shared.specs.Seats.{Changes, Waits}
use Rattle.seat_cases.proofs.Hands.{goes_landing, goes_waiting}
use Rattle.plain_exchange.specs.declared.commands.Command.TheVariants.{Act}
use Rattle.seat_cases.proofs.seats.change.Goals as goal

pub returns-in-Ok-Durable : goal.returns-in-Ok-Durable
returns-in-Ok-Durable g c =
    let t = c.change-seat.result.0 in
    let at = Changes (Act c.args.act.now) 1000 c.args.hand.seat t in
    let lands = subst at c.in-Ok-Durable.field-0-is (subst (λ r. IfOk r at) c.in-Ok-Durable.is c.change-seat.ensures.changed) in
    goes_landing _ c.args.hand t (Act c.args.act.now) 1000 c.in-Ok-Durable.settled _ c.change-seat.ensures.seat lands

pub returns-in-Ok-StoreFailed : goal.returns-in-Ok-StoreFailed
returns-in-Ok-StoreFailed g c =
    let t = c.change-seat.result.0 in
    let at = Changes (Act c.args.act.now) 1000 c.args.hand.seat t in
    let lands = subst at c.in-Ok-StoreFailed.field-0-is (subst (λ r. IfOk r at) c.in-Ok-StoreFailed.is c.change-seat.ensures.changed) in
    goes_landing _ c.args.hand t (Act c.args.act.now) 1000 c.in-Ok-StoreFailed.settled _ c.change-seat.ensures.seat lands

pub returns-in-Ok-NotAlone : goal.returns-in-Ok-NotAlone
returns-in-Ok-NotAlone g c =
    let t = c.change-seat.result.0 in
    let at = Changes (Act c.args.act.now) 1000 c.args.hand.seat t in
    let waits = subst at c.in-Ok-NotAlone.field-0-is (subst (λ r. IfOk r at) c.in-Ok-NotAlone.is c.change-seat.ensures.changed) in
    goes_waiting _ c.args.hand t c.change-seat.ensures.seat c.requires.hand waits.0

pub returns-in-Err : goal.returns-in-Err
returns-in-Err g c =
    let t = c.change-seat.result.0 in
    goes_waiting _ c.args.hand t c.change-seat.ensures.seat c.requires.hand (subst (λ r. OnErr r (Waits c.args.hand.seat t)) c.in-Err.is c.change-seat.ensures.none)
