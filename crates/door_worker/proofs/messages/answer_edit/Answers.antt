use Rattle.std.proofs.Common.{inr, refl, subst, sym}
use Rattle.std.specs.Prelude.{IfOk, IsTrue, OnErr}
use Rattle.auction_core.specs.Draft.{is_valid_command}
use Rattle.door_worker.proofs.Answering.{unanswered}
use Rattle.door_worker.proofs.Going.{goes_waits}
use Rattle.door_worker.proofs.Landing.{answered_behind, answered_durable, answered_failed}
use Rattle.exchange_shared.specs.Seats.{Changes, Waits}
use Rattle.plain_exchange.specs.declared.commands.Command.{Command}
use Rattle.door_worker.proofs.messages.answer_edit.Goals as goal

pub answer_in_turn-requires-clause-valid : goal.answer_in_turn-requires-clause-valid
answer_in_turn-requires-clause-valid g c = subst (λ (k : Command). IsTrue (is_valid_command k)) (sym c.requires.acts) refl

pub returns-in-Ok-Durable-clause-answers : goal.returns-in-Ok-Durable-clause-answers
returns-in-Ok-Durable-clause-answers g c = λ message read.
    let m = c.change-seat.result.0 in
    let at = Changes c.args.command.now c.args.moment c.args.seat m in
    let changed = subst (λ (k : Command). IfOk c.change-seat.result.1 (Changes k c.args.moment c.args.seat m)) (sym c.requires.acts) c.change-seat.ensures.changed in
    let lands = subst at c.in-Ok-Durable.field-0-is (subst (λ r. IfOk r at) c.in-Ok-Durable.is changed) in
    answered_durable _ c.args.moment _ message c.in-Ok-Durable.settled c.args.seat m c.tell_edit.result.0 c.tell_edit.result.1 read lands c.tell_edit.ensures.told c.tell_edit.ensures.order.rising

pub returns-in-Ok-StoreFailed-clause-answers : goal.returns-in-Ok-StoreFailed-clause-answers
returns-in-Ok-StoreFailed-clause-answers g c = λ message read.
    let m = c.change-seat.result.0 in
    let at = Changes c.args.command.now c.args.moment c.args.seat m in
    let changed = subst (λ (k : Command). IfOk c.change-seat.result.1 (Changes k c.args.moment c.args.seat m)) (sym c.requires.acts) c.change-seat.ensures.changed in
    let lands = subst at c.in-Ok-StoreFailed.field-0-is (subst (λ r. IfOk r at) c.in-Ok-StoreFailed.is changed) in
    answered_failed _ c.args.moment _ message c.in-Ok-StoreFailed.settled c.args.seat m read lands c.change-seat.ensures.order.rising

pub returns-in-Ok-NotAlone-clause-answers : goal.returns-in-Ok-NotAlone-clause-answers
returns-in-Ok-NotAlone-clause-answers g c = λ message read.
    let m = c.change-seat.result.0 in
    let at = Changes c.args.command.now c.args.moment c.args.seat m in
    let changed = subst (λ (k : Command). IfOk c.change-seat.result.1 (Changes k c.args.moment c.args.seat m)) (sym c.requires.acts) c.change-seat.ensures.changed in
    let waits = subst at c.in-Ok-NotAlone.field-0-is (subst (λ r. IfOk r at) c.in-Ok-NotAlone.is changed) in
    answered_behind _ c.args.moment message c.answer_in_turn.result.1 c.args.seat m c.answer_in_turn.result.0 waits.0 c.change-seat.ensures.order.rising (c.answer_in_turn.ensures.answers message read)

pub returns-in-Err-clause-answers : goal.returns-in-Err-clause-answers
returns-in-Err-clause-answers g c = λ message read.
    let m = c.change-seat.result.0 in
    let waits = subst (λ r. OnErr r (Waits c.args.seat m)) c.in-Err.is c.change-seat.ensures.none in
    unanswered _ c.args.moment message c.args.seat m (goes_waits c.args.seat m waits) (inr c.change-seat.ensures.order.rising)
