use Rattle.std.proofs.Common.{[], inr, subst}
use Rattle.std.specs.Prelude.{IfOk, OnErr}
use Rattle.door_worker.specs.Answers.{Goes}
use Rattle.door_worker.specs.Languages.{rtb}
use Rattle.door_worker.specs.Working.{Entered}
use Rattle.door_worker.proofs.Answering.{answered, unanswered}
use Rattle.door_worker.proofs.messages.answer_in_turn.Goals as goal

pub returns-in-Ok-clause-answers : goal.returns-in-Ok-clause-answers
returns-in-Ok-clause-answers g c = λ message read.
    let m = c.enter-seat.result.0 in
    let entered = subst (λ r. IfOk r (Entered c.args.command.now c.args.moment c.args.seat m)) c.in-Ok.is c.enter-seat.ensures.entered in
    answered (rtb c.args.tools.now.public.now c.args.tools.now.keys.now) c.args.moment c.args.command.now message c.in-Ok.settled c.args.seat m c.conclude.result.0 c.conclude.result.1 read entered.goes c.conclude.ensures.concluded (inr c.conclude.ensures.order.rising)

pub conclude-requires-clause-upto : goal.conclude-requires-clause-upto
conclude-requires-clause-upto g c =
    let m = c.enter-seat.result.0 in
    let entered = subst (λ r. IfOk r (Entered c.args.command.now c.args.moment c.args.seat m)) c.in-Ok.is c.enter-seat.ensures.entered in
    entered.upto

pub conclude-requires-clause-durable : goal.conclude-requires-clause-durable
conclude-requires-clause-durable g c =
    let m = c.enter-seat.result.0 in
    let entered = subst (λ r. IfOk r (Entered c.args.command.now c.args.moment c.args.seat m)) c.in-Ok.is c.enter-seat.ensures.entered in
    entered.durable

pub returns-in-Err-clause-answers : goal.returns-in-Err-clause-answers
returns-in-Err-clause-answers g c = λ message read.
    let m = c.enter-seat.result.0 in
    unanswered (rtb c.args.tools.now.public.now c.args.tools.now.keys.now) c.args.moment message c.args.seat m (subst (λ r. OnErr r (Goes [] 0 c.args.seat m)) c.in-Err.is c.enter-seat.ensures.none) (inr c.enter-seat.ensures.order.rising)
