use Rattle.std.proofs.Common.{[], subst}
use Rattle.std.specs.Prelude.{IfOk, OnErr}
use Rattle.door_worker.specs.Answers.{Goes}
use Rattle.door_worker.specs.Working.{Entered}
use Rattle.door_worker.proofs.Answering.{entered_at}
use Rattle.door_worker.proofs.Going.{goes_none, goes_on}
use Rattle.door_worker.proofs.messages.enter.Goals as goal

pub loop-init : goal.loop-init
loop-init g c = (c.requires.seat, goes_none _ c.requires.seat.free)

pub returns-in-Ok-clause-entered : goal.returns-in-Ok-clause-entered
returns-in-Ok-clause-entered g c =
    let m = c.loop.seat in
    let t = c.enter_once-now.result.0 in
    entered_at _ _ c.args.seat m t c.in-Ok.settled c.loop.invariant.1 (subst (λ r. IfOk r (Entered c.args.command.now c.args.moment m t)) c.in-Ok.is c.enter_once-now.ensures.entered)

pub returns-in-Err-Memory-clause-none : goal.returns-in-Err-Memory-clause-none
returns-in-Err-Memory-clause-none g c =
    let m = c.loop.seat in
    let t = c.enter_once-now.result.0 in
    goes_on [] [] 0 0 c.args.seat m t c.loop.invariant.1 (subst (λ r. OnErr r (Goes [] 0 m t)) c.in-Err-Memory.is c.enter_once-now.ensures.none)

pub loop-preserved : goal.loop-preserved
loop-preserved g c =
    let m = c.loop.seat in
    let t = c.enter_once-now.result.0 in
    (c.enter_once-now.ensures.seat, goes_on [] [] 0 0 c.args.seat m t c.loop.invariant.1 (subst (λ r. OnErr r (Goes [] 0 m t)) c.in-Err-Held.is c.enter_once-now.ensures.none))
