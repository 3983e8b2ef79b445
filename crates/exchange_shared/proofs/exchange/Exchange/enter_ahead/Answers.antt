use Rattle.exchange_shared.proofs.Changes.{entered_by, still_waits}
use Rattle.exchange_shared.proofs.Seats.{lent, ordered_at}
use Rattle.exchange_shared.proofs.exchange.Exchange.enter_ahead.Goals as goal

pub leave_acted-seat-requires-clause-value : goal.leave_acted-seat-requires-clause-value
leave_acted-seat-requires-clause-value g c =
    (c.in-Some-enter_ahead.ensures.entered c.enter-now.result.0.origin c.enter-now.result.0.seen c.enter-now.result.0.worker (lent _ _ _ _ c.deref_mut.ensures.value c.enter-now.ensures.value)).stands

pub returns-in-Some-enter_ahead-clause-entered : goal.returns-in-Some-enter_ahead-clause-entered
returns-in-Some-enter_ahead-clause-entered g c e h =
    let s = lent _ _ _ _ c.deref_mut.ensures.value c.enter-now.ensures.value in
    entered_by _ c.args.seat c.loop.seat c.enter-now.result.0 c.leave_acted-seat.result _ _ e _ _ c.in-Some-enter_ahead.settled h c.loop.invariant.2 c.enter-now.ensures.seat s
    (c.in-Some-enter_ahead.ensures.entered c.enter-now.result.0.origin c.enter-now.result.0.seen c.enter-now.result.0.worker s)
    (λ k is. c.in-Some-enter_ahead.ensures.ahead c.enter-now.result.0.origin c.enter-now.result.0.seen k s is) c.leave_acted-seat.ensures

pub returns-in-Some-enter_ahead-clause-order : goal.returns-in-Some-enter_ahead-clause-order
returns-in-Some-enter_ahead-clause-order g c =
    ordered_at _ c.enter-now.result.0 _ _
    (c.in-Some-enter_ahead.ensures.entered c.enter-now.result.0.origin c.enter-now.result.0.seen c.enter-now.result.0.worker (lent _ _ _ _ c.deref_mut.ensures.value c.enter-now.ensures.value)).stands c.leave_acted-seat.ensures

pub leave-seat-requires-clause-value : goal.leave-seat-requires-clause-value
leave-seat-requires-clause-value g c =
    c.enter_ahead.ensures.none c.enter-now.result.0.origin c.enter-now.result.0.seen (lent _ _ _ _ c.deref_mut.ensures.value c.enter-now.ensures.value) c.in-None-enter_ahead.is

pub loop-preserved : goal.loop-preserved
loop-preserved g c = still_waits _ c.args.seat c.loop.seat c.enter-now.result.0 _ c.loop.invariant c.enter-now.ensures.seat c.leave-seat.ensures
