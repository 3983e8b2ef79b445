use Rattle.std.proofs.Common.{refl, ap}
use Rattle.exchange_shared.proofs.Histories.{may_publish, version_stays}
use Rattle.exchange_shared.proofs.Posting.{kept, newer, posted, posted_none}
use Rattle.exchange_shared.proofs.Seats.{gains, lent, ordered_at, still, still_gains, waits, worker_stays}
use Rattle.exchange_state.specs.Settling.{publishing_marks}
use Rattle.exchange_state.specs.Views.{published_at}
use Rattle.exchange_state.specs.declared.entries.Entry.{Entry}
use Rattle.exchange_shared.proofs.exchange.Exchange.publish.Goals as goal

pub publish-published-requires : goal.publish-published-requires
publish-published-requires g c = record { version = may_publish c.args.seat c.enter-seat.result.0 _ _ c.enter-seat.ensures.seat (lent _ _ _ _ c.deref_mut.ensures.value c.enter-seat.ensures.value) c.requires.version }

pub leave_published-seat-requires-clause-value : goal.leave_published-seat-requires-clause-value
leave_published-seat-requires-clause-value g c =
    posted _ _ _ c.enter-seat.result.0.worker _ _ c.in-New.is
    (c.publish-published.ensures.stands c.enter-seat.result.0.origin c.enter-seat.result.0.seen c.enter-seat.result.0.worker (lent _ _ _ _ c.deref_mut.ensures.value c.enter-seat.ensures.value) (version_stays c.args.seat c.enter-seat.result.0 _ c.enter-seat.ensures.seat c.requires.version))

pub leave-seat-requires-clause-value : goal.leave-seat-requires-clause-value
leave-seat-requires-clause-value g c =
    posted_none _ _ _ 0 _ (ap (publishing_marks 0) c.in-Kept.is)
    (c.publish-published.ensures.stands c.enter-seat.result.0.origin c.enter-seat.result.0.seen 0 (lent _ _ _ _ c.deref_mut.ensures.value c.enter-seat.ensures.value) (version_stays c.args.seat c.enter-seat.result.0 _ c.enter-seat.ensures.seat c.requires.version))

pub returns-in-New-clause-seat : goal.returns-in-New-clause-seat
returns-in-New-clause-seat g c =
    let e : Entry = published_at c.enter-seat.result.0.worker c.in-New.edit in
    still_gains _ e c.args.seat c.leave_published-seat.result (worker_stays c.args.seat c.enter-seat.result.0 c.enter-seat.ensures.seat) refl c.requires.seat (gains e c.args.seat c.enter-seat.result.0 c.leave_published-seat.result c.enter-seat.ensures.seat c.leave_published-seat.ensures)

pub returns-in-New-clause-published : goal.returns-in-New-clause-published
returns-in-New-clause-published g c = newer _ _ _ _ _ _ c.in-New.is (c.publish-published.ensures.answer _ _ (lent _ _ _ _ c.deref_mut.ensures.value c.enter-seat.ensures.value)) c.enter-seat.ensures.seat c.leave_published-seat.ensures

pub returns-in-Kept-clause-seat : goal.returns-in-Kept-clause-seat
returns-in-Kept-clause-seat g c = still _ _ _ c.requires.seat (waits _ _ _ c.enter-seat.ensures.seat c.leave-seat.ensures)

pub returns-in-Kept-clause-published : goal.returns-in-Kept-clause-published
returns-in-Kept-clause-published g c = kept _ _ _ _ _ _ c.in-Kept.is (c.publish-published.ensures.answer _ _ (lent _ _ _ _ c.deref_mut.ensures.value c.enter-seat.ensures.value)) c.enter-seat.ensures.seat c.leave-seat.ensures

pub returns-in-New-clause-order : goal.returns-in-New-clause-order
returns-in-New-clause-order g c =
    ordered_at _ c.enter-seat.result.0 _ _
    (posted _ _ _ c.enter-seat.result.0.worker _ _ c.in-New.is
    (c.publish-published.ensures.stands c.enter-seat.result.0.origin c.enter-seat.result.0.seen c.enter-seat.result.0.worker (lent _ _ _ _ c.deref_mut.ensures.value c.enter-seat.ensures.value) (version_stays c.args.seat c.enter-seat.result.0 _ c.enter-seat.ensures.seat c.requires.version)))
    c.leave_published-seat.ensures

pub returns-in-Kept-clause-order : goal.returns-in-Kept-clause-order
returns-in-Kept-clause-order g c = ordered_at _ c.enter-seat.result.0 _ _ c.enter-seat.ensures.value c.leave-seat.ensures
