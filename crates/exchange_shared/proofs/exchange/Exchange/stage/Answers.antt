use Rattle.std.proofs.Common.{subst}
use Rattle.std.proofs.lemmas.List.{append-nil}
use Rattle.exchange_shared.proofs.Changes.{marked}
use Rattle.exchange_shared.proofs.Seats.{lent, ordered_at}
use Rattle.exchange_state.specs.Standing.{StandsFor}
use Rattle.exchange_shared.proofs.exchange.Exchange.stage.Goals as goal

pub leave_taken-seat-requires-clause-value : goal.leave_taken-seat-requires-clause-value
leave_taken-seat-requires-clause-value g c =
    marked _ _ _ c.enter-seat.result.0.worker _ _ c.in-Ok-Some.field-0-is
    (c.in-Ok-Some.ensures.stands c.enter-seat.result.0.origin c.enter-seat.result.0.seen c.enter-seat.result.0.worker (lent _ _ _ _ c.deref_mut.ensures.value c.enter-seat.ensures.value))

pub leave-requires-clause-value : goal.leave-requires-clause-value
leave-requires-clause-value g c =
    subst (StandsFor c.enter-seat.result.0.origin c.stage.new.self) (append-nil c.enter-seat.result.0.seen)
    (marked _ _ _ 0 _ _ c.in-Ok-None.field-0-is (c.in-Ok-None.ensures.stands c.enter-seat.result.0.origin c.enter-seat.result.0.seen 0 (lent _ _ _ _ c.deref_mut.ensures.value c.enter-seat.ensures.value)))

pub returns-in-Ok-Some-clause-order : goal.returns-in-Ok-Some-clause-order
returns-in-Ok-Some-clause-order g c =
    ordered_at _ c.enter-seat.result.0 _ _
    (marked _ _ _ c.enter-seat.result.0.worker _ _ c.in-Ok-Some.field-0-is
    (c.in-Ok-Some.ensures.stands c.enter-seat.result.0.origin c.enter-seat.result.0.seen c.enter-seat.result.0.worker (lent _ _ _ _ c.deref_mut.ensures.value c.enter-seat.ensures.value)))
    c.leave_taken-seat.ensures
