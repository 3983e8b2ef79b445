use Rattle.std.proofs.Common.{◌≡◌, ◌≤◌, ◌+◌, List, refl, sym, ◌∙◌, ap, subst}
use Rattle.exchange_shared.specs.Seats.{Seat}
use Rattle.exchange_state.specs.Costs.{settled_cost}
use Rattle.exchange_state.specs.Tickets.{version_in}
use Rattle.exchange_state.specs.declared.entries.Entry.{Entry}
use Rattle.exchange_state.specs.declared.entries.Origin.{Origin}
use Rattle.exchange_state.specs.declared.state.Unsettled.{Unsettled}
use Rattle.exchange_state.specs.Settling.{IsHeld}
use Rattle.exchange_state.specs.Views.{called}
use Rattle.exchange_shared.proofs.Seats.{calls_with, gains, lent, ordered_at, still, still_gains, waits, worker_stays}
use Rattle.exchange_shared.proofs.Histories.{may_settle, snoc_init}
use Rattle.plain_exchange.specs.declared.commands.Command.TheVariants.{Auction}
use Rattle.exchange_shared.proofs.exchange.Exchange.settle.Goals as goal

pub settle-requires-clause-ticket : goal.settle-requires-clause-ticket
settle-requires-clause-ticket g c = may_settle _ _ _ _ _ _ c.requires.found c.enter-seat.ensures.seat (lent _ _ _ _ c.deref_mut.ensures.value c.enter-seat.ensures.value) c.enter-seat.ensures.room

pub leave_sold-seat-requires-clause-value : goal.leave_sold-seat-requires-clause-value
leave_sold-seat-requires-clause-value g c = (c.in-Ok.ensures.settled c.enter-seat.result.0.origin c.enter-seat.result.0.seen c.enter-seat.result.0.worker (lent _ _ _ _ c.deref_mut.ensures.value c.enter-seat.ensures.value)).stands

pub returns-in-Ok-clause-seat : goal.returns-in-Ok-clause-seat
returns-in-Ok-clause-seat g c =
    let e : Entry = called c.enter-seat.result.0.worker (Auction c.args.found.asked) c.args.moment c.in-Ok.settled.reply in
    still_gains _ e c.args.seat c.leave_sold-seat.result (worker_stays c.args.seat c.enter-seat.result.0 c.enter-seat.ensures.seat) refl c.requires.seat (gains e c.args.seat c.enter-seat.result.0 c.leave_sold-seat.result c.enter-seat.ensures.seat c.leave_sold-seat.ensures)

pub returns-in-Ok-clause-cost : goal.returns-in-Ok-clause-cost
returns-in-Ok-clause-cost g c l at =
    let same : c.enter-seat.result.0.seen ≡ l = snoc_init _ _ _ _ (sym (ap (λ (u : Seat). u.seen) c.leave_sold-seat.ensures) ∙ at) in
    let org : c.enter-seat.result.0.origin ≡ c.args.seat.origin = ap (λ (u : Seat). u.origin) c.enter-seat.ensures.seat.1 in
    subst (λ (k : List Entry). c.settle.new.steps ≤ c.args.steps.now + settled_cost c.args.seat.origin k (version_in c.args.ticket).edit c.args.moment c.args.found.asked c.args.found.candidates) same
    (subst (λ (o : Origin). c.settle.new.steps ≤ c.args.steps.now + settled_cost o c.enter-seat.result.0.seen (version_in c.args.ticket).edit c.args.moment c.args.found.asked c.args.found.candidates) org
    (c.settle.ensures.cost _ _ (lent _ _ _ _ c.deref_mut.ensures.value c.enter-seat.ensures.value)))

pub leave_unsettled-seat-requires-clause-value : goal.leave_unsettled-seat-requires-clause-value
leave_unsettled-seat-requires-clause-value g c = c.in-Err.ensures.unsettled c.enter-seat.result.0.origin c.enter-seat.result.0.seen (lent _ _ _ _ c.deref_mut.ensures.value c.enter-seat.ensures.value)

pub returns-in-Err-clause-seat : goal.returns-in-Err-clause-seat
returns-in-Err-clause-seat g c = still _ _ _ c.requires.seat (waits _ _ _ c.enter-seat.ensures.seat c.leave_unsettled-seat.ensures)

pub returns-in-Ok-clause-order : goal.returns-in-Ok-clause-order
returns-in-Ok-clause-order g c =
    ordered_at _ c.enter-seat.result.0 _ _ (c.in-Ok.ensures.settled c.enter-seat.result.0.origin c.enter-seat.result.0.seen c.enter-seat.result.0.worker (lent _ _ _ _ c.deref_mut.ensures.value c.enter-seat.ensures.value)).stands c.leave_sold-seat.ensures

pub returns-in-Err-clause-order : goal.returns-in-Err-clause-order
returns-in-Err-clause-order g c = ordered_at _ c.enter-seat.result.0 _ _ c.enter-seat.ensures.value c.leave_unsettled-seat.ensures

pub returns-in-Err-clause-held : goal.returns-in-Err-clause-held
returns-in-Err-clause-held g c =
    subst (λ (s : Seat). c.in-Err.why ≡ Unsettled.Held → IsHeld s.origin s.seen (Auction c.args.found.asked) c.args.moment) (sym c.leave_unsettled-seat.ensures)
    (c.in-Err.ensures.held c.enter-seat.result.0.origin c.enter-seat.result.0.seen (lent _ _ _ _ c.deref_mut.ensures.value c.enter-seat.ensures.value))

pub returns-in-Ok-clause-settled : goal.returns-in-Ok-clause-settled
returns-in-Ok-clause-settled g c =
    calls_with _ _ _ c.args.seat c.enter-seat.result.0 c.leave_sold-seat.result c.in-Ok.settled c.enter-seat.ensures.seat
    (c.in-Ok.ensures.settled c.enter-seat.result.0.origin c.enter-seat.result.0.seen c.enter-seat.result.0.worker (lent _ _ _ _ c.deref_mut.ensures.value c.enter-seat.ensures.value)) c.leave_sold-seat.ensures
