use Rattle.std.proofs.Common.{◌≡◌, ℕ, ◌≤◌, arith, inr, subst}
use Rattle.door_worker.proofs.Answering.{store_failed_told, told}
use Rattle.door_worker.proofs.Going.{goes_none, goes_writes}
use Rattle.exchange_shared.specs.Seats.{effects_in}
use Rattle.exchange_state.specs.Views.{stable}
use Rattle.door_worker.proofs.messages.make_durable.Goals as goal

pub returns-in-Ok-clause-concluded : goal.returns-in-Ok-clause-concluded
returns-in-Ok-clause-concluded g c =
    let le = subst (λ (n : ℕ). n ≤ stable c.in-Ok.seat.seen) c.requires.upto c.in-Ok.ensures.durable in
    told _ _ _ c.args.seat c.in-Ok.seat c.tell-in-Ok.result.0 c.tell-in-Ok.result.1 (goes_writes _ _ c.in-Ok.ensures.written) le c.tell-in-Ok.ensures.told (inr c.tell-in-Ok.ensures.order.rising)

pub returns-in-Err-clause-concluded : goal.returns-in-Err-clause-concluded
returns-in-Err-clause-concluded g c = store_failed_told _ _ _ _ _ c.in-Err.ensures.failed

pub returns-then-upto-durable-clause-concluded : goal.returns-then-upto-durable-clause-concluded
returns-then-upto-durable-clause-concluded g c =
    let s = c.args.seat in
    let enough : c.args.upto ≤ c.args.durable = c.if-upto-durable.true in
    let le : effects_in s.origin s.seen ≤ stable s.seen = omega (arith, c.requires.upto, c.requires.durable, enough) in
    told _ _ _ s s c.tell.result.0 c.tell.result.1 (goes_none s c.requires.seat.free) le c.tell.ensures.told (inr c.tell.ensures.order.rising)
