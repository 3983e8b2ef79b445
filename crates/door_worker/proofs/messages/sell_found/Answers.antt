use Rattle.std.proofs.Common.{subst, sym}
use Rattle.std.specs.Prelude.{IfOk, IsTrue}
use Rattle.door_worker.proofs.Answering.{entered_later, not_entered_later}
use Rattle.door_worker.proofs.Going.{goes_waits}
use Rattle.door_worker.specs.Working.{Entered}
use Rattle.exchange_shared.proofs.Histories.{may_be_settled}
use Rattle.exchange_state.specs.Tickets.{IsVersionOf, version_in}
use Rattle.exchange_state.specs.Views.{calls}
use Rattle.plain_exchange.specs.declared.commands.Command.TheVariants.{Auction}
use Rattle.rtb_types.specs.Valid.{is_valid}
use Rattle.door_worker.proofs.messages.sell_found.Goals as goal

pub settle-requires-clause-found : goal.settle-requires-clause-found
settle-requires-clause-found g c =
    let m = c.begin-seat.result.0 in
    may_be_settled m (version_in c.in-Ok.ticket) c.args.request.now _ _ (subst (λ r. IfOk r (λ t. IsVersionOf m.origin (calls m.seen) (version_in t))) c.in-Ok.is c.begin-seat.ensures.version) c.in-Ok-find.ensures.asked c.in-Ok-find.ensures.found

pub settle-requires-clause-valid : goal.settle-requires-clause-valid
settle-requires-clause-valid g c = subst (λ r. IsTrue (is_valid r)) (sym c.in-Ok-find.ensures.asked) c.requires.valid

pub returns-in-Ok-find-clause-entered : goal.returns-in-Ok-find-clause-entered
returns-in-Ok-find-clause-entered g c =
    subst (λ r. IfOk c.settle.result.1 (Entered (Auction r) c.args.moment c.args.seat c.settle.result.0)) c.in-Ok-find.ensures.asked
    (entered_later _ _ _ c.begin-seat.result.0 _ _ c.begin-seat.ensures.seat.1 c.settle.ensures.entered)

pub returns-in-Ok-find-clause-none : goal.returns-in-Ok-find-clause-none
returns-in-Ok-find-clause-none g c = not_entered_later _ c.begin-seat.result.0 _ _ c.begin-seat.ensures.seat.1 c.settle.ensures.none

pub returns-in-Err-find-clause-none : goal.returns-in-Err-find-clause-none
returns-in-Err-find-clause-none g c = goes_waits _ _ c.begin-seat.ensures.seat.1

pub returns-in-Err-clause-none : goal.returns-in-Err-clause-none
returns-in-Err-clause-none g c = goes_waits _ _ c.begin-seat.ensures.seat.1
