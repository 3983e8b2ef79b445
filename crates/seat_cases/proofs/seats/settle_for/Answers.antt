use Rattle.std.proofs.Common.{subst, sym}
use Rattle.std.specs.Prelude.{IsTrue}
use Rattle.exchange_state.specs.Tickets.{version_in}
use Rattle.exchange_shared.proofs.Histories.{may_be_settled}
use Rattle.rtb_types.specs.Valid.{is_valid}
use Rattle.seat_cases.proofs.Hands.{stays}
use Rattle.seat_cases.proofs.seats.settle_for.Goals as goal

pub settle_found-requires-clause-found : goal.settle_found-requires-clause-found
settle_found-requires-clause-found g c =
    may_be_settled c.args.hand.seat (version_in c.args.ticket) c.args.request.now _ _ c.requires.sought.version c.in-Ok.ensures.asked c.in-Ok.ensures.found

pub settle_found-requires-clause-valid : goal.settle_found-requires-clause-valid
settle_found-requires-clause-valid g c = subst (λ r. IsTrue (is_valid r)) (sym c.in-Ok.ensures.asked) c.requires.sought.valid

pub returns-in-Err : goal.returns-in-Err
returns-in-Err g c = stays _ c.args.hand c.requires.hand
