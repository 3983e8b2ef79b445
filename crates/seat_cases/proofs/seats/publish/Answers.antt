use Rattle.seat_cases.proofs.Hands.{goes_published}
use Rattle.seat_cases.proofs.seats.publish.Goals as goal

pub returns : goal.returns
returns g c = goes_published _ _ c.args.hand c.republish-seat.result.0 _ c.republish-seat.ensures.seat c.requires.hand c.republish-seat.ensures.published c.republish-seat.ensures.none
