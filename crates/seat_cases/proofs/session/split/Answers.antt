use Rattle.seat_cases.proofs.Hands.{two_of}
use Rattle.seat_cases.proofs.session.split.Goals as goal

pub returns : goal.returns
returns g c = two_of _ _ _ c.split-first.result.0 c.split-first.result.1 c.requires.first c.split-first.ensures.split c.split-first.ensures.seats.0 c.split-first.ensures.seats.1
