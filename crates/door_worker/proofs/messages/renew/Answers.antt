use Rattle.door_worker.proofs.Going.{goes_none, goes_republished}
use Rattle.door_worker.proofs.messages.renew.Goals as goal

pub returns-then-not-worn-clause-goes : goal.returns-then-not-worn-clause-goes
returns-then-not-worn-clause-goes g c = goes_none _ c.requires.seat.free

pub returns-clause-goes : goal.returns-clause-goes
returns-clause-goes g c = goes_republished _ _ _ _ c.republish-seat.ensures.published c.republish-seat.ensures.none
