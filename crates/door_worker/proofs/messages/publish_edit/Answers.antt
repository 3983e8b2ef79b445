use Rattle.std.proofs.Common.{[]}
use Rattle.door_worker.proofs.Going.{goes_none, goes_on, goes_republished, published_ok}
use Rattle.door_worker.proofs.messages.publish_edit.Goals as goal

pub returns-then-not-is_edit-clause-goes : goal.returns-then-not-is_edit-clause-goes
returns-then-not-is_edit-clause-goes g c = goes_none _ c.requires.seat.free

pub returns-in-Ok-clause-goes : goal.returns-in-Ok-clause-goes
returns-in-Ok-clause-goes g c = goes_on [] [] 0 0 _ c.renew-seat.result _ c.renew-seat.ensures.goes (goes_republished _ _ _ _ c.republish-seat.ensures.published c.republish-seat.ensures.none)

pub returns-in-Ok-clause-published : goal.returns-in-Ok-clause-published
returns-in-Ok-clause-published g c = λ edit. published_ok _ _ _ c.in-Ok.field-0 c.in-Ok.is c.republish-seat.ensures.published

pub returns-clause-goes : goal.returns-clause-goes
returns-clause-goes g c = goes_on [] [] 0 0 _ c.renew-seat.result _ c.renew-seat.ensures.goes (goes_republished _ _ _ _ c.republish-seat.ensures.published c.republish-seat.ensures.none)
