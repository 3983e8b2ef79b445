use Rattle.door_worker.proofs.Answering.{entered_behind, not_entered_behind}
use Rattle.door_worker.proofs.messages.sell.Goals as goal

pub returns-clause-entered : goal.returns-clause-entered
returns-clause-entered g c = entered_behind _ _ _ c.renew-seat.result _ _ c.renew-seat.ensures.goes c.sell_found.ensures.entered

pub returns-clause-none : goal.returns-clause-none
returns-clause-none g c = not_entered_behind _ c.renew-seat.result _ _ c.renew-seat.ensures.goes c.sell_found.ensures.none
