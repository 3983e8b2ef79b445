use Rattle.door_worker.proofs.Answering.{entered, not_entered}
use Rattle.door_worker.proofs.messages.edit_or_report.Goals as goal

pub returns-clause-entered : goal.returns-clause-entered
returns-clause-entered g c = entered _ _ _ _ _ c.simple.ensures.settled

pub returns-clause-none : goal.returns-clause-none
returns-clause-none g c = not_entered _ _ _ c.simple.ensures.unsettled
