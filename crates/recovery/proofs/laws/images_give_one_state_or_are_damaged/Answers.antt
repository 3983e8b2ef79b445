use Rattle.recovery.proofs.Deciding.{not_neither}
use Rattle.recovery.proofs.Parting.{not_both, one_place, one_state}
use Rattle.recovery.proofs.laws.images_give_one_state_or_are_damaged.Goals as goal

pub returns-clause-one_state : goal.returns-clause-one_state
returns-clause-one_state c = one_state

pub returns-clause-one_place : goal.returns-clause-one_place
returns-clause-one_place c = one_place

pub returns-clause-not_both : goal.returns-clause-not_both
returns-clause-not_both c = not_both

pub returns-clause-not_neither : goal.returns-clause-not_neither
returns-clause-not_neither c = not_neither
