use Rattle.compaction.proofs.Trimmed.{kept_are_left, kept_can_be_gone, kept_goes_on}
use Rattle.compaction.proofs.laws.what_is_kept_goes_on.Goals as goal

pub returns-clause-can : goal.returns-clause-can
returns-clause-can c = kept_can_be_gone

pub returns-clause-left : goal.returns-clause-left
returns-clause-left c = kept_are_left

pub returns-clause-goes_on : goal.returns-clause-goes_on
returns-clause-goes_on c = kept_goes_on
