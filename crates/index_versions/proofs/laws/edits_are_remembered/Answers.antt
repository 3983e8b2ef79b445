use Rattle.index_versions.proofs.Edits.{kept_after, noted_last}
use Rattle.index_versions.proofs.laws.edits_are_remembered.Goals as goal

pub returns : goal.returns
returns c = record { noted = noted_last; forgotten = kept_after }
