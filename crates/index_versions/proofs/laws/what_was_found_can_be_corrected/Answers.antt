use Rattle.index_versions.proofs.Edits.{found_at_once, found_before_added, found_before_change}
use Rattle.index_versions.proofs.laws.what_was_found_can_be_corrected.Goals as goal

pub returns : goal.returns
returns c = record { at_once = found_at_once; changed = found_before_change; added = found_before_added }
