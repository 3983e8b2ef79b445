use Rattle.std.proofs.Common.{◌≡◌, false}
use Rattle.journal_file.specs.Compaction.{has_failed}
use Rattle.disk_cases.proofs.journals.add_all.Given as goal

abbrev pub invariant-loop-block : goal.invariant-loop-block
invariant-loop-block g l = has_failed l.compact ≡ false
