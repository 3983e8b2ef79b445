use Rattle.std.proofs.Common.{◌≡◌, [], false, take}
use Rattle.compaction.specs.Gathering.{Gathers}
use Rattle.journal_file.specs.Compaction.{faults_written, has_failed, store_written}
use Rattle.journal_file.specs.Unfinished.{IsUnfinished}
use Rattle.plain_exchange.specs.Effects.{kept_effects}
use Rattle.rtb_disk.specs.Stores.{Always}
use Rattle.compaction.proofs.blocks.put_all.Given as goal

abbrev pub invariant-loop-place : goal.invariant-loop-place
invariant-loop-place g l = record {
  gathers : Gathers [] l.fn.file l.fn.block → Gathers (take l.place (kept_effects l.core.state)) l.file l.block;
  any_moment : Gathers [] l.fn.file l.fn.block → Always IsUnfinished (store_written l.fn.file) (store_written l.file);
  whole : has_failed l.file ≡ false;
  faults : faults_written l.file ≡ faults_written l.fn.file;
}
