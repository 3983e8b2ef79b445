use Rattle.std.proofs.Common.{◌≡◌, ℕ, List, false}
use Rattle.compaction.specs.Passing.{AreAdded, WalkedOn}
use Rattle.journal_file.specs.Compaction.{Adds, faults_written, has_failed, store_written}
use Rattle.journal_file.specs.Unfinished.{IsUnfinished}
use Rattle.rtb_disk.specs.Stores.{Always}
use Rattle.compaction.proofs.passing.write_blocks.Given as goal

abbrev pub invariant-loop : goal.invariant-loop
invariant-loop g l = record {
  walked : (payloads : List (List ℕ)) × WalkedOn g.D.Disk l.fn.from l.from payloads l.fn.core.state l.core.state l.fn.gate l.gate × AreAdded g.D.Disk l.fn.file l.file payloads;
  any_moment : (written : List (List ℕ)) → Adds l.fn.file written → Always IsUnfinished (store_written l.fn.file) (store_written l.file);
  whole : has_failed l.file ≡ false;
  same : g.D.Disk.store l.from ≡ g.D.Disk.store l.fn.from;
  read_faults : g.D.Disk.faults l.from ≡ g.D.Disk.faults l.fn.from;
  write_faults : faults_written l.file ≡ faults_written l.fn.file;
}
