-- A journal file that is written whole, block by block.
use Rattle.std.specs.Prelude.{◌≡◌, ℕ, List, ◌∷◌, ◌++◌, Bool, true}
use Rattle.rtb_disk.specs.Stores.{Store, EachImage}
use Rattle.rtb_disk.specs.declared.disk.Disk.{Ghosts}
use Rattle.journal_file.specs.Blocks.{compacted_name, end_of, open_blocks}
use Rattle.journal_file.specs.Unfinished.{BeginsZero}
use Rattle.journal_file.specs.declared.compaction.Compact.{Compact}

module _ {D : Type 0} {G : Ghosts D} where
  -- what is known of its disk, and how many of the disk's calls failed
  abbrev pub store_written : Compact D G → Store
  store_written compact = G.store compact.disk

  abbrev pub faults_written : Compact D G → ℕ
  faults_written compact = G.faults compact.disk

  abbrev pub disk_written : Compact D G → D
  disk_written compact = compact.disk

  -- whether an `add` failed
  abbrev pub has_failed : Compact D G → Bool
  has_failed compact = compact.failed

  -- these payloads were added, and no more stands behind them; every image is unfinished
  pub record Adds (compact : Compact D G) (payloads : List (List ℕ)) : Type 0 where
    pub told : (G.store compact.disk).told ≡ true
    pub end : compact.end ≡ end_of payloads
    pub reads : (G.store compact.disk).reads ≡ 0 ∷ compacted_name ++ open_blocks payloads
    pub images : EachImage BeginsZero (G.store compact.disk).now
