-- What a journal stands for, and what a call may leave.
use Rattle.std.specs.Prelude.{◌≡◌, ◌⊎◌, ℕ, List, [], ◌∷◌, ◌++◌, Bool, true, false}
use Rattle.rtb_disk.specs.Stores.{Store, EachImage}
use Rattle.rtb_disk.specs.declared.disk.Disk.{Ghosts}
use Rattle.journal_file.specs.Blocks.{HasBlocks, HasBehind, end_of}
use Rattle.journal_file.specs.declared.journal.Stage.{Stage}
use Rattle.journal_file.specs.declared.journal.Stage.TheVariants.{Whole, Block, Gate}
use Rattle.journal_file.specs.declared.journal.Journal.{Journal}

-- the payloads before, or those and one more
abbrev pub IsBeforeOrAfter : List (List ℕ) → List (List ℕ) → List ℕ → List ℕ → Type 0
IsBeforeOrAfter names payloads block image = HasBlocks names payloads image ⊎ HasBlocks names (payloads ++ block ∷ []) image

-- what an image is where an append of the block stopped: in its first two calls, or in its last two
abbrev pub StoppedAt : Stage → List (List ℕ) → List (List ℕ) → List ℕ → List ℕ → Type 0
StoppedAt Whole names payloads block image = ⊥
StoppedAt Block names payloads block image = HasBlocks names payloads image
StoppedAt Gate names payloads block image = HasBehind names payloads block image

abbrev has_stopped : Stage → Bool
has_stopped Whole = false
has_stopped Block = true
has_stopped Gate = true

module _ {D : Type 0} {G : Ghosts D} where
  -- the disk of a journal
  abbrev pub disk_of : Journal D G → D
  disk_of journal = journal.disk

  -- what is known of it
  abbrev pub store_of : Journal D G → Store
  store_of journal = G.store journal.disk

  -- how many of its calls failed
  abbrev pub faults_of : Journal D G → ℕ
  faults_of journal = G.faults journal.disk

  -- whether the last append or repair failed
  abbrev pub is_broken : Journal D G → Bool
  is_broken journal = has_stopped journal.stage

  -- the disk is told, the journal stands at the gate behind these payloads, and every image has them
  pub record Keeps (names : List (List ℕ)) (journal : Journal D G) (payloads : List (List ℕ)) : Type 0 where
    pub told : (G.store journal.disk).told ≡ true
    pub end : journal.gate ≡ end_of payloads
    pub images : EachImage (HasBlocks names payloads) (G.store journal.disk).now

  -- an append of this block behind these payloads has failed
  pub record Broken (names : List (List ℕ)) (journal : Journal D G) (payloads : List (List ℕ)) (block : List ℕ) : Type 0 where
    pub told : (G.store journal.disk).told ≡ true
    pub end : journal.gate ≡ end_of payloads
    pub next : journal.stage ≡ Gate → journal.next ≡ end_of (payloads ++ block ∷ [])
    pub images : EachImage (StoppedAt journal.stage names payloads block) (G.store journal.disk).now
