-- Only private clauses cite this file. Effects that are gathered into blocks, and what becomes of a file that was begun.
use Rattle.std.specs.Prelude.{◌≡◌, ◌⊎◌, ℕ, List, [], ◌∷◌, ◌++◌, All, Some, Result, Ok, Err}
use Rattle.budget_book.specs.declared.sales.SaleRow.{SaleRow}
use Rattle.byte_fields.specs.Encodings.{IsOptionOf}
use Rattle.compaction.specs.declared.fault.CompactionFault.{CompactionFault}
use Rattle.compaction.specs.declared.fault.CompactionFault.TheVariants.{Memory, NotEmpty, NotRead, WriteFailed}
use Rattle.effects.specs.Bytes.{IsEncodable, IsUser, effects_bytes}
use Rattle.journal_file.specs.Blocks.{HasBlocks, compacted_name}
use Rattle.journal_file.specs.Compaction.{Adds, store_written}
use Rattle.journal_file.specs.Unfinished.{IsUnfinished, IsUnfinishedOr, LeavesOthers}
use Rattle.journal_file.specs.declared.compaction.Compact.{Compact}
use Rattle.plain_exchange.specs.declared.changes.Effect.{Effect}
use Rattle.plain_exchange.specs.Effects.{kept_effects, state_of}
use Rattle.plain_exchange.specs.State.{State}
use Rattle.recovery.specs.Texts.{IsTextOf}
use Rattle.rtb_disk.specs.Stores.{Always, EachImage, Store, settled}
use Rattle.rtb_disk.specs.declared.disk.Disk.{Ghosts}

-- the user of each sale has 1 to 255 bytes, where there is one
abbrev pub HaveUsers : List SaleRow → Type 0
HaveUsers sales = All (λ (sale : SaleRow). IsOptionOf IsUser sale.user) sales

-- the state's own effects can be encoded, and make it again
pub record IsWritable (state : State) : Type 0 where
  pub users : HaveUsers state.sales
  pub again : state_of (kept_effects state) ≡ Some state

module _ {D : Type 0} {G : Ghosts D} where
  -- the blocks of the file are these effects
  pub record Holds (effects : List Effect) (file : Compact D G) : Type 0 where
    pub payloads : List (List ℕ)
    pub text : IsTextOf payloads effects
    pub adds : Adds file payloads

  -- the blocks of the file, and what is gathered for the next, are these effects
  pub record Gathers (effects : List Effect) (file : Compact D G) (block : List ℕ) : Type 0 where
    pub before : List Effect
    pub held : Holds before file
    pub pending : List Effect
    pub encodable : All IsEncodable pending
    pub effects_are : effects ≡ before ++ pending
    pub block_is : block ≡ effects_bytes pending

  -- what becomes of a file that has no block yet, to which the effects are written
  abbrev pub Fills : List Effect → Store → Result (Compact D G) (D × CompactionFault) → Type 0
  Fills effects store (Ok file) = Holds effects file × Always IsUnfinished store (store_written file)
  Fills effects store (Err (disk, NotRead fault)) = ⊥
  Fills effects store (Err (disk, NotEmpty)) = ⊥
  Fills effects store (Err (disk, WriteFailed)) = Always IsUnfinished store (G.store disk)
  Fills effects store (Err (disk, Memory)) = Always IsUnfinished store (G.store disk)

  -- what becomes of a file that is begun so
  abbrev pub Begins : List Effect → Store → Result (Compact D G) (D × CompactionFault) → Type 0
  Begins effects store (Ok file) = IsUnfinished store.reads × Holds effects file × Always IsUnfinished (settled store) (store_written file)
  Begins effects store (Err (disk, NotRead fault)) = ⊥
  Begins effects store (Err (disk, NotEmpty)) = (IsUnfinished store.reads → ⊥) × (G.store disk ≡ settled store)
  Begins effects store (Err (disk, WriteFailed)) = LeavesOthers store (G.store disk) × (IsUnfinished store.reads → (G.store disk ≡ store) ⊎ Always IsUnfinished (settled store) (G.store disk))
  Begins effects store (Err (disk, Memory)) = IsUnfinished store.reads × Always IsUnfinished (settled store) (G.store disk)

-- what becomes of a file of these payloads that is finished
abbrev pub Closes : List (List ℕ) → Store → Store → Result Unit CompactionFault → Type 0
Closes payloads store store' (Ok _) = Always (IsUnfinishedOr payloads) store store' × EachImage (HasBlocks (compacted_name ∷ []) payloads) store'.now
Closes payloads store store' (Err (NotRead fault)) = ⊥
Closes payloads store store' (Err NotEmpty) = ⊥
Closes payloads store store' (Err WriteFailed) = Always (IsUnfinishedOr payloads) store store'
Closes payloads store store' (Err Memory) = Always IsUnfinished store store'
