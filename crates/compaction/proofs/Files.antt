-- What becomes of a file that is begun, filled and finished.
use Rattle.std.proofs.Common.{◌≡◌, ap, inl, inr, rules, ℕ, List, [], ◌∷◌}
use Rattle.std.specs.Prelude.{Result, Ok, Err}
use Rattle.compaction.specs.Gathering.{Begins, Closes, Fills, IsWritable}
use Rattle.compaction.specs.Writing.{IsCompacted, IsUnfinishedOrCompacted, Writes}
use Rattle.compaction.specs.declared.fault.CompactionFault.{CompactionFault}
use Rattle.compaction.specs.declared.fault.CompactionFault.TheVariants.{Memory, NotEmpty, NotRead, WriteFailed}
use Rattle.journal_file.specs.Blocks.{HasBlocks, compacted_name, journal_names}
use Rattle.journal_file.specs.declared.compaction.Compact.{Compact}
use Rattle.journal_file.specs.Unfinished.{IsUnfinished, IsUnfinishedOr}
use Rattle.plain_exchange.specs.declared.changes.Effect.{Effect}
use Rattle.plain_exchange.specs.Effects.{kept_effects}
use Rattle.plain_exchange.specs.State.{State}
use Rattle.recovery.specs.Texts.{IsTextOf}
use Rattle.rtb_base.specs.Faults.{RisesOnlyWhere}
use Rattle.rtb_disk.specs.Stores.{Always, Store, settled}
use Rattle.rtb_disk.specs.declared.disk.Disk.{Ghosts}
use Rattle.rtb_disk.proofs.Moments.{always_map, always_then}

-- a compacted journal is one of those that are read
pub read_too : (payloads : List (List ℕ)) (image : List ℕ) → HasBlocks (compacted_name ∷ []) payloads image → HasBlocks journal_names payloads image
read_too payloads image b = record {
  name = b.name;
  named = record { known = search rules; seven = b.named.seven };
  gate = b.gate;
  rest = b.rest;
  closed = b.closed;
  file = b.file;
}

pub compacted : (state : State) (payloads : List (List ℕ)) (image : List ℕ) → IsWritable state → IsTextOf payloads (kept_effects state) → HasBlocks (compacted_name ∷ []) payloads image → IsCompacted state image
compacted state payloads image w text b = record {
  payloads = payloads;
  blocks = b;
  text = text;
  gives = record { effects = kept_effects state; has = record { payloads = payloads; stands = inl (read_too payloads image b); text = text }; leads = w.again };
}

pub may_be : (state : State) (payloads : List (List ℕ)) → IsWritable state → IsTextOf payloads (kept_effects state) → (image : List ℕ) → IsUnfinishedOr payloads image → IsUnfinishedOrCompacted state image
may_be state payloads w text image (inl u) = inl u
may_be state payloads w text image (inr b) = inr (compacted state payloads image w text b)

pub always_may_be : (state : State) (payloads : List (List ℕ)) (s t : Store) → IsWritable state → IsTextOf payloads (kept_effects state) → Always (IsUnfinishedOr payloads) s t → Always (IsUnfinishedOrCompacted state) s t
always_may_be state payloads s t w text a = always_map (IsUnfinishedOr payloads) (IsUnfinishedOrCompacted state) (may_be state payloads w text) s t a

always_unfinished : (state : State) (s t : Store) → Always IsUnfinished s t → Always (IsUnfinishedOrCompacted state) s t
always_unfinished state s t a = always_map IsUnfinished (IsUnfinishedOrCompacted state) (λ image u. inl u) s t a

-- a file that was taken and begun, and then finished
module _ (state : State) (payloads : List (List ℕ)) (store t u : Store) (w : IsWritable state) (text : IsTextOf payloads (kept_effects state)) (taken : IsUnfinished store.reads) (a : Always IsUnfinished (settled store) t) where
  whole : Always (IsUnfinishedOr payloads) t u → Always (IsUnfinishedOrCompacted state) (settled store) u
  whole b = always_then (IsUnfinishedOrCompacted state) (settled store) t u (always_unfinished state (settled store) t a) (always_may_be state payloads t u w text b)

  pub written : (r : Result Unit CompactionFault) → Closes payloads t u r → Writes state store u r
  written (Ok _) f = (taken, whole f.0, λ image is. compacted state payloads image w text (f.1 image is))
  written (Err (NotRead fault)) f = f
  written (Err NotEmpty) f = absurd f
  written (Err WriteFailed) f = (λ no. absurd (no taken), λ _. inr (whole f))
  written (Err Memory) f = (taken, always_then IsUnfinished (settled store) t u a f)

module _ {D : Type 0} {G : Ghosts D} where
  -- a file that was taken, and to which the effects are written then
  pub begun : (effects : List Effect) (store t : Store) (r : Result (Compact D G) (D × CompactionFault)) → IsUnfinished store.reads → Always IsUnfinished (settled store) t → Fills effects t r → Begins effects store r
  begun effects store t (Ok file) taken a f = (taken, f.0, always_then IsUnfinished (settled store) t _ a f.1)
  begun effects store t (Err (disk, NotRead fault)) taken a f = f
  begun effects store t (Err (disk, NotEmpty)) taken a f = absurd f
  begun effects store t (Err (disk, WriteFailed)) taken a f = (λ no. absurd (no taken), λ _. inr (always_then IsUnfinished (settled store) t (G.store disk) a f))
  begun effects store t (Err (disk, Memory)) taken a f = (taken, always_then IsUnfinished (settled store) t (G.store disk) a f)

module _ {D : Type 0} (G : Ghosts D) where
  -- a file that was not begun
  pub not_written : (state : State) (effects : List Effect) (store : Store) (disk : D) (fault : CompactionFault) → Begins {G = G} effects store (Err (disk, fault)) → Writes state store (G.store disk) (Err fault)
  not_written state effects store disk (NotRead fault) b = b
  not_written state effects store disk NotEmpty b = b
  not_written state effects store disk WriteFailed b = (
    b.0,
    λ taken. elim (b.1 taken) [
      | inl same ↦ inl same
      | inr a ↦ inr (always_unfinished state (settled store) (G.store disk) a)
    ],
  )
  not_written state effects store disk Memory b = b

-- the count rises for the one where it does for the other
pub as_answer : (fault : CompactionFault) (before now : ℕ) → RisesOnlyWhere (fault ≡ WriteFailed) before now → RisesOnlyWhere (◌≡◌ {A = Result Unit CompactionFault} (Err fault) (Err WriteFailed)) before now
as_answer fault before now h = (h.0, (λ e. h.1 (cc e)), (λ other. h.2 (λ e. other (ap Err e))))
