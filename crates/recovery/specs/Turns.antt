-- Only private clauses cite this file. What comes of one block.
use Rattle.std.specs.Prelude.{◌≡◌, ◌⊎◌, ℕ, ◌+◌, List, [], Bool, true, false, Some, Result, Ok, Err}
use Rattle.auction_core.specs.Core.{CoreState}
use Rattle.effects.specs.Bytes.{IsDecoded}
use Rattle.journal_file.specs.Blocks.{journal_names}
use Rattle.journal_file.specs.Readings.{IsCreation, IsReading, reads_of}
use Rattle.journal_file.specs.declared.reading.Reading.{Reading}
use Rattle.journal_file.specs.declared.faults.JournalFault.{JournalFault}
use Rattle.journal_file.specs.declared.faults.JournalFault.TheVariants as fault
use Rattle.plain_exchange.specs.declared.changes.Effect.{Effect}
use Rattle.plain_exchange.specs.Effects.{all_applied, edits}
use Rattle.recovery.specs.Damage.{IsDamagedAt, IsUnfit}
use Rattle.recovery.specs.Openings.{IsAtEnd, IsMadeBy}
use Rattle.rtb_disk.specs.declared.disk.Disk.{Ghosts}

-- the exchange came to where the effects of the payload lead
pub record Led (payload : List ℕ) (old new : CoreState) : Type 0 where
  pub effects : List Effect
  pub decoded : IsDecoded payload (Ok effects)
  pub applied : all_applied effects old.state ≡ Some new.state
  pub edits_are : new.edits ≡ old.edits + edits effects

abbrev pub Follows : ℕ → List ℕ → CoreState → CoreState → Result Unit JournalFault → Type 0
Follows gate payload old new (Ok _) = Led payload old new
Follows gate payload old new (Err (fault.Damaged at)) = (at ≡ gate) × IsUnfit payload old.state
Follows gate payload old new (Err fault.DiskFailed) = ⊥
Follows gate payload old new (Err fault.Memory) = Unit {0}

module _ {D : Type 0} {G : Ghosts D} where
  -- these payloads were read, and the reading may have more
  abbrev pub IsWithin : Reading D G → List (List ℕ) → Type 0
  IsWithin reading payloads = IsReading journal_names reading payloads ⊎ ((payloads ≡ []) × IsCreation reading)

  -- one block more was read and carried out, or the reading came to its end, or there is damage
  abbrev pub Turns : Reading D G → Reading D G → CoreState → Result Bool JournalFault → Type 0
  Turns old new core (Ok true) = IsMadeBy (IsWithin new) core
  Turns old new core (Ok false) = IsMadeBy (IsAtEnd new) core
  Turns old new core (Err (fault.Damaged at)) = IsDamagedAt (reads_of old) at
  Turns old new core (Err fault.DiskFailed) = Unit {0}
  Turns old new core (Err fault.Memory) = Unit {0}
