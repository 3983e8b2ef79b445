-- What comes of opening a journal.
use Rattle.std.specs.Prelude.{◌≡◌, ◌⊎◌, ℕ, ◌≤◌, ◌^◌, List, [], ◌++◌, All, true, Some, Result, Ok, Err}
use Rattle.auction_core.specs.Core.{CoreState}
use Rattle.effects.specs.Bytes.{IsEncodable}
use Rattle.journal_file.specs.Blocks.{StandsFor, journal_names}
use Rattle.journal_file.specs.Standing.{Keeps}
use Rattle.journal_file.specs.declared.journal.Journal.{Journal}
use Rattle.journal_file.specs.Readings.{IsCreation, IsRead, IsReading}
use Rattle.journal_file.specs.declared.faults.JournalFault.{JournalFault}
use Rattle.journal_file.specs.declared.faults.JournalFault.TheVariants as fault
use Rattle.journal_file.specs.declared.reading.Reading.{Reading}
use Rattle.plain_exchange.specs.declared.changes.Effect.{Effect}
use Rattle.plain_exchange.specs.Effects.{edits, state_of}
use Rattle.plain_exchange.specs.State.{State}
use Rattle.recovery.specs.Counts.{recover_text}
use Rattle.recovery.specs.Damage.{IsDamagedAt}
use Rattle.recovery.specs.Texts.{GivesState, IsTextOf}
use Rattle.rtb_disk.specs.Stores.{Store, settled}
use Rattle.rtb_disk.specs.declared.disk.Disk.{Ghosts}

-- no byte was written to the disk; it may have been synced
abbrev pub IsUnwritten : Store → Store → Type 0
IsUnwritten store store' = store.told ≡ true → (store' ≡ store) ⊎ (store' ≡ settled store)

-- the image gives the exchange's state, or is damaged at the place that is answered
abbrev pub Opens : List ℕ → Result CoreState JournalFault → Type 0
Opens image (Ok core) = GivesState image core.state
Opens image (Err (fault.Damaged at)) = IsDamagedAt image at
Opens image (Err fault.DiskFailed) = Unit {0}
Opens image (Err fault.Memory) = Unit {0}

-- the line on the state that the image gives is appended, or the image is damaged at the place
abbrev pub Recovers : List ℕ → List ℕ → List ℕ → Result Unit JournalFault → Type 0
Recovers image before out (Ok _) = (state : State) × GivesState image state × (out ≡ before ++ recover_text state)
Recovers image before out (Err (fault.Damaged at)) = IsDamagedAt image at
Recovers image before out (Err fault.DiskFailed) = Unit {0}
Recovers image before out (Err fault.Memory) = Unit {0}

-- payloads of this kind are the text of effects, and the exchange is what those lead to
pub record IsMadeBy (AreSuch : List (List ℕ) → Type 0) (core : CoreState) : Type 0 where
  pub payloads : List (List ℕ)
  pub such : AreSuch payloads
  pub effects : List Effect
  pub text : IsTextOf payloads effects
  pub leads : state_of effects ≡ Some core.state
  pub edits_are : core.edits ≡ edits effects

-- effects that can be encoded lead to the exchange, and they are not too many edits
pub record IsLed (core : CoreState) : Type 0 where
  pub effects : List Effect
  pub encodable : All IsEncodable effects
  pub leads : state_of effects ≡ Some core.state
  pub edits_are : core.edits ≡ edits effects
  pub few : core.edits ≤ 2 ^ 61

module _ {D : Type 0} {G : Ghosts D} where
  -- the disk is told, and nothing of the file was read yet
  abbrev pub IsAtStart : Reading D G → Type 0
  IsAtStart reading = IsReading journal_names reading [] ⊎ IsCreation reading

  -- these are all payloads of the file, and the reading has come to their end
  abbrev pub IsAtEnd : Reading D G → List (List ℕ) → Type 0
  IsAtEnd reading payloads = IsRead journal_names reading payloads ⊎ ((payloads ≡ []) × IsCreation reading)

  -- the image stands for these payloads, and the journal keeps them
  abbrev pub AreKept : List ℕ → Journal D G → List (List ℕ) → Type 0
  AreKept image journal payloads = Keeps journal_names journal payloads × StandsFor journal_names payloads image
