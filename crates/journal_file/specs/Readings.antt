-- What a reading has read, and what its next answer is.
use Rattle.std.specs.Prelude.{◌≡◌, ◌≢◌, ◌⊎◌, ℕ, List, [], ◌∷◌, ◌++◌, Bool, true, false, Option, Some, None, Result, Ok, Err}
use Rattle.rtb_disk.specs.Stores.{Store, EachImage}
use Rattle.rtb_disk.specs.declared.disk.Disk.{Ghosts}
use Rattle.journal_file.specs.Blocks.{HasBlocks, IsName, IsTornCreation, end_of, front_of, journal_names}
use Rattle.journal_file.specs.Damage.{IsDamaged, IsForeign}
use Rattle.journal_file.specs.declared.reading.Found.{Found}
use Rattle.journal_file.specs.declared.reading.Found.TheVariants.{Blocks, Ended, Creation}
use Rattle.journal_file.specs.declared.reading.Found.TheVariants as found
use Rattle.journal_file.specs.declared.faults.JournalFault.{JournalFault}
use Rattle.journal_file.specs.declared.faults.JournalFault.TheVariants as fault
use Rattle.journal_file.specs.declared.reading.Reading.{Reading}

abbrev is_end : Found → Bool
is_end found.Blocks = false
is_end found.Ended = true
is_end found.Creation = true
is_end found.Failed = false
is_end found.Damaged = false

abbrev has_more : Found → Bool
has_more found.Blocks = true
has_more found.Ended = false
has_more found.Creation = false
has_more found.Failed = false
has_more found.Damaged = false

abbrev last_answer : Found → ℕ → Result (Option ℕ) JournalFault
last_answer found.Blocks gate = Ok None
last_answer found.Ended gate = Ok None
last_answer found.Creation gate = Ok None
last_answer found.Failed gate = Err fault.DiskFailed
last_answer found.Damaged gate = Err (fault.Damaged gate)

module _ {D : Type 0} {G : Ghosts D} where
  -- whether it goes on to read
  abbrev pub is_open : Reading D G → Bool
  is_open reading = has_more reading.found

  -- and where it does not, what it answers from then on
  abbrev pub answer_of : Reading D G → Result (Option ℕ) JournalFault
  answer_of reading = last_answer reading.found reading.gate

  -- no call of the disk has failed in it
  abbrev pub HasNotFailed : Reading D G → Type 0
  HasNotFailed reading = is_open reading ≡ false → answer_of reading ≢ Err fault.DiskFailed

  -- the disk of a reading, and what is known of it
  abbrev pub disk_read : Reading D G → D
  disk_read reading = reading.disk

  abbrev pub store_read : Reading D G → Store
  store_read reading = G.store reading.disk

  -- whether the last answer was that there is no further block
  abbrev pub has_ended : Reading D G → Bool
  has_ended reading = is_end reading.found

  abbrev pub reads_of : Reading D G → List ℕ
  reads_of reading = (G.store reading.disk).reads

  abbrev pub faults_read : Reading D G → ℕ
  faults_read reading = G.faults reading.disk

  -- what a read gives is the only image, it begins with open blocks of these payloads under one of the
  -- names, and the reading stands behind them
  pub record IsReading (names : List (List ℕ)) (reading : Reading D G) (payloads : List (List ℕ)) : Type 0 where
    pub told : (G.store reading.disk).told ≡ true
    pub found : reading.found ≡ Blocks
    pub end : reading.gate ≡ end_of payloads
    pub name : List ℕ
    pub named : IsName names name
    pub rest : List ℕ
    pub file : reads_of reading ≡ front_of name payloads ++ rest
    pub only : EachImage (λ image. image ≡ reads_of reading) (G.store reading.disk).now

  -- these are all payloads of the file, and the reading has come to their end
  pub record IsRead (names : List (List ℕ)) (reading : Reading D G) (payloads : List (List ℕ)) : Type 0 where
    pub told : (G.store reading.disk).told ≡ true
    pub found : reading.found ≡ Ended
    pub end : reading.gate ≡ end_of payloads
    pub file : HasBlocks names payloads (reads_of reading)
    pub only : EachImage (λ image. image ≡ reads_of reading) (G.store reading.disk).now

  -- the file is a creation that was not finished, and the reading found that
  pub record IsCreation (reading : Reading D G) : Type 0 where
    pub told : (G.store reading.disk).told ≡ true
    pub found : reading.found ≡ Creation
    pub torn : IsTornCreation (reads_of reading)
    pub only : EachImage (λ image. image ≡ reads_of reading) (G.store reading.disk).now

  -- what a reading of this file begins with
  abbrev pub IsStart : List ℕ → Result (Reading D G) (D × JournalFault) → Type 0
  IsStart image (Ok reading) = (reads_of reading ≡ image) × (IsReading journal_names reading [] ⊎ IsCreation reading)
  IsStart image (Err (disk, fault.DiskFailed)) = Unit {0}
  IsStart image (Err (disk, fault.Damaged at)) = (at ≡ 0) × IsForeign journal_names image
  IsStart image (Err (disk, fault.Memory)) = ⊥

  -- a further payload with its gate's place, or the end behind these payloads, or damage there
  abbrev pub IsNext : List (List ℕ) → List (List ℕ) → Reading D G → List ℕ → List ℕ → List ℕ → Result (Option ℕ) JournalFault → Type 0
  IsNext names payloads reading before out image (Ok (Some gate)) = (payload : List ℕ) × (gate ≡ end_of payloads) × (out ≡ before ++ payload) × IsReading names reading (payloads ++ payload ∷ [])
  IsNext names payloads reading before out image (Ok None) = (out ≡ before) × IsRead names reading payloads
  IsNext names payloads reading before out image (Err fault.DiskFailed) = out ≡ before
  IsNext names payloads reading before out image (Err (fault.Damaged at)) = (out ≡ before) × (at ≡ end_of payloads) × IsDamaged names payloads image
  IsNext names payloads reading before out image (Err fault.Memory) = (out ≡ before) × IsReading names reading payloads
