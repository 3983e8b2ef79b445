-- What is said of a trace.
use Rattle.std.specs.Prelude.{◌≡◌, ◌≢◌, ◌⊎◌, ℕ, ◌+◌, ◌<◌, ◌≤◌, ◌^◌, All, List, [], ◌∷◌, ◌++◌, length, count_by, Option, None, Result, Ok, Err, true}
use Rattle.std.specs.List.{flat_map}
use Rattle.std.specs.Io.KnownBytes.{Consumes, IsAtEnd}
use Rattle.address_keys.specs.declared.keys.Keys.{Keys}
use Rattle.audit.specs.Accounts.{Accounts, LeadsTo, passes}
use Rattle.audit.specs.declared.verdict.AuditFault.{AuditFault}
use Rattle.audit.specs.declared.verdict.AuditFault.TheVariants as fault
use Rattle.audit.specs.declared.verdict.Verdict.{Verdict}
use Rattle.audit.specs.declared.verdict.Verdict.TheVariants as verdict
use Rattle.journal_file.specs.declared.faults.JournalFault.{JournalFault}
use Rattle.journal_file.specs.declared.faults.JournalFault.TheVariants as journal
use Rattle.plain_exchange.specs.State.{State}
use Rattle.recovery.specs.Damage.{IsDamagedAt}
use Rattle.recovery.specs.Texts.{GivesState}
use Rattle.rtb_disk.specs.Stores.{Store}
use Rattle.rtb_io.specs.declared.ReadFault.{ReadFault}
use Rattle.rtb_io.specs.declared.ReadFault.TheVariants as read
use Rattle.trace.specs.Traces.{IsEntry, IsHeader, entry_bytes, header_bytes}
use Rattle.trace.specs.declared.entry.Entry.{Entry}
use Rattle.trace.specs.declared.header.Header.{Header}

-- ---- faults

abbrev pub of_source : ReadFault → AuditFault
of_source read.Failed = fault.SourceFailed
of_source read.Memory = fault.Memory

abbrev pub of_journal : JournalFault → AuditFault
of_journal journal.DiskFailed = fault.DiskFailed
of_journal (journal.Damaged at) = fault.Damaged at
of_journal journal.Memory = fault.Memory

-- ---- what is read

-- no header begins the bytes
abbrev pub BeginsNoHeader : List ℕ → Type 0
BeginsNoHeader bytes = (h : Header) (rest : List ℕ) → IsHeader h → bytes ≡ header_bytes h ++ rest → ⊥

-- no entry begins the bytes
abbrev pub BeginsNoEntry : List ℕ → Type 0
BeginsNoEntry bytes = (e : Entry) (rest : List ℕ) → IsEntry e → bytes ≡ entry_bytes e ++ rest → ⊥

-- The bytes begin with a header and these entries, and this is left. The entries account for themselves, from the state
-- to the state behind.
pub record Begins (keys : Keys) (s : State) (bytes : List ℕ) (rest : List ℕ) : Type 0 where
  pub header : Header
  pub such : IsHeader header
  pub entries : List Entry
  pub each : All IsEntry entries
  pub bytes_are : bytes ≡ header_bytes header ++ flat_map entry_bytes entries ++ rest
  pub behind : State
  pub account : Accounts keys header s entries behind

-- the entry behind these does not account for its answer
pub record BreaksOff (keys : Keys) (s : State) (bytes : List ℕ) (at : ℕ) : Type 0 where
  pub rest : List ℕ
  pub begins : Begins keys s bytes rest
  pub entry : Entry
  pub such : IsEntry entry
  pub more : List ℕ
  pub rest_is : rest ≡ entry_bytes entry ++ more
  pub fits_not : LeadsTo keys begins.header begins.behind entry None
  pub at_is : at ≡ length begins.entries
  pub few : at < 2 ^ 32

-- Of the whole trace, which begins the journal of this state:
-- it has so many entries, all account for themselves, and so many pass,
pub record IsLegal (keys : Keys) (s : State) (bytes : List ℕ) (entries passed : ℕ) : Type 0 where
  pub begins : Begins keys s bytes []
  pub entries_are : entries ≡ length begins.entries
  pub passed_are : passed ≡ count_by passes begins.entries
  pub few : entries ≤ 2 ^ 32

-- or it is torn at the place: there no header begins, or no entry, and something is left,
pub data IsTorn (keys : Keys) (s : State) (bytes : List ℕ) (at : ℕ) : Type 0 where
  in_header : at ≡ 0 → BeginsNoHeader bytes → IsTorn keys s bytes at
  in_entry : (rest : List ℕ) (begins : Begins keys s bytes rest) → rest ≢ [] → BeginsNoEntry rest → length begins.entries < 2 ^ 32
      → at + length rest ≡ length bytes → IsTorn keys s bytes at

-- or something is left behind the most entries.
pub record IsTooLong (keys : Keys) (s : State) (bytes : List ℕ) : Type 0 where
  pub rest : List ℕ
  pub begins : Begins keys s bytes rest
  pub most : length begins.entries ≡ 2 ^ 32
  pub some : rest ≢ []

-- What was said of a trace over the journal of this state, by the bytes that came of it. A trace that is legal or torn
-- came whole. Other faults say nothing of a trace.
abbrev pub Says : Keys → State → Option (List ℕ) → List ℕ → Result Verdict AuditFault → Type 0
Says keys s left' bytes (Ok (verdict.Legal entries passed)) = IsAtEnd left' × IsLegal keys s bytes entries passed
Says keys s left' bytes (Ok (verdict.Illegal at)) = BreaksOff keys s bytes at
Says keys s left' bytes (Err fault.DiskFailed) = ⊥
Says keys s left' bytes (Err (fault.Damaged at)) = ⊥
Says keys s left' bytes (Err fault.SourceFailed) = ⊥
Says keys s left' bytes (Err (fault.Torn at)) = IsAtEnd left' × IsTorn keys s bytes at
Says keys s left' bytes (Err fault.TooLong) = IsTooLong keys s bytes
Says keys s left' bytes (Err fault.Memory) = ⊥

-- the journal was read, and gives the state
abbrev pub IsJournalOf : Store → State → Type 0
IsJournalOf store s = store.told ≡ true → GivesState store.reads s

-- it is damaged at the place
abbrev pub IsDamaged : Store → ℕ → Type 0
IsDamaged store at = store.told ≡ true → IsDamagedAt store.reads at

-- this says that the journal gives no state
abbrev pub IsOfJournal : Result Verdict AuditFault → Type 0
IsOfJournal (Ok v) = ⊥
IsOfJournal (Err fault.DiskFailed) = Unit {0}
IsOfJournal (Err (fault.Damaged at)) = Unit {0}
IsOfJournal (Err fault.SourceFailed) = ⊥
IsOfJournal (Err (fault.Torn at)) = ⊥
IsOfJournal (Err fault.TooLong) = ⊥
IsOfJournal (Err fault.Memory) = ⊥

-- What was said of a journal and a trace: the journal is damaged, or was not read, or this was said of the trace.
pub data Audits (keys : Keys) (store : Store) (left left' : Option (List ℕ)) (said : Result Verdict AuditFault) : Type 0 where
  damaged : (at : ℕ) → said ≡ Err (fault.Damaged at) → IsDamaged store at → Audits keys store left left' said
  unread : (said ≡ Err fault.DiskFailed) ⊎ (said ≡ Err fault.SourceFailed) ⊎ (said ≡ Err fault.Memory) → Audits keys store left left' said
  judged : (s : State) (bytes : List ℕ) → IsJournalOf store s → Consumes left left' bytes → Says keys s left' bytes said → Audits keys store left left' said

-- the journal and the trace were read, and memory was at hand
abbrev pub WasRead : Result Verdict AuditFault → Type 0
WasRead said = (said ≡ Err fault.DiskFailed) ⊎ (said ≡ Err fault.SourceFailed) ⊎ (said ≡ Err fault.Memory) → ⊥
