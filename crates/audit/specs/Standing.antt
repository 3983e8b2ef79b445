-- A trace as far as it was read and judged. Only private clauses cite this file.
use Rattle.std.specs.Prelude.{◌≡◌, ℕ, ◌+◌, ◌≤◌, ◌^◌, All, List, ◌++◌, length, count_by, Option, Some, None, Result, Ok, Err}
use Rattle.std.specs.List.{flat_map}
use Rattle.std.specs.Io.KnownBytes.{Consumes}
use Rattle.address_keys.specs.declared.keys.Keys.{Keys}
use Rattle.audit.specs.Accounts.{Accounts, passes}
use Rattle.audit.specs.Verdicts.{Says}
use Rattle.audit.specs.declared.entries.Audit.{Audit}
use Rattle.audit.specs.declared.verdict.AuditFault.{AuditFault}
use Rattle.audit.specs.declared.verdict.AuditFault.TheVariants as fault
use Rattle.audit.specs.declared.verdict.Verdict.{Verdict}
use Rattle.plain_exchange.specs.State.{State}
use Rattle.trace.specs.Traces.{IsEntry, IsHeader, entry_bytes, header_bytes}
use Rattle.trace.specs.declared.entry.Entry.{Entry}
use Rattle.trace.specs.declared.header.Header.{Header}

-- The bytes that came begin with the header and with entries that account for themselves from the state to that of the
-- exchange, and what is held is left of them.
pub record IsStanding (keys : Keys) (s : State) (left left' : Option (List ℕ)) (a : Audit) : Type 0 where
  pub bytes : List ℕ
  pub consumes : Consumes left left' bytes
  pub such : IsHeader a.header
  pub entries : List Entry
  pub each : All IsEntry entries
  pub bytes_are : bytes ≡ header_bytes a.header ++ flat_map entry_bytes entries ++ a.input
  pub account : Accounts keys a.header s entries a.core.state
  pub count_is : a.entries ≡ length entries
  pub passed_is : a.passed ≡ count_by passes entries
  pub place_is : a.place + length a.input ≡ length bytes

-- what was said of all that came
abbrev pub SaysOf : Keys → State → Option (List ℕ) → Option (List ℕ) → Result Verdict AuditFault → Type 0
SaysOf keys s left left' said = (bytes : List ℕ) × Consumes left left' bytes × Says keys s left' bytes said

-- this was said of all that came, or the source or the memory for it failed
abbrev pub Said : Keys → State → Option (List ℕ) → Option (List ℕ) → Result Verdict AuditFault → Type 0
Said keys s left left' (Ok verdict) = SaysOf keys s left left' (Ok verdict)
Said keys s left left' (Err fault.DiskFailed) = ⊥
Said keys s left left' (Err (fault.Damaged at)) = ⊥
Said keys s left left' (Err fault.SourceFailed) = Unit {0}
Said keys s left left' (Err (fault.Torn at)) = SaysOf keys s left left' (Err (fault.Torn at))
Said keys s left left' (Err fault.TooLong) = SaysOf keys s left left' (Err fault.TooLong)
Said keys s left left' (Err fault.Memory) = Unit {0}

-- one entry more was read and judged, or something was said
abbrev pub Goes : Keys → State → Option (List ℕ) → Option (List ℕ) → Audit → Result (Option Verdict) AuditFault → Type 0
Goes keys s left left' a (Ok None) = IsStanding keys s left left' a
Goes keys s left left' a (Ok (Some verdict)) = Said keys s left left' (Ok verdict)
Goes keys s left left' a (Err fault) = Said keys s left left' (Err fault)

-- the entry stands between what was judged and what is held
pub record IsBefore (keys : Keys) (s : State) (left left' : Option (List ℕ)) (e : Entry) (a : Audit) : Type 0 where
  pub bytes : List ℕ
  pub consumes : Consumes left left' bytes
  pub such : IsHeader a.header
  pub entries : List Entry
  pub each : All IsEntry entries
  pub bytes_are : bytes ≡ header_bytes a.header ++ flat_map entry_bytes entries ++ (entry_bytes e ++ a.input)
  pub account : Accounts keys a.header s entries a.core.state
  pub count_is : a.entries ≡ length entries
  pub passed_is : a.passed ≡ count_by passes entries
  pub place_is : a.place + length (entry_bytes e ++ a.input) ≡ length bytes
