-- An audit over a journal, and what it reads of the source.
use Rattle.std.proofs.Common.{◌≡◌, ◌∙◌, ℕ, List, Option, Result, Ok, Err, true, refl, sym, ap, subst, arith, inl, inr}
use Rattle.std.specs.Prelude.{IfErr, IfOk, OnOk}
use Rattle.address_keys.specs.declared.keys.Keys.{Keys}
use Rattle.auction_core.specs.Core.{CoreState}
use Rattle.audit.specs.Standing.{Said}
use Rattle.audit.specs.Verdicts.{Audits, IsOfJournal, of_journal, of_source}
use Rattle.audit.specs.declared.input.Next.{Next}
use Rattle.audit.specs.declared.verdict.AuditFault.{AuditFault}
use Rattle.audit.specs.declared.verdict.AuditFault.TheVariants as fault
use Rattle.audit.specs.declared.verdict.Verdict.{Verdict}
use Rattle.audit.proofs.Coming.{stands}
use Rattle.journal_file.specs.declared.faults.JournalFault.{JournalFault}
use Rattle.journal_file.specs.declared.faults.JournalFault.TheVariants as journal
use Rattle.plain_exchange.specs.State.{State}
use Rattle.recovery.specs.Openings.{Opens}
use Rattle.recovery.specs.Texts.{GivesState}
use Rattle.rtb_base.specs.Faults.{RisesOnlyWhere, Rose}
use Rattle.rtb_base.proofs.Chains.{RisesOnlyWhere-last}
use Rattle.rtb_disk.specs.Stores.{Store}
use Rattle.rtb_io.specs.declared.ReadFault.{ReadFault}
use Rattle.rtb_io.specs.declared.ReadFault.TheVariants as read
use Rattle.trace.specs.declared.header.Header.{Header}

-- what was said of a trace over a journal that gives this state
said_audits : (keys : Keys) (store : Store) (s : State) (left left' : Option (List ℕ)) (said : Result Verdict AuditFault) → (store.told ≡ true → GivesState store.reads s) → Said keys s left left' said → Audits keys store left left' said
said_audits keys store s left left' (Ok v) gives (bytes, consumes, says) = Audits.judged s bytes gives consumes says
said_audits keys store s left left' (Err fault.DiskFailed) gives said = absurd said
said_audits keys store s left left' (Err (fault.Damaged at)) gives said = absurd said
said_audits keys store s left left' (Err fault.SourceFailed) gives said = Audits.unread (inr (inl refl))
said_audits keys store s left left' (Err (fault.Torn at)) gives (bytes, consumes, says) = Audits.judged s bytes gives consumes says
said_audits keys store s left left' (Err fault.TooLong) gives (bytes, consumes, says) = Audits.judged s bytes gives consumes says
said_audits keys store s left left' (Err fault.Memory) gives said = Audits.unread (inr (inr refl))

-- what was said where the journal gives none
unread_audits : (keys : Keys) (store : Store) (left left' : Option (List ℕ)) (said : Result Verdict AuditFault) (f : JournalFault) → (store.told ≡ true → Opens store.reads (Err f)) → said ≡ Err (of_journal f) → Audits keys store left left' said
unread_audits keys store left left' said journal.DiskFailed opens is = Audits.unread (inl is)
unread_audits keys store left left' said (journal.Damaged at) opens is = Audits.damaged at is opens
unread_audits keys store left left' said journal.Memory opens is = Audits.unread (inr (inr is))

pub audits_by : (keys : Keys) (store : Store) (left left' : Option (List ℕ)) (read : Result CoreState JournalFault) (said : Result Verdict AuditFault) → (store.told ≡ true → Opens store.reads read)
    → IfOk read (λ core. Said keys core.state left left' said) → IfErr read (λ f. said ≡ Err (of_journal f)) → Audits keys store left left' said
audits_by keys store left left' (Ok core) said opens says unread = said_audits keys store core.state left left' said opens says
audits_by keys store left left' (Err f) said opens says unread = unread_audits keys store left left' said f opens unread

-- ---- what of the source was read

-- what is said of a trace is nothing of the journal
not_of_journal : (keys : Keys) (s : State) (left left' : Option (List ℕ)) (said : Result Verdict AuditFault) → Said keys s left left' said → IsOfJournal said → ⊥
not_of_journal keys s left left' (Ok v) says is = is
not_of_journal keys s left left' (Err fault.DiskFailed) says is = says
not_of_journal keys s left left' (Err (fault.Damaged at)) says is = says
not_of_journal keys s left left' (Err fault.SourceFailed) says is = is
not_of_journal keys s left left' (Err (fault.Torn at)) says is = is
not_of_journal keys s left left' (Err fault.TooLong) says is = is
not_of_journal keys s left left' (Err fault.Memory) says is = is

-- so nothing was read
pub first_by : {Source : Type 0} (keys : Keys) (old new : Source) (left left' : Option (List ℕ)) (read : Result CoreState JournalFault) (said : Result Verdict AuditFault) → IfOk read (λ core. Said keys core.state left left' said)
    → IfErr read (λ _. new ≡ old) → IsOfJournal said → new ≡ old
first_by keys old new left left' (Ok core) said says same is = absurd (not_of_journal keys core.state left left' said says is)
first_by keys old new left left' (Err f) said says same is = same

-- a fault of the journal is none of the source
no_source : (f : JournalFault) (said : Result Verdict AuditFault) → said ≡ Err (of_journal f) → said ≡ Err fault.SourceFailed → ⊥
no_source journal.DiskFailed said is e = cc (is, e)
no_source (journal.Damaged at) said is e = cc (is, e)
no_source journal.Memory said is e = cc (is, e)

pub quiet_by : (f : JournalFault) (said : Result Verdict AuditFault) (n : ℕ) → said ≡ Err (of_journal f) → RisesOnlyWhere (said ≡ Err fault.SourceFailed) n n
quiet_by f said n is = stands (said ≡ Err fault.SourceFailed) n n refl (no_source f said is)

-- the count of a source from which a header was read, and then the rest of the trace
pub rises_behind : {Source : Type 0} (faults : Source → ℕ) (old mid new : Source) (header : Result (Next Header) ReadFault) (said : Result Verdict AuditFault) → RisesOnlyWhere (header ≡ Err read.Failed) (faults old) (faults mid)
    → OnOk header (RisesOnlyWhere (said ≡ Err fault.SourceFailed) (faults mid) (faults new)) → IfErr header (λ f. (said ≡ Err (of_source f)) × (new ≡ mid)) → RisesOnlyWhere (said ≡ Err fault.SourceFailed) (faults old) (faults new)
rises_behind faults old mid new (Ok h) said first rest none = RisesOnlyWhere-last (said ≡ Err fault.SourceFailed) (faults old) (faults mid) (faults new) (first.2 (λ e. cc e)) rest
rises_behind faults old mid new (Err read.Failed) said first rest none =
    let same : faults new ≡ faults mid = ap faults none.1 in
    (omega (arith, first.0, same), λ _. subst (Rose (faults old)) (sym same) (first.1 refl), λ no. absurd (no none.0))
rises_behind faults old mid new (Err read.Memory) said first rest none =
    stands (said ≡ Err fault.SourceFailed) (faults old) (faults new) (ap faults none.1 ∙ first.2 (λ e. cc e)) (λ e. cc (none.0, e))

-- what was said is none of the source, whatever was read before
pub quiet_torn : {A E : Type 0} (r : Result A E) (said : Result Verdict AuditFault) (at n : ℕ) → said ≡ Err (fault.Torn at) → OnOk r (RisesOnlyWhere (said ≡ Err fault.SourceFailed) n n)
quiet_torn (Ok x) said at n is = stands (said ≡ Err fault.SourceFailed) n n refl (λ e. cc (is, e))
quiet_torn (Err f) said at n is = tt
