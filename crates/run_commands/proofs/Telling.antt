-- From what was called to what a command comes to.
use Rattle.std.proofs.Common.{◌≡◌, ◌≢◌, ◌⊎◌, ℕ, List, [], ◌∷◌, Option, Result, Ok, Err, true, refl, sym, ap, arith, ◌∙◌}
use Rattle.std.specs.Prelude.{IfErr, MatchResult}
use Rattle.journal_file.specs.declared.faults.JournalFault.{JournalFault}
use Rattle.journal_file.specs.declared.faults.JournalFault.TheVariants as fault
use Rattle.link_door.specs.declared.world.WorldFault.{WorldFault}
use Rattle.link_door.specs.declared.world.WorldFault.TheVariants as world
use Rattle.plain_exchange.specs.declared.changes.Effect.{Effect}
use Rattle.recovery.specs.Openings.{IsUnwritten, Opens as Opens', Recovers as Recovers'}
use Rattle.recovery.specs.Texts.{HasText}
use Rattle.rtb_base.specs.Faults.{RisesOnlyWhere, Rose}
use Rattle.rtb_disk.specs.Stores.{Always, Store, settled}
use Rattle.rtb_disk.specs.declared.disk.Disk.{Ghosts}
use Rattle.rtb_io.specs.Statuses.{code_of}
use Rattle.rtb_io.specs.declared.status.Status.{Status}
use Rattle.rtb_io.specs.declared.status.Status.TheVariants as status
use Rattle.run_commands.specs.Endings.{Ends}
use Rattle.run_commands.specs.Journals.{EndsAt, HasCause}
use Rattle.run_commands.specs.Recover.{Tells, counted, faulty}
use Rattle.run_commands.specs.Serve.{IsRefused}
use Rattle.run_commands.specs.Given.{HasFailed}

pub tells : (store : Store) (faults faults' : ℕ) (text : List ℕ) (w w' : Option (List ℕ)) (code : ℕ) (r : Result (Unit {0}) JournalFault)
    → (store.told ≡ true → Recovers' store.reads [] text r) → RisesOnlyWhere (r ≡ Err fault.DiskFailed) faults faults'
    → MatchResult r (λ _. Ends status.Done text w w' code) (λ f. EndsAt f w w' code) → Tells store faults faults' w w' code
tells store faults faults' text w w' code (Ok u) says cause h = counted text says (cause.2 (λ e. cc)) h
tells store faults faults' text w w' code (Err fault.DiskFailed) says cause h = faulty fault.DiskFailed (cause.1 refl) h
tells store faults faults' text w w' code (Err (fault.Damaged at)) says cause h = faulty (fault.Damaged at) (cause.2 (λ e. cc), says) h
tells store faults faults' text w w' code (Err fault.Memory) says cause h = faulty fault.Memory (cause.2 (λ e. cc)) h

pub has_cause : (store : Store) (faults faults' : ℕ) (f : JournalFault) → (store.told ≡ true → Opens' store.reads (Err f)) → (f ≡ fault.DiskFailed → Rose faults faults')
    → (f ≢ fault.DiskFailed → faults' ≡ faults) → HasCause store faults faults' f
has_cause store faults faults' fault.DiskFailed says rose quiet = rose refl
has_cause store faults faults' (fault.Damaged at) says rose quiet = (quiet (λ e. cc), says)
has_cause store faults faults' fault.Memory says rose quiet = quiet (λ e. cc)

-- what a refused opening says, in one
pub refused : {D T : Type 0} (G : Ghosts D) (disk : D) (r : Result T (D × JournalFault)) → ((G.store disk).told ≡ true → IfErr r (λ e. Opens' (G.store disk).reads (Err e.1)))
    → ((G.store disk).told ≡ true → (effects : List Effect) → HasText (G.store disk).reads effects → IfErr r (λ e. (G.store e.0 ≡ G.store disk) ⊎ Always (λ image. HasText image effects) (settled (G.store disk)) (G.store e.0)))
    → IfErr r (λ e. e.1 ≢ fault.DiskFailed → e.1 ≢ fault.Memory → IsUnwritten (G.store disk) (G.store e.0)) → IfErr r (λ e. e.1 ≡ fault.DiskFailed → Rose (G.faults disk) (G.faults e.0))
    → IfErr r (λ e. e.1 ≢ fault.DiskFailed → G.faults e.0 ≡ G.faults disk) → IfErr r (λ e. IsRefused G disk e.0 e.1)
refused G disk (Ok x) damaged any unwritten rose quiet = tt
refused G disk (Err e) damaged any unwritten rose quiet = record { same = any; unwritten = unwritten; cause = has_cause (G.store disk) (G.faults disk) (G.faults e.0) e.1 damaged rose quiet }

pub has_failed : {A : Type 0} (f : WorldFault) (count count' : ℕ) → RisesOnlyWhere (◌≡◌ {A = Result A WorldFault} (Err f) (Err world.Failed)) count count' → HasFailed f count count'
has_failed world.Failed count count' h = h.1 refl
has_failed world.Memory count count' h = h.2 (λ e. cc)

is_not_written : (s : Status) → code_of s ≡ 7 → s ≡ status.NotWritten
is_not_written status.Done e = absurd (omega arith)
is_not_written status.Refused e = absurd (omega arith)
is_not_written status.Usage e = absurd (omega arith)
is_not_written status.NoDoor e = absurd (omega arith)
is_not_written status.NoDisk e = absurd (omega arith)
is_not_written status.JournalFailed e = absurd (omega arith)
is_not_written status.Damaged e = absurd (omega arith)
is_not_written status.NotWritten e = refl
is_not_written status.DoorFailed e = absurd (omega arith)
is_not_written status.Memory e = absurd (omega arith)
is_not_written status.NotRead e = absurd (omega arith)
is_not_written status.LastWriteFailed e = absurd (omega arith)
is_not_written status.NotEmpty e = absurd (omega arith)
is_not_written status.WriteFailed e = absurd (omega arith)
is_not_written status.TraceTorn e = absurd (omega arith)
is_not_written status.TraceTooLong e = absurd (omega arith)
is_not_written status.NoKey e = absurd (omega arith)

-- what is said of a status holds of its number
pub rises_by_code : (s : Status) (code count count' : ℕ) → code ≡ code_of s → RisesOnlyWhere (s ≡ status.NotWritten) count count'
    → RisesOnlyWhere (code ≡ code_of status.NotWritten) count count'
rises_by_code s code count count' is h = (h.0, λ e. h.1 (is_not_written s (sym is ∙ e)), λ other. h.2 (λ e. other (is ∙ ap code_of e)))
