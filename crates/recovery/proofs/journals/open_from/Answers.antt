use Rattle.std.proofs.Common.{◌∙◌, inl, inr, ap, subst, sym}
use Rattle.std.specs.Prelude.{Err}
use Rattle.journal_file.specs.Blocks.{journal_names}
use Rattle.journal_file.specs.Standing.{store_of}
use Rattle.journal_file.specs.Readings.{faults_read, reads_of}
use Rattle.rtb_disk.specs.Stores.{Store}
use Rattle.rtb_base.specs.Faults.{Rose}
use Rattle.recovery.specs.Openings.{Opens}
use Rattle.recovery.proofs.Completing.{completed, made_journal, still}
use Rattle.recovery.proofs.journals.open_from.Goals as goal

pub returns-in-Ok-finish-clause-opened : goal.returns-in-Ok-finish-clause-opened
returns-in-Ok-finish-clause-opened g c = λ start.
    made_journal c.replay.new.reading c.in-Ok-finish.journal c.in-Ok.core (reads_of c.args.reading) (ap (λ (s : Store). s.reads) c.in-Ok.ensures.same) (c.in-Ok.ensures.made start) (λ payloads r. (c.in-Ok-finish.ensures.kept journal_names payloads r).0) c.in-Ok-finish.ensures.created

pub returns-in-Ok-finish-clause-any_moment : goal.returns-in-Ok-finish-clause-any_moment
returns-in-Ok-finish-clause-any_moment g c = λ start effects has. elim (c.in-Ok.ensures.made start).such [
  | inl r ↦ still c.args.reading effects (store_of c.in-Ok-finish.journal) start has ((c.in-Ok-finish.ensures.kept journal_names (c.in-Ok.ensures.made start).payloads r).1 ∙ c.in-Ok.ensures.same)
  | inr r ↦ completed c.args.reading c.replay.new.reading effects (store_of c.in-Ok-finish.journal) c.in-Ok.ensures.same r.1 has (c.in-Ok-finish.ensures.any_moment r.1)
]

pub returns-in-Err-finish-clause-any_moment : goal.returns-in-Err-finish-clause-any_moment
returns-in-Err-finish-clause-any_moment g c = λ start effects has. elim (c.in-Ok.ensures.made start).such [
  | inl r ↦ absurd (c.in-Err-finish.ensures.kept journal_names (c.in-Ok.ensures.made start).payloads r)
  | inr r ↦ completed c.args.reading c.replay.new.reading effects (g.D.Disk.store c.in-Err-finish.failed.0) c.in-Ok.ensures.same r.1 has (c.in-Err-finish.ensures.any_moment r.1)
]

pub returns-in-Err-clause-any_moment : goal.returns-in-Err-clause-any_moment
returns-in-Err-clause-any_moment g c = λ start effects has.
    still c.args.reading effects _ start has (ap g.D.Disk.store c.into_disk.ensures ∙ c.in-Err.ensures.same)

pub returns-in-Ok-finish-clause-state : goal.returns-in-Ok-finish-clause-state
returns-in-Ok-finish-clause-state g c = c.in-Ok.ensures.opened

pub returns-in-Ok-finish-clause-settings : goal.returns-in-Ok-finish-clause-settings
returns-in-Ok-finish-clause-settings g c = c.in-Ok.ensures.settings

pub returns-in-Ok-finish-clause-whole : goal.returns-in-Ok-finish-clause-whole
returns-in-Ok-finish-clause-whole g c = c.in-Ok-finish.ensures.whole

pub returns-in-Ok-finish-clause-cause : goal.returns-in-Ok-finish-clause-cause
returns-in-Ok-finish-clause-cause g c = λ kept. tt

pub returns-in-Ok-finish-clause-quiet : goal.returns-in-Ok-finish-clause-quiet
returns-in-Ok-finish-clause-quiet g c = λ kept. c.in-Ok-finish.ensures.cause ∙ (c.in-Ok.ensures.cause kept).2 (λ e. cc)

pub returns-in-Err-finish-clause-opened : goal.returns-in-Err-finish-clause-opened
returns-in-Err-finish-clause-opened g c = λ start.
    subst (λ e. Opens (reads_of c.args.reading) (Err e)) (sym c.in-Err-finish.ensures.cause.0) tt

pub returns-in-Err-finish-clause-state : goal.returns-in-Err-finish-clause-state
returns-in-Err-finish-clause-state g c = λ start. tt

pub returns-in-Err-finish-clause-settings : goal.returns-in-Err-finish-clause-settings
returns-in-Err-finish-clause-settings g c = tt

pub returns-in-Err-finish-clause-whole : goal.returns-in-Err-finish-clause-whole
returns-in-Err-finish-clause-whole g c = tt

pub returns-in-Err-finish-clause-cause : goal.returns-in-Err-finish-clause-cause
returns-in-Err-finish-clause-cause g c = λ kept e.
    subst (λ n. Rose n (g.D.Disk.faults c.in-Err-finish.failed.0)) ((c.in-Ok.ensures.cause kept).2 (λ e. cc)) c.in-Err-finish.ensures.cause.1

pub returns-in-Err-finish-clause-quiet : goal.returns-in-Err-finish-clause-quiet
returns-in-Err-finish-clause-quiet g c = λ kept other. absurd (other c.in-Err-finish.ensures.cause.0)

pub returns-in-Err-clause-opened : goal.returns-in-Err-clause-opened
returns-in-Err-clause-opened g c = c.in-Err.ensures.opened

pub returns-in-Err-clause-state : goal.returns-in-Err-clause-state
returns-in-Err-clause-state g c = λ start. tt

pub returns-in-Err-clause-settings : goal.returns-in-Err-clause-settings
returns-in-Err-clause-settings g c = tt

pub returns-in-Err-clause-whole : goal.returns-in-Err-clause-whole
returns-in-Err-clause-whole g c = tt

pub returns-in-Err-clause-cause : goal.returns-in-Err-clause-cause
returns-in-Err-clause-cause g c = λ kept e.
    subst (λ n. Rose (faults_read c.args.reading) n) (sym (ap g.D.Disk.faults c.into_disk.ensures)) ((c.in-Err.ensures.cause kept).1 (ap Err e))

pub returns-in-Err-clause-quiet : goal.returns-in-Err-clause-quiet
returns-in-Err-clause-quiet g c = λ kept other. ap g.D.Disk.faults c.into_disk.ensures ∙ (c.in-Err.ensures.cause kept).2 (λ e. other (cc))
