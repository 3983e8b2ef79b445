use Rattle.std.proofs.Common.{◌∙◌, [], ◌++◌, ap, refl, subst, sym}
use Rattle.std.specs.Prelude.{Bool, Ok, Err, Result}
use Rattle.std.proofs.lemmas.List.{append-nil}
use Rattle.std.proofs.lemmas.Result.{err_from_is_err_and}
use Rattle.compaction.specs.Passing.{AreWritten, WritesStep}
use Rattle.compaction.specs.declared.fault.CompactionFault.{CompactionFault}
use Rattle.compaction.specs.declared.fault.CompactionFault.TheVariants.{NotRead, WriteFailed}
use Rattle.compaction.proofs.Gathered.{begun_stays}
use Rattle.compaction.proofs.Walking.{added_then, none_walked, rises_then, walks_on, walks_to_end, why_written_then}
use Rattle.journal_file.specs.Compaction.{Adds, faults_written, store_written}
use Rattle.journal_file.specs.Unfinished.{IsUnfinished}
use Rattle.journal_file.specs.declared.faults.JournalFault.TheVariants as journal
use Rattle.recovery.proofs.Walking.{stays}
use Rattle.rtb_disk.proofs.Moments.{always_then}
use Rattle.compaction.proofs.passing.write_blocks.Goals as goal

pub loop-init : goal.loop-init
loop-init g c = record {
  walked = ([], none_walked g.D.Disk c.args.from.now c.args.core.now.state c.args.gate.now, λ written adds. subst (λ l. Adds c.args.file.now l) (sym (append-nil written)) adds);
  any_moment = λ written adds. begun_stays c.args.file.now written adds;
  whole = c.requires.whole;
  same = refl;
  read_faults = refl;
  write_faults = refl;
}

pub returns-in_err-more-clause-written : goal.returns-in_err-more-clause-written
returns-in_err-more-clause-written g c =
    let inv = c.loop.invariant in
    let p = err_from_is_err_and c.from_residual.result c.from_residual.ensures.1 in
    let is = p.1 ∙ ap Err p.2 in
    subst (λ (r : Result Unit CompactionFault). AreWritten g.D.Disk c.args.from.now c.write_block.new.from c.args.core.now.state c.write_block.new.core.state c.args.gate.now c.write_block.new.gate c.args.file.now c.write_block.new.file r) (sym is)
    (why_written_then g.D.Disk c.args.from.now c.loop.from c.write_block.new.from inv.walked.0 c.args.core.now.state c.loop.core.state c.args.gate.now c.loop.gate inv.same inv.walked.1 c.in_err-more.field-0.0 c.in_err-more.ensures.steps)

pub returns-in_err-more-clause-any_moment : goal.returns-in_err-more-clause-any_moment
returns-in_err-more-clause-any_moment g c = λ written adds.
    let inv = c.loop.invariant in
    always_then IsUnfinished (store_written c.args.file.now) (store_written c.loop.file) (store_written c.write_block.new.file) (inv.any_moment written adds) (c.in_err-more.ensures.any_moment (written ++ inv.walked.0) (inv.walked.2 written adds))

pub returns-in_err-more-clause-read_cause : goal.returns-in_err-more-clause-read_cause
returns-in_err-more-clause-read_cause g c =
    let p = err_from_is_err_and c.from_residual.result c.from_residual.ensures.1 in
    let is = p.1 ∙ ap Err p.2 in
    rises_then c.from_residual.result (Err c.in_err-more.field-0.0) c.in_err-more.field-0.0 (NotRead journal.DiskFailed) (g.D.Disk.faults c.args.from.now) (g.D.Disk.faults c.loop.from) (g.D.Disk.faults c.write_block.new.from) is refl c.loop.invariant.read_faults c.in_err-more.ensures.read_cause

pub returns-in_err-more-clause-write_cause : goal.returns-in_err-more-clause-write_cause
returns-in_err-more-clause-write_cause g c =
    let p = err_from_is_err_and c.from_residual.result c.from_residual.ensures.1 in
    let is = p.1 ∙ ap Err p.2 in
    rises_then c.from_residual.result (Err c.in_err-more.field-0.0) c.in_err-more.field-0.0 WriteFailed (faults_written c.args.file.now) (faults_written c.loop.file) (faults_written c.write_block.new.file) is refl c.loop.invariant.write_faults c.in_err-more.ensures.write_cause

pub returns-then-not-more-clause-written : goal.returns-then-not-more-clause-written
returns-then-not-more-clause-written g c =
    let inv = c.loop.invariant in
    let steps = subst (λ (b : Bool). WritesStep g.D.Disk c.loop.from c.write_block.new.from c.loop.core.state c.write_block.new.core.state c.loop.gate c.write_block.new.gate c.loop.file c.write_block.new.file (Ok b)) c.if-not-more.true c.in_ok-more.ensures.steps in (
      inv.walked.0 ++ [],
      walks_to_end g.D.Disk c.args.from.now c.loop.from c.write_block.new.from inv.walked.0 c.args.core.now.state c.loop.core.state c.args.gate.now c.loop.gate inv.same inv.walked.1 [] c.write_block.new.core.state c.write_block.new.gate steps.0,
      added_then g.D.Disk c.args.file.now c.loop.file c.write_block.new.file inv.walked.0 [] inv.walked.2 steps.1,
    )

pub returns-then-not-more-clause-any_moment : goal.returns-then-not-more-clause-any_moment
returns-then-not-more-clause-any_moment g c = λ written adds.
    let inv = c.loop.invariant in
    always_then IsUnfinished (store_written c.args.file.now) (store_written c.loop.file) (store_written c.write_block.new.file) (inv.any_moment written adds) (c.in_ok-more.ensures.any_moment (written ++ inv.walked.0) (inv.walked.2 written adds))

pub returns-then-not-more-clause-read_cause : goal.returns-then-not-more-clause-read_cause
returns-then-not-more-clause-read_cause g c =
    stays _ (g.D.Disk.faults c.args.from.now) (g.D.Disk.faults c.write_block.new.from) (λ e. absurd (cc e)) (c.in_ok-more.ensures.read_cause.2 (λ e. absurd (cc e)) ∙ c.loop.invariant.read_faults)

pub returns-then-not-more-clause-write_cause : goal.returns-then-not-more-clause-write_cause
returns-then-not-more-clause-write_cause g c =
    stays _ (faults_written c.args.file.now) (faults_written c.write_block.new.file) (λ e. absurd (cc e)) (c.in_ok-more.ensures.write_cause.2 (λ e. absurd (cc e)) ∙ c.loop.invariant.write_faults)

pub loop-preserved : goal.loop-preserved
loop-preserved g c =
    let inv = c.loop.invariant in
    let h = c.in_ok-more.ensures in
    let steps = subst (λ (b : Bool). WritesStep g.D.Disk c.loop.from c.write_block.new.from c.loop.core.state c.write_block.new.core.state c.loop.gate c.write_block.new.gate c.loop.file c.write_block.new.file (Ok b)) c.if-not-more.false h.steps in
    record {
      walked = (
        inv.walked.0 ++ steps.0,
        walks_on g.D.Disk c.args.from.now c.loop.from c.write_block.new.from inv.walked.0 c.args.core.now.state c.loop.core.state c.args.gate.now c.loop.gate inv.same inv.walked.1 steps.0 c.write_block.new.core.state c.write_block.new.gate steps.1,
        added_then g.D.Disk c.args.file.now c.loop.file c.write_block.new.file inv.walked.0 steps.0 inv.walked.2 steps.2,
      );
      any_moment = λ written adds. always_then IsUnfinished (store_written c.args.file.now) (store_written c.loop.file) (store_written c.write_block.new.file) (inv.any_moment written adds) (h.any_moment (written ++ inv.walked.0) (inv.walked.2 written adds));
      whole = h.whole;
      same = h.same ∙ inv.same;
      read_faults = h.read_cause.2 (λ e. absurd (cc e)) ∙ inv.read_faults;
      write_faults = h.write_cause.2 (λ e. absurd (cc e)) ∙ inv.write_faults;
    }
