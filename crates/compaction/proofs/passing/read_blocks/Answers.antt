use Rattle.std.proofs.Common.{◌∙◌, [], ◌∷◌, ◌++◌, ap, refl, subst, sym}
use Rattle.std.specs.Prelude.{Bool, Ok, Err, Result}
use Rattle.std.proofs.lemmas.Result.{err_from_is_err_and}
use Rattle.compaction.specs.Passing.{AreRead, Steps}
use Rattle.compaction.proofs.Walking.{none_walked, walks_on, walks_to_end, why_then}
use Rattle.journal_file.specs.declared.faults.JournalFault.{JournalFault}
use Rattle.recovery.proofs.Walking.{rises_as, stays}
use Rattle.compaction.proofs.passing.read_blocks.Goals as goal

pub loop-init : goal.loop-init
loop-init g c = record { walked = ([], none_walked g.D.Disk c.args.from.now c.args.core.now.state c.args.gate.now); led = λ led. led; same = refl; faults = refl }

pub returns-in_err-more-clause-read : goal.returns-in_err-more-clause-read
returns-in_err-more-clause-read g c =
    let inv = c.loop.invariant in
    let p = err_from_is_err_and c.from_residual.result c.from_residual.ensures.1 in
    let is = p.1 ∙ ap Err p.2 in
    subst (λ (r : Result Unit JournalFault). AreRead g.D.Disk c.args.from.now c.pass_block.new.from c.args.core.now.state c.pass_block.new.core.state c.args.gate.now c.pass_block.new.gate r) (sym is)
    (why_then g.D.Disk c.args.from.now c.loop.from c.pass_block.new.from inv.walked.0 c.args.core.now.state c.loop.core.state c.args.gate.now c.loop.gate inv.same inv.walked.1 c.in_err-more.field-0.0 c.in_err-more.ensures.steps)

pub returns-in_err-more-clause-cause : goal.returns-in_err-more-clause-cause
returns-in_err-more-clause-cause g c =
    let p = err_from_is_err_and c.from_residual.result c.from_residual.ensures.1 in
    let is = p.1 ∙ ap Err p.2 in
    rises_as c.from_residual.result (Err c.in_err-more.field-0.0) c.in_err-more.field-0.0 (g.D.Disk.faults c.args.from.now) (g.D.Disk.faults c.loop.from) (g.D.Disk.faults c.pass_block.new.from) is refl c.loop.invariant.faults c.in_err-more.ensures.cause

pub returns-then-not-more-clause-read : goal.returns-then-not-more-clause-read
returns-then-not-more-clause-read g c =
    let inv = c.loop.invariant in
    let steps = subst (λ (b : Bool). Steps g.D.Disk c.loop.from c.pass_block.new.from c.pass_block.new.payload c.loop.core.state c.pass_block.new.core.state c.loop.gate c.pass_block.new.gate (Ok b)) c.if-not-more.true c.in_ok-more.ensures.steps in
    (inv.walked.0 ++ [], walks_to_end g.D.Disk c.args.from.now c.loop.from c.pass_block.new.from inv.walked.0 c.args.core.now.state c.loop.core.state c.args.gate.now c.loop.gate inv.same inv.walked.1 [] c.pass_block.new.core.state c.pass_block.new.gate steps)

pub returns-then-not-more-clause-cause : goal.returns-then-not-more-clause-cause
returns-then-not-more-clause-cause g c =
    stays _ (g.D.Disk.faults c.args.from.now) (g.D.Disk.faults c.pass_block.new.from) (λ e. absurd (cc e)) (c.in_ok-more.ensures.cause.2 (λ e. absurd (cc e)) ∙ c.loop.invariant.faults)

pub loop-preserved : goal.loop-preserved
loop-preserved g c =
    let inv = c.loop.invariant in
    let h = c.in_ok-more.ensures in
    let payload = c.pass_block.new.payload in
    let steps = subst (λ (b : Bool). Steps g.D.Disk c.loop.from c.pass_block.new.from payload c.loop.core.state c.pass_block.new.core.state c.loop.gate c.pass_block.new.gate (Ok b)) c.if-not-more.false h.steps in
    record {
      walked = (inv.walked.0 ++ payload ∷ [], walks_on g.D.Disk c.args.from.now c.loop.from c.pass_block.new.from inv.walked.0 c.args.core.now.state c.loop.core.state c.args.gate.now c.loop.gate inv.same inv.walked.1 (payload ∷ []) c.pass_block.new.core.state c.pass_block.new.gate steps);
      led = λ led. h.led (inv.led led);
      same = h.same ∙ inv.same;
      faults = h.cause.2 (λ e. absurd (cc e)) ∙ inv.faults;
    }
