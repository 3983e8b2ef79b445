use Rattle.std.proofs.Common.{◌≡◌, Err}
use Rattle.std.proofs.lemmas.Result.{err_from_is_err_and}
use Rattle.auction_core.specs.declared.fault.ApplyFault.{ApplyFault}
use Rattle.recovery.proofs.Joining.{applied_more, applied_stops, edits_so_far}
use Rattle.compaction.proofs.carrying.apply_all.Goals as goal

pub returns-in_err-apply_one-clause-unfit : goal.returns-in_err-apply_one-clause-unfit
returns-in_err-apply_one-clause-unfit c = λ unfit.
    let p = err_from_is_err_and c.from_residual.result c.from_residual.ensures.1 in
    let here : Err c.in_err-apply_one.field-0.0 ≡ Err ApplyFault.Unfit = cc (p.1, p.2, unfit) in
    applied_stops c.args.effects.now c.loop-effect.effect-index c.effect-item.result c.args.core.now.state c.loop-effect.core.state c.loop-effect-test.true c.effect-item.is c.loop-effect.invariant.after (c.in_err-apply_one.ensures.unfit here)

pub loop-effect-preserved : goal.loop-effect-preserved
loop-effect-preserved c =
    let i = c.loop-effect.effect-index in
    let inv = c.loop-effect.invariant in
    record {
      after = applied_more c.args.effects.now i c.effect-item.result c.args.core.now.state c.loop-effect.core.state c.apply_one.new.core.state c.loop-effect-test.true c.effect-item.is inv.after c.in_ok-apply_one.ensures.after;
      edits_are = edits_so_far c.args.effects.now i c.effect-item.result c.args.core.now.edits c.loop-effect.core.edits c.apply_one.new.core.edits c.loop-effect-test.true c.effect-item.is inv.edits_are c.in_ok-apply_one.ensures.edits;
      few = λ before. c.apply_one.ensures.few (inv.few before);
    }
