use Rattle.std.proofs.Common.{◌≡◌, ap, sym, subst, Err, ◌∙◌}
use Rattle.std.specs.Prelude.{Result}
use Rattle.std.proofs.lemmas.Result.{err_from_is_err_and}
use Rattle.auction_core.specs.declared.fault.ApplyFault.{ApplyFault}
use Rattle.follower.specs.Passing.{Applies}
use Rattle.follower.proofs.Effects.{one_more, stopped}
use Rattle.follower.proofs.block.apply_all.Goals as goal

pub returns-in_err-apply_one : goal.returns-in_err-apply_one
returns-in_err-apply_one c =
    let p = err_from_is_err_and c.from_residual.result c.from_residual.ensures.1 in
    let e = c.in_err-apply_one.field-0.0 in
    let is : c.from_residual.result ≡ Err e = p.1 ∙ ap Err p.2 in
    let one = c.in_err-apply_one.ensures in
    subst (λ (r : Result Unit ApplyFault). Applies c.args.effects.now c.args.core.now.state c.apply_one.new.core.state c.args.count.now c.apply_one.new.count r) (sym is)
    (stopped c.args.effects.now c.loop-effect.effect-index c.effect-item.result c.args.core.now.state c.loop-effect.core.state c.apply_one.new.core.state c.args.count.now c.loop-effect.count c.apply_one.new.count e
    c.loop-effect-test.true c.effect-item.is c.loop-effect.invariant.lead (λ unfit. one.unfit (ap Err unfit)) one.unchanged one.uncounted)

pub loop-effect-preserved : goal.loop-effect-preserved
loop-effect-preserved c =
    let one = c.in_ok-apply_one.ensures in
    record {
      lead = one_more c.args.effects.now c.loop-effect.effect-index c.effect-item.result c.args.core.now.state c.loop-effect.core.state c.apply_one.new.core.state c.args.count.now c.loop-effect.count c.apply_one.new.count
          c.loop-effect-test.true c.effect-item.is c.loop-effect.invariant.lead one.after one.counted;
    }
