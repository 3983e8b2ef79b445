use Rattle.std.proofs.Common.{◌++◌, sym, ◌∙◌, ap, take}
use Rattle.std.specs.List.{flat_map}
use Rattle.cnf_match.specs.Growing.{pred_pairs}
use Rattle.cnf_match.proofs.Entering.{enters_then}
use Rattle.cnf_match.proofs.Turns.{spread_more}
use Rattle.cnf_match.proofs.build.enter_clause.Goals as goal

pub loop-pred-preserved : goal.loop-pred-preserved
loop-pred-preserved c =
    let pairs = pred_pairs c.args.n c.args.i in
    let ps = c.args.clause.now in
    let k = c.loop-pred.pred-index in
    let item = c.pred-item.result in
    let front = flat_map pairs (take k ps) in
    enters_then front (pairs item) _ c.args.growing.now c.loop-pred.growing c.enter_pred.new.growing
    (spread_more pairs ps k item c.loop-pred-test.true ∙ ap (λ p. front ++ pairs p) (sym c.pred-item.is))
    c.loop-pred.invariant c.in_ok-enter_pred.ensures
