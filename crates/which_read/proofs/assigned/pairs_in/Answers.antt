use Rattle.exact_json.specs.View.{tree_of}
use Rattle.which_read.proofs.Singles.{all_pairs, pairs_more}
use Rattle.which_read.proofs.assigned.pairs_in.Goals as goal

pub loop-before-preserved : goal.loop-before-preserved
loop-before-preserved c = pairs_more (tree_of c.args.assigned.now) c.loop-before.before _ _ c.loop-before-test.true c.loop-before.invariant c.in_ok-push_numbered.ensures

pub returns : goal.returns
returns c = all_pairs (tree_of c.args.assigned.now) c.loop-before.before _ c.loop-before-test.false c.loop-before.invariant
