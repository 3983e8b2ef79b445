use Rattle.exact_json.specs.View.{tree_of}
use Rattle.which_read.specs.Clauses.{clauses_field}
use Rattle.which_read.specs.Request.{expression_in}
use Rattle.which_read.specs.Weighed.{weights_field}
use Rattle.which_read.proofs.expressions.expression_in.Goals as goal

pub returns : goal.returns
unfolding expression_in
returns c =
    let t = tree_of c.args.expression.now in
    c.both.ensures (clauses_field c.args.i t) (weights_field c.args.i t) c.clauses_field.ensures c.weights_field.ensures
