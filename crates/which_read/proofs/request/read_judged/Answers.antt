use Rattle.exact_json.specs.View.{tree_of}
use Rattle.which_read.proofs.Whole.{few_answered}
use Rattle.which_read.proofs.request.read_judged.Goals as goal

pub returns-in-Ok-clause-few : goal.returns-in-Ok-clause-few
returns-in-Ok-clause-few c = few_answered (tree_of c.in-Ok.body.now) c.request_in.result c.request_in.ensures
