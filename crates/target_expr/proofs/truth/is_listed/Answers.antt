use Rattle.std.proofs.Common.{◌∙◌}
use Rattle.target_expr.proofs.Halves.{searched}
use Rattle.target_expr.proofs.truth.is_listed.Goals as goal

pub returns : goal.returns
returns c =
    c.is_ok.ensures.value ∙ searched c.args.values.now c.args.value.now c.binary_search.result c.requires c.binary_search.ensures.bound c.binary_search.ensures.position
