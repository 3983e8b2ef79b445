use Rattle.target_expr.proofs.Encoding.{expr_code}
use Rattle.target_expr.proofs.laws.expressions_tell_their_ends.Goals as goal

pub returns : goal.returns
returns c = expr_code
