use Rattle.target_expr.proofs.Meaning.{kept_means}
use Rattle.target_expr.proofs.laws.keeping_changes_no_truth.Goals as goal

pub returns : goal.returns
returns c = kept_means
