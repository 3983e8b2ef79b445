use Rattle.target_expr.proofs.Encoding.{pred_code}
use Rattle.target_expr.proofs.decode.ConjunctionsElement.get.Goals as goal

pub get_list-requires : goal.get_list-requires
get_list-requires c = record { code = pred_code }
