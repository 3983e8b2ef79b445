use Rattle.target_expr.proofs.Encoding.{pred_no_attr, pred_no_flag}
use Rattle.target_expr.proofs.decode.get_pred.Goals as goal

pub returns-in_default : goal.returns-in_default
returns-in_default c = pred_no_attr c.args.bytes.now c.args.place c.in_default.ensures

pub returns-in_default-get_flag : goal.returns-in_default-get_flag
returns-in_default-get_flag c = pred_no_flag c.args.bytes.now c.args.place c.in-Some.place_of_flag c.in-Some.attr c.in-Some.ensures c.in_default-get_flag.ensures
