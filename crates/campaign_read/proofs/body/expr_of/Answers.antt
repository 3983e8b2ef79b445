use Rattle.target_expr.specs.Kept.{faults}
use Rattle.campaign_read.proofs.Made.{expr_first}
use Rattle.campaign_read.proofs.body.expr_of.Goals as goal

pub returns-in-Err : goal.returns-in-Err
returns-in-Err c =
    rw c.target_fault.ensures (expr_first (faults c.args.raw.now) c.in-Err.fault c.in-Err.ensures.fault)
