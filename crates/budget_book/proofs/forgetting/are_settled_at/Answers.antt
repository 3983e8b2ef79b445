use Rattle.std.proofs.Common.{arith}
use Rattle.budget_book.proofs.Settled.{past_all}
use Rattle.budget_book.proofs.forgetting.are_settled_at.Goals as goal

pub returns-else-count-len : goal.returns-else-count-len
returns-else-count-len c = past_all c.args.moment c.args.rows.now.items c.args.count c.len.result (omega arith) c.if-count-len.false
