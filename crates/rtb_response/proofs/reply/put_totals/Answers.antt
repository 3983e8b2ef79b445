use Rattle.std.proofs.Common.{rules}
use Rattle.rtb_response.proofs.reply.put_totals.Goals as goal

pub returns-clause-ok : goal.returns-clause-ok
returns-clause-ok c = search rules
