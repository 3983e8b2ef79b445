use Rattle.std.proofs.Common.{rules}
use Rattle.json_out.proofs.writer.Writer.end.Goals as goal

pub returns-clause-ok : goal.returns-clause-ok
returns-clause-ok c = search rules
