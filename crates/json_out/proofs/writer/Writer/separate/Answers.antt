use Rattle.std.proofs.Common.{rules}
use Rattle.json_out.proofs.writer.Writer.separate.Goals as goal

pub returns-clause-len : goal.returns-clause-len
returns-clause-len c = search rules
