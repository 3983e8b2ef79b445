use Rattle.std.proofs.Common.{rules}
use Rattle.session.proofs.turns.text_of.Goals as goal

pub returns-else-is_err : goal.returns-else-is_err
returns-else-is_err c = search rules
