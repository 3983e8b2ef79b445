use Rattle.std.proofs.Common.{rules}
use Rattle.clearing.proofs.price.Goals as goal

pub returns-in-Second : goal.returns-in-Second
returns-in-Second c = search rules
