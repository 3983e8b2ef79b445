use Rattle.std.proofs.Common.{rules}
use Rattle.clearing.proofs.second_price.Goals as goal

pub returns-in-Some : goal.returns-in-Some
returns-in-Some c = search rules
