use Rattle.std.proofs.Common.{rules}
use Rattle.command_read.proofs.numbers.number_in.Goals as goal

pub returns-then-is_positive_decimal : goal.returns-then-is_positive_decimal
returns-then-is_positive_decimal c = search rules
