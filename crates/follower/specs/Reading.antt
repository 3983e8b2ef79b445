-- The report that a command is of. Private.
use Rattle.std.specs.Prelude.{ℕ, Option, Some, None}
use Rattle.plain_exchange.specs.declared.commands.Act.{Act}
use Rattle.plain_exchange.specs.declared.commands.Act.TheVariants as act
use Rattle.plain_exchange.specs.declared.commands.Command.{Command}
use Rattle.plain_exchange.specs.declared.commands.Command.TheVariants as command
use Rattle.plain_exchange.specs.declared.commands.Look.TheVariants as look

abbrev pub looked_at : Act → Option ℕ
looked_at (act.Look (look.Report n)) = Some n
looked_at a = None

abbrev pub report_asked : Command → Option ℕ
report_asked (command.Auction request) = None
report_asked (command.Act a) = looked_at a
