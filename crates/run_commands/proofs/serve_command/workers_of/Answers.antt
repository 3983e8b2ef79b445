use Rattle.std.proofs.Common.{arith}
use Rattle.run_commands.proofs.serve_command.workers_of.Goals as goal

pub returns : goal.returns
returns c = record { workers = omega (arith, c.min.ensures, c.max.ensures); some = omega (arith, c.min.ensures, c.max.ensures) }
