use Rattle.std.proofs.Common.{Ok, Err}
use Rattle.run_commands.proofs.Telling.{refused}
use Rattle.run_commands.proofs.serve_command.open.Goals as goal

pub returns-clause-refused : goal.returns-clause-refused
returns-clause-refused g c =
    let h = c.start.ensures in
    refused g.D.Disk c.args.disk c.start.result h.damaged h.any_moment h.unwritten h.cause h.quiet
