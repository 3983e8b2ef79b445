use Rattle.std.proofs.Common.{inr}
use Rattle.run_commands.proofs.Making.{made_ends}
use Rattle.run_commands.proofs.make_command.make.Goals as goal

pub returns-in-Ok-clause-makes : goal.returns-in-Ok-clause-makes
returns-in-Ok-clause-makes g c = made_ends c.args.options.now c.in-Ok.made _ _ _ c.in-Ok.ensures.traced c.in-Ok.ensures.counted c.tell_made-status.ensures.ends

pub returns-in-Err-clause-makes : goal.returns-in-Err-clause-makes
returns-in-Err-clause-makes g c = inr c.end_with.ensures.ends
