use Rattle.std.proofs.Common.{refl}
use Rattle.exchange_run.proofs.which_command.line_to.Goals as goal

pub returns : goal.returns
returns c = record { reply = c.in_ok-line.line; is_reply = c.in_ok-line.ensures; refused_is = refl; text_is = c.in_ok-push.ensures.ok }
