use Rattle.command_read.proofs.Signed.{notices, wrong_token}
use Rattle.command_read.proofs.read.notices_are_signed.Goals as goal

pub returns-clause-notices : goal.returns-clause-notices
returns-clause-notices c = notices c.args.keys.now c.args.message.now

pub returns-clause-wrong : goal.returns-clause-wrong
returns-clause-wrong c = wrong_token c.args.keys.now c.args.message.now
