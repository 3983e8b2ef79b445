use Rattle.exchange_run.specs.Making.{campaigns_named}
use Rattle.exchange_run.proofs.Answering.{line_first}
use Rattle.exchange_run.proofs.auction.command_line.Goals as goal

pub returns : goal.returns
returns c = λ r is.
    line_first (campaigns_named c.args.words.now) r c.args.command.now c.in_ok-reply.reply c.line_to-line.result is c.in_ok-reply.ensures (c.line_to-line.ensures r is)
