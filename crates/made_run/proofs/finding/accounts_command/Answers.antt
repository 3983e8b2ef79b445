use Rattle.made_run.proofs.Keeping.{all_keep}
use Rattle.made_run.proofs.finding.accounts_command.Goals as goal

pub returns-clause-listed : goal.returns-clause-listed
returns-clause-listed c =
    all_keep c.args.keys.now c.args.header.now c.args.core.now.state c.account_found-accounts.new.core.state c.args.entry.now c.args.command.now c.in-Auction.field-0 c.account_found-accounts.result c.in-Auction.is c.account_found-accounts.ensures.leads
