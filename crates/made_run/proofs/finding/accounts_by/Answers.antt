use Rattle.audit.proofs.Leading.{leads_all}
use Rattle.made_run.proofs.Keeping.{not_undone}
use Rattle.made_run.proofs.finding.accounts_by.Goals as goal

pub returns-in-Ok-clause-leads : goal.returns-in-Ok-clause-leads
returns-in-Ok-clause-leads c =
    let found = rw c.in-Ok.is at c.read_command_in.ensures.read in
    let entry = c.args.entry.now in
    leads_all c.args.keys.now c.args.header.now c.args.core.now.state entry c.in-Ok.command c.accounts_command-accounts.new.core.state c.accounts_command-accounts.result (not_undone entry c.requires.answered) found c.accounts_command-accounts.ensures.leads
