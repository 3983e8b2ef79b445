use Rattle.std.proofs.Common.{◌≡◌, ◌∙◌, Bool, None, Some, ap, sym}
use Rattle.audit.proofs.Leading.{leads_all, leads_by}
use Rattle.std.specs.Prelude.{Err, if◌then◌else◌}
use Rattle.audit.specs.Accounts.{tells}
use Rattle.audit.proofs.accounting.account.Goals as goal

pub returns-in-Ok-clause-leads : goal.returns-in-Ok-clause-leads
returns-in-Ok-clause-leads c =
    let found = rw c.in-Ok.is at c.read_command.ensures.read in
    leads_all c.args.keys.now c.args.header.now c.args.core.now.state c.args.entry.now c.in-Ok.command c.account_command-accounts.new.core.state c.account_command-accounts.result (sym c.tells_memory.ensures ∙ c.if-tells_memory.false) found c.account_command-accounts.ensures.leads

pub returns-in-Err-Refused-clause-leads : goal.returns-in-Err-Refused-clause-leads
returns-in-Err-Refused-clause-leads c =
    let found = rw c.in-Err-Refused.field-0-is at (rw c.in-Err-Refused.is at c.read_command.ensures.read) in
    let told : c.tells_answer.result ≡ tells c.args.entry.now c.in-Err-Refused.refusal = cc (c.tells_answer.ensures, c.in-Err-Refused.refusal-is) in
    let leads = ap (λ (holds : Bool). if holds then Some c.args.core.now.state else None) (sym told) in
    leads_by c.args.keys.now c.args.header.now c.args.core.now.state c.args.entry.now c.tells_answer.result c.args.core.now.state (Err c.in-Err-Refused.refusal) (sym c.tells_memory.ensures ∙ c.if-tells_memory.false) found leads
