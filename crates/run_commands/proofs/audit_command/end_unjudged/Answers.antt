use Rattle.std.proofs.Common.{Err, subst, sym}
use Rattle.audit.specs.declared.verdict.AuditFault.{AuditFault}
use Rattle.rtb_io.specs.Statuses.{code_of}
use Rattle.run_commands.specs.Audit.{EndsAudited}
use Rattle.run_commands.proofs.audit_command.end_unjudged.Goals as goal

pub returns-in-Torn-clause-ends : goal.returns-in-Torn-clause-ends
returns-in-Torn-clause-ends g c =
    let r = c.end_numbered in
    subst (λ (fault : AuditFault). EndsAudited (Err fault) (g.K.Sink.written c.args.sink.now) (g.K.Sink.written r.new.sink) (code_of r.result)) (sym c.in-Torn.is) (r.ensures.ends _ c.torn_line-line.ensures)
