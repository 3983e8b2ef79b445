use Rattle.std.proofs.Common.{Ok, subst, sym}
use Rattle.audit.specs.declared.verdict.Verdict.{Verdict}
use Rattle.rtb_io.specs.Statuses.{code_of}
use Rattle.run_commands.specs.Audit.{EndsAudited}
use Rattle.run_commands.proofs.audit_command.end_judged.Goals as goal

pub returns-in-Legal-clause-ends : goal.returns-in-Legal-clause-ends
returns-in-Legal-clause-ends g c =
    let r = c.end_numbered in
    subst (λ (verdict : Verdict). EndsAudited (Ok verdict) (g.K.Sink.written c.args.sink.now) (g.K.Sink.written r.new.sink) (code_of r.result)) (sym c.in-Legal.is) (r.ensures.ends _ c.legal_line-line.ensures)

pub returns-in-Illegal-clause-ends : goal.returns-in-Illegal-clause-ends
returns-in-Illegal-clause-ends g c =
    let r = c.end_numbered-in-Illegal in
    subst (λ (verdict : Verdict). EndsAudited (Ok verdict) (g.K.Sink.written c.args.sink.now) (g.K.Sink.written r.new.sink) (code_of r.result)) (sym c.in-Illegal.is) (r.ensures.ends _ c.illegal_line-line.ensures)
