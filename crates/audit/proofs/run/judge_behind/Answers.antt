use Rattle.std.proofs.Common.{Result, subst, sym}
use Rattle.audit.proofs.Auditing.{quiet_torn}
use Rattle.audit.proofs.Judging.{ends_at_once, torn_at_once}
use Rattle.audit.specs.Standing.{Said}
use Rattle.audit.specs.declared.verdict.AuditFault.{AuditFault}
use Rattle.audit.specs.declared.verdict.Verdict.{Verdict}
use Rattle.audit.proofs.run.judge_behind.Goals as goal

pub returns-in-Ok-Item-clause-says : goal.returns-in-Ok-Item-clause-says
returns-in-Ok-Item-clause-says g c = λ left came. c.judge_entries.ensures.says left (rw c.in-Ok-Item.field-0-is at (rw c.in-Ok-Item.is at came))

pub returns-in-Ok-End-clause-says : goal.returns-in-Ok-End-clause-says
returns-in-Ok-End-clause-says g c = λ left came.
    let now = g.I.Source.left c.args.source.now in
    let found = rw c.in-Ok-End.field-0-is at (rw c.in-Ok-End.is at came) in
    subst (λ (r : Result Verdict AuditFault). Said c.args.keys.now c.args.core.state left now r) (sym c.end_apart.ensures) (ends_at_once c.args.keys.now c.args.core.state left now c.args.input found)

pub returns-in-Ok-Torn-clause-says : goal.returns-in-Ok-Torn-clause-says
returns-in-Ok-Torn-clause-says g c = λ left came.
    let now = g.I.Source.left c.args.source.now in
    let found = rw c.in-Ok-Torn.field-0-is at (rw c.in-Ok-Torn.is at came) in
    subst (λ (r : Result Verdict AuditFault). Said c.args.keys.now c.args.core.state left now r) (sym c.end_apart-in-Ok-Torn.ensures) (torn_at_once c.args.keys.now c.args.core.state left now c.args.input found)

pub returns-in-Ok-End-clause-cause : goal.returns-in-Ok-End-clause-cause
returns-in-Ok-End-clause-cause g c = quiet_torn c.args.header _ 0 _ c.end_apart.ensures

pub returns-in-Ok-Torn-clause-cause : goal.returns-in-Ok-Torn-clause-cause
returns-in-Ok-Torn-clause-cause g c = quiet_torn c.args.header _ 0 _ c.end_apart-in-Ok-Torn.ensures
