use Rattle.std.proofs.Common.{ap}
use Rattle.run_commands.proofs.audit_command.audit_disk.Goals as goal

pub returns-clause-audited : goal.returns-clause-audited
returns-clause-audited g c =
    let h = c.audit_run-disk.ensures in
    record {
      said = c.audit_run-disk.result.1;
      audits = h.audits;
      first = λ none. (ap g.S.Source.left (h.first none), ap g.S.Source.faults (h.first none));
      unwritten = h.unwritten;
      disk_cause = h.disk_cause;
      source_cause = h.source_cause;
      ends = c.end_audit-status.ensures.ends;
    }
