use Rattle.std.proofs.Common.{subst}
use Rattle.compaction.specs.Writing.{Compacts}
use Rattle.run_commands.proofs.compact_command.compact_disks.Goals as goal

pub returns-clause-compacts : goal.returns-clause-compacts
returns-clause-compacts g c =
    let store = g.D.Disk.store in
    let h = c.compact-compacted.ensures in
    let out = c.compact-compacted.result in
    record {
      done = out.done;
      line = c.compact-compacted.new.line;
      compacts = subst (λ before. Compacts c.args.keep (store c.args.from) (store c.args.into) (store out.into) before c.compact-compacted.new.line out.done) c.new-line.ensures h.compacts;
      unwritten = h.unwritten;
      read_cause = h.read_cause;
      write_cause = h.write_cause;
      ends = c.end_compaction.ensures.ends;
    }
