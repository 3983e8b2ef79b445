use Rattle.std.proofs.Common.{refl}
use Rattle.run_commands.proofs.Following.{ended}
use Rattle.run_commands.proofs.beside_command.finish.Goals as goal

pub returns-clause-finishes : goal.returns-clause-finishes
returns-clause-finishes g c = λ keep first into started.
    let f = c.finish-into.ensures in
    let r = c.finish-into.result in
    record {
      given' = c.finish-into.new.last;
      last_is = refl;
      line = c.finish-into.new.line;
      done = r.1;
      ended = ended keep first c.args.from into c.args.beside c.args.last c.finish-into.new.last r.0 c.new-line.result c.finish-into.new.line r.1 started f.ends c.new-line.ensures f.unwritten f.read_cause f.write_cause;
      told = c.end_compaction.ensures.ends;
    }
