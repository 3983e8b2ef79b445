use Rattle.std.proofs.Common.{subst}
use Rattle.std.specs.Prelude.{Err}
use Rattle.rtb_io.specs.Statuses.{code_of}
use Rattle.run_commands.specs.Compact.{EndsCompacted}
use Rattle.run_commands.proofs.beside_command.end_fault.Goals as goal

pub returns-clause-ends : goal.returns-clause-ends
returns-clause-ends g c =
    subst (λ line. EndsCompacted (Err c.args.fault) line (g.K.Sink.written c.args.sink.now) (g.K.Sink.written c.end_compaction.new.sink) (code_of c.end_compaction.result)) c.new-line.ensures c.end_compaction.ensures.ends
