use Rattle.std.proofs.Common.{[], ℕ, subst, sym}
use Rattle.std.specs.Prelude.{Err}
use Rattle.rtb_io.specs.Statuses.{code_of}
use Rattle.run_commands.specs.Beside.{EndsBehind, begun, not_begun}
use Rattle.run_commands.specs.Compact.{EndsCompacted}
use Rattle.run_commands.proofs.Following.{begins_started}
use Rattle.run_commands.proofs.Telling.{rises_by_code}
use Rattle.run_commands.proofs.beside_command.compact_into.Goals as goal

pub announce-ended-requires-clause-whole : goal.announce-ended-requires-clause-whole
announce-ended-requires-clause-whole g c κs within = c.in-Ok.ensures.whole

pub returns-in-Ok-clause-compacts : goal.returns-in-Ok-clause-compacts
returns-in-Ok-clause-compacts g c = λ before between gives file.
    let h = c.in-Ok.ensures in
    let end = c.announce-ended.result in
    let out = c.with_last.ensures in
    let started = begins_started c.args.options.now.keep c.args.from c.begin_beside.new.from c.args.into c.in-Ok.beside h.begins c.begin_beside.ensures.unwritten h.read_cause h.write_cause in
    begun c.args.from end.from c.args.into end.into between c.args.world.now gives file out.disk out.other
    (subst (λ (code : ℕ). EndsBehind g.W.World g.W.Disk.Disk c.args.options.now c.args.world.now c.announce-ended.new.world c.args.from end.from c.args.into end.into (g.K.Sink.written c.args.sink.now) (g.K.Sink.written c.announce-ended.new.sink) code c.with_last.result.last) (sym out.status)
    (subst (λ last. EndsBehind g.W.World g.W.Disk.Disk c.args.options.now c.args.world.now c.announce-ended.new.world c.args.from end.from c.args.into end.into (g.K.Sink.written c.args.sink.now) (g.K.Sink.written c.announce-ended.new.sink) (code_of end.status) last) (sym out.last)
    (c.announce-ended.ensures.ends c.args.from c.args.into started)))

pub returns-in-Ok-clause-cause : goal.returns-in-Ok-clause-cause
returns-in-Ok-clause-cause g c = rises_by_code c.announce-ended.result.status _ _ _ c.with_last.ensures.status c.announce-ended.ensures.cause

pub returns-in-Err-clause-compacts : goal.returns-in-Err-clause-compacts
returns-in-Err-clause-compacts g c = λ before between gives file.
    let h = c.in-Err.ensures in
    let out = c.with_other.ensures in
    not_begun c.args.from c.begin_beside.new.from c.args.into c.in-Err.into between gives file out.disk out.other out.last c.in-Err.fault
    (record { begins = h.begins; unwritten = c.begin_beside.ensures.unwritten; read_cause = h.read_cause; write_cause = h.write_cause })
    (subst (λ (code : ℕ). EndsCompacted (Err c.in-Err.fault) [] (g.K.Sink.written c.args.sink.now) (g.K.Sink.written c.end_fault-status.new.sink) code) (sym out.status) c.end_fault-status.ensures.ends)

pub returns-in-Err-clause-cause : goal.returns-in-Err-clause-cause
returns-in-Err-clause-cause g c = rises_by_code c.end_fault-status.result _ _ _ c.with_other.ensures.status c.end_fault-status.ensures.cause
