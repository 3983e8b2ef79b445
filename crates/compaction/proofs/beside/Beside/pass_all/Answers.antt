use Rattle.std.proofs.Common.{refl}
use Rattle.compaction.proofs.Passed.{passes_blocks, passes_foreign, passes_none}
use Rattle.rtb_base.proofs.Chains.{RisesOnlyWhere-last}
use Rattle.compaction.proofs.beside.Beside.pass_all.Goals as goal

pub returns-in-Ok-Journal-clause-passes : goal.returns-in-Ok-Journal-clause-passes
returns-in-Ok-Journal-clause-passes g c = λ keep passed written into stands.
    let h = c.in-Ok-Journal.ensures in
    passes_blocks g.D.Disk keep passed written into c.args.from.now c.read_header.new.disk c.in-Ok-Journal.field-0 c.args.self.now stands h.begins h.shows c.in-Ok-Journal.field-0-is c.write_blocks.new.from _ c.write_blocks.result h.same c.write_blocks.ensures.written c.write_blocks.ensures.any_moment

pub returns-in-Ok-Journal-clause-read_cause : goal.returns-in-Ok-Journal-clause-read_cause
returns-in-Ok-Journal-clause-read_cause g c = RisesOnlyWhere-last _ (g.D.Disk.faults c.args.from.now) (g.D.Disk.faults c.read_header.new.disk) (g.D.Disk.faults c.write_blocks.new.from) c.in-Ok-Journal.ensures.cause c.write_blocks.ensures.read_cause

pub returns-in-Ok-Creation-clause-passes : goal.returns-in-Ok-Creation-clause-passes
returns-in-Ok-Creation-clause-passes g c = λ keep passed written into stands.
    let h = c.in-Ok-Creation.ensures in
    passes_none g.D.Disk keep passed written into c.args.from.now c.read_header.new.disk c.in-Ok-Creation.field-0 c.args.self.now stands h.begins h.shows c.in-Ok-Creation.field-0-is

pub returns-in-Ok-Foreign-clause-passes : goal.returns-in-Ok-Foreign-clause-passes
returns-in-Ok-Foreign-clause-passes g c = λ keep passed written into stands.
    let h = c.in-Ok-Foreign.ensures in
    passes_foreign g.D.Disk keep passed written into c.args.from.now c.read_header.new.disk c.in-Ok-Foreign.field-0 c.args.self.now stands h.begins h.shows c.in-Ok-Foreign.field-0-is

pub returns-in-Err-clause-passes : goal.returns-in-Err-clause-passes
returns-in-Err-clause-passes g c = λ keep passed written into stands. stands.unfinished

pub returns-in-Err-clause-read_cause : goal.returns-in-Err-clause-read_cause
returns-in-Err-clause-read_cause g c = let h = c.in-Err.ensures.cause in (h.0, λ _. h.1, λ no. absurd (no refl))
