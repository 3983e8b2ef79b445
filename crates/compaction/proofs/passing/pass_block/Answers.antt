use Rattle.compaction.proofs.Walking.{step_fails, step_none, step_passed, step_refused}
use Rattle.compaction.proofs.passing.pass_block.Goals as goal

pub returns-in-Ok-clause-steps : goal.returns-in-Ok-clause-steps
returns-in-Ok-clause-steps g c =
    let h = c.in-Ok-Some.ensures in
    step_passed g.D.Disk c.args.from.now c.block_at.new.disk c.truncate.new.self c.block_at.new.out c.args.gate.now c.truncate.ensures c.as_bytes.result.now c.args.core.now c.carry_out.new.core c.in-Ok-Some.next c.in-Ok-Some.field-0
    c.as_bytes.ensures.value c.in-Ok-Some.field-0-is h.block h.shows h.appended c.in-Ok.ensures.follows

pub returns-in-Err-carry_out-clause-steps : goal.returns-in-Err-carry_out-clause-steps
returns-in-Err-carry_out-clause-steps g c =
    let h = c.in-Ok-Some.ensures in
    step_refused g.D.Disk c.args.from.now c.block_at.new.disk c.truncate.new.self c.block_at.new.out c.args.gate.now c.truncate.ensures c.as_bytes.result.now c.args.core.now c.carry_out.new.core c.in-Ok-Some.next c.in-Ok-Some.field-0 c.in-Err-carry_out.fault
    c.as_bytes.ensures.value c.in-Ok-Some.field-0-is h.block h.shows c.in-Err-carry_out.ensures.follows

pub returns-in-Ok-None-clause-steps : goal.returns-in-Ok-None-clause-steps
returns-in-Ok-None-clause-steps g c =
    let h = c.in-Ok-None.ensures in
    step_none g.D.Disk c.args.from.now c.block_at.new.disk c.truncate.new.self c.block_at.new.out c.args.gate.now c.truncate.ensures c.args.core.now.state c.in-Ok-None.field-0 c.in-Ok-None.field-0-is h.block h.shows

pub returns-in-Err-clause-steps : goal.returns-in-Err-clause-steps
returns-in-Err-clause-steps g c =
    let h = c.in-Err.ensures in
    step_fails g.D.Disk c.args.from.now c.block_at.new.disk c.truncate.new.self c.block_at.new.out c.args.gate.now c.truncate.ensures c.args.core.now.state c.in-Err.fault h.block h.shows h.place
