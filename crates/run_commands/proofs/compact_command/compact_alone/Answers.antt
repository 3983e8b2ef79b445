use Rattle.std.proofs.Common.{◌∙◌, subst}
use Rattle.run_commands.specs.Compact.{RunsCompact}
use Rattle.run_commands.proofs.Telling.{rises_by_code}
use Rattle.run_commands.proofs.compact_command.compact_alone.Goals as goal

pub returns-in-Ok-clause-compacts : goal.returns-in-Ok-clause-compacts
returns-in-Ok-clause-compacts g c =
    let w = g.W.World in
    let end = c.compact_from.new in
    let out = c.compact_from.result in
    let kept = g.K.Sink.written in
    subst (λ count. RunsCompact g.W.Disk.Disk c.args.options.now (w.asked c.args.world.now) (w.asked end.world) (w.disks_left c.args.world.now) (w.disks_left end.world) count (w.faults end.world) (kept c.args.sink.now) (kept end.sink) out.status out.disk out.other)
    c.in-Ok.ensures.cause
    (c.compact_from.ensures.compacts (w.disks_left c.args.world.now) (w.asked c.args.world.now) c.in-Ok.ensures.disks c.in-Ok.ensures.asks c.in-Ok.ensures.long)

pub returns-in-Ok-clause-others : goal.returns-in-Ok-clause-others
returns-in-Ok-clause-others g c = c.compact_from.ensures.others ∙ c.disk_there.ensures.doors

pub returns-in-Ok-clause-keys : goal.returns-in-Ok-clause-keys
returns-in-Ok-clause-keys g c = c.compact_from.ensures.keys ∙ c.disk_there.ensures.keys

pub returns-in-Err-clause-cause : goal.returns-in-Err-clause-cause
returns-in-Err-clause-cause g c = rises_by_code c.end_with.result _ _ _ (c.without_world.ensures.status ∙ c.code.ensures) c.end_with.ensures.cause
