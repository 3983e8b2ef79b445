use Rattle.std.proofs.Common.{◌∙◌, [], ◌∷◌, ◌++◌, ap, append_assoc, subst, sym}
use Rattle.link_door.specs.Worlds.{AsksAtMost, HandsOut}
use Rattle.link_door.specs.declared.asked.Asked.TheVariants as asked_for
use Rattle.rtb_io.specs.declared.status.Status.TheVariants as status
use Rattle.run_commands.specs.Compact.{CompactsInto, compacted, no_file}
use Rattle.run_commands.specs.Endings.{EndsBy}
use Rattle.run_commands.proofs.Handing.{hands_two}
use Rattle.run_commands.proofs.Telling.{rises_by_code}
use Rattle.run_commands.proofs.compact_command.compact_from.Goals as goal

pub returns-in-Ok-clause-compacts : goal.returns-in-Ok-clause-compacts
returns-in-Ok-clause-compacts g c = λ disks asked handed is there.
    let w = g.W.World in
    let o = c.args.options.now in
    let ended = c.compact_disks-ended.result in
    let kept = g.K.Sink.written in
    compacted c.args.from ended.from c.in-Ok.into ended.into
    (c.in-Ok.ensures.asks ∙ ap (λ l. l ++ asked_for.Disk o.into ∷ []) is ∙ append_assoc asked (asked_for.DiskThere o.journal ∷ []) (asked_for.Disk o.into ∷ []))
    (hands_two disks (w.disks_left c.args.world.now) (w.disks_left c.disk.new.self) c.args.from c.in-Ok.into handed c.in-Ok.ensures.disks)
    c.in-Ok.ensures.cause c.with_other.ensures.disk c.with_other.ensures.other there
    (subst (λ code. CompactsInto g.W.Disk.Disk o.keep c.args.from ended.from c.in-Ok.into ended.into (kept c.args.sink.now) (kept c.compact_disks-ended.new.sink) code) (sym c.with_other.ensures.status) c.compact_disks-ended.ensures.compacts)

pub returns-in-Ok-clause-cause : goal.returns-in-Ok-clause-cause
returns-in-Ok-clause-cause g c = rises_by_code c.compact_disks-ended.result.status _ _ _ c.with_other.ensures.status c.compact_disks-ended.ensures.cause

pub returns-in-Err-clause-compacts : goal.returns-in-Err-clause-compacts
returns-in-Err-clause-compacts g c = λ disks asked handed is there.
    let w = g.W.World in
    let o = c.args.options.now in
    let h = c.in-Err.ensures in
    let kept = g.K.Sink.written in
    no_file c.args.from
    (subst (λ old. AsksAtMost old (w.asked c.disk.new.self) (asked_for.Disk o.into)) is h.asks)
    (subst (λ left. HandsOut disks left (c.args.from ∷ [])) (sym h.disks) handed)
    h.cause.1 c.with_other-in-Err.ensures.disk c.with_other-in-Err.ensures.other
    (subst (λ code. EndsBy status.NoDisk (kept c.args.sink.now) (kept c.end_with.new.sink) code) (sym c.with_other-in-Err.ensures.status) c.end_with.ensures.ends)

pub returns-in-Err-clause-cause : goal.returns-in-Err-clause-cause
returns-in-Err-clause-cause g c = rises_by_code c.end_with.result _ _ _ c.with_other-in-Err.ensures.status c.end_with.ensures.cause
