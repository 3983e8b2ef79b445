use Rattle.std.proofs.Common.{◌∙◌, ℕ, refl, subst, sym}
use Rattle.link_door.specs.Worlds.{HandsOut}
use Rattle.run_commands.specs.Follow.{Reports, followed, no_door}
use Rattle.run_commands.specs.Serve.{EndsWithoutDoors}
use Rattle.run_commands.proofs.Telling.{has_failed, rises_by_code}
use Rattle.run_commands.proofs.follow_command.follow_disk.Goals as goal

pub returns-in-Ok-clause-follows : goal.returns-in-Ok-clause-follows
returns-in-Ok-clause-follows g c = λ before gives.
    let h = c.in-Ok.ensures in
    let ended = c.announce-ended.result in
    let door = c.only_item-door.result.0 in
    let w = g.W.World in
    let out = c.with_doors.ensures in
    followed c.args.disk ended.disk c.args.world.now door ended.door gives
    (record {
      count = refl;
      asked = h.asks;
      doors_are = subst (λ l. HandsOut (w.doors_left c.args.world.now) (w.doors_left c.doors.new.self) l) c.only_item-door.ensures.item h.doors;
      disks = c.doors.ensures.disks;
      keys = c.doors.ensures.keys;
      faults = h.cause.2 (λ e. cc);
    })
    (subst (λ (code : ℕ). Reports g.W.Disk.Disk g.W.Door.Door g.W.Door.Link.Link c.args.disk ended.disk door ended.door (g.K.Sink.written c.args.sink.now) (g.K.Sink.written c.announce-ended.new.sink) code) (sym out.status)
    c.announce-ended.ensures.reports)
    (out.doors ∙ c.list_with.ensures) out.disk

pub returns-in-Err-clause-follows : goal.returns-in-Err-clause-follows
returns-in-Err-clause-follows g c = λ before gives.
    let h = c.in-Err.ensures in
    let out = c.with_disk.ensures in
    no_door c.args.disk c.args.world.now gives c.in-Err.fault
    (record { asked = h.asks; doors = h.doors; disks = c.doors.ensures.disks; keys = c.doors.ensures.keys; faults = has_failed c.in-Err.fault _ _ h.cause })
    out.doors out.disk
    (subst (λ (code : ℕ). EndsWithoutDoors c.in-Err.fault (g.K.Sink.written c.args.sink.now) (g.K.Sink.written c.end_without_doors-status.new.sink) code) (sym out.status) c.end_without_doors-status.ensures.ends)

pub returns-in-Ok-clause-cause : goal.returns-in-Ok-clause-cause
returns-in-Ok-clause-cause g c = rises_by_code c.announce-ended.result.status _ _ _ c.with_doors.ensures.status c.announce-ended.ensures.cause

pub returns-in-Err-clause-cause : goal.returns-in-Err-clause-cause
returns-in-Err-clause-cause g c = rises_by_code c.end_without_doors-status.result _ _ _ c.with_disk.ensures.status c.end_without_doors-status.ensures.cause
