use Rattle.std.proofs.Common.{◌≡◌, ◌∙◌, ◌++◌, ◌∷◌, [], List, ℕ, ap, length, refl, subst, sym}
use Rattle.link_door.specs.Worlds.{AsksAtMost}
use Rattle.link_door.specs.declared.asked.Asked.{Asked}
use Rattle.link_door.specs.declared.asked.Asked.TheVariants as asked_for
use Rattle.run_commands.specs.Serve.{Announces, EndsWithoutDoors, no_doors, opened}
use Rattle.run_commands.proofs.Serving.{is_idle}
use Rattle.run_commands.proofs.Telling.{has_failed, rises_by_code}
use Rattle.run_commands.proofs.serve_command.serve_exchange.Goals as goal

pub returns-in-Ok-clause-serves : goal.returns-in-Ok-clause-serves
returns-in-Ok-clause-serves g c = λ before disk gives begins.
    let o = c.args.tools.now.options.now in
    let keys = c.args.tools.now.keys.now in
    let h = c.in-Ok.ensures in
    let ended = c.announce-ended.result in
    let n = c.workers_of-workers.ensures.workers in
    let w = g.W.World in
    let out = c.with_past.ensures in
    opened disk ended.disk ended.past c.args.world.now c.in-Ok.doors gives
    (record {
      count = h.count ∙ n;
      asked = subst (λ (k : ℕ). w.asked c.doors.new.self ≡ w.asked c.args.world.now ++ asked_for.Doors o.listen k o.patience ∷ []) n h.asks;
      doors_are = h.doors;
      disks = c.doors.ensures.disks;
      keys = c.doors.ensures.keys;
      faults = h.cause.2 (λ e. cc);
    })
    (subst (λ back. Announces g.W.Disk.Disk g.W.Door.Door g.W.Door.Link.Link o keys disk ended.disk c.in-Ok.doors back ended.past (g.K.Sink.written c.args.sink.now) (g.K.Sink.written c.announce-ended.new.sink) c.with_past.result.status) (sym out.doors)
    (subst (λ (code : ℕ). Announces g.W.Disk.Disk g.W.Door.Door g.W.Door.Link.Link o keys disk ended.disk c.in-Ok.doors ended.doors ended.past (g.K.Sink.written c.args.sink.now) (g.K.Sink.written c.announce-ended.new.sink) code) (sym out.status)
    (c.announce-ended.ensures.announces disk begins)))
    out.disk out.past

pub returns-in-Err-clause-serves : goal.returns-in-Err-clause-serves
returns-in-Err-clause-serves g c = λ before disk gives begins.
    let o = c.args.tools.now.options.now in
    let keys = c.args.tools.now.keys.now in
    let h = c.in-Err.ensures in
    let idle = c.close_idle-disk.ensures in
    let back = c.close_idle-disk.result.0 in
    let past = c.close_idle-disk.result.1 in
    let n = c.workers_of-workers.ensures.workers in
    let w = g.W.World in
    let out = c.with_past-in-Err.ensures in
    no_doors disk back past c.args.world.now gives c.in-Err.fault
    (record {
      asked = subst (λ (k : ℕ). AsksAtMost (w.asked c.args.world.now) (w.asked c.doors.new.self) (asked_for.Doors o.listen k o.patience)) n h.asks;
      doors = h.doors;
      disks = c.doors.ensures.disks;
      keys = c.doors.ensures.keys;
      faults = has_failed c.in-Err.fault _ _ h.cause;
    })
    (is_idle g.W.Disk.Disk g.W.Door.Door g.W.Door.Link.Link o keys disk back c.args.seat.origin past begins idle.origin idle.untouched idle.legal idle.budgets idle.order idle.crash idle.since idle.faults idle.failed)
    (out.doors ∙ c.new.ensures) out.disk out.past
    (subst (λ (code : ℕ). EndsWithoutDoors c.in-Err.fault (g.K.Sink.written c.args.sink.now) (g.K.Sink.written c.end_without_doors-status.new.sink) code) (sym out.status) c.end_without_doors-status.ensures.ends)

pub returns-in-Ok-clause-cause : goal.returns-in-Ok-clause-cause
returns-in-Ok-clause-cause g c = rises_by_code c.announce-ended.result.status _ _ _ c.with_past.ensures.status c.announce-ended.ensures.cause

pub returns-in-Err-clause-cause : goal.returns-in-Err-clause-cause
returns-in-Err-clause-cause g c = rises_by_code c.end_without_doors-status.result _ _ _ c.with_past-in-Err.ensures.status c.end_without_doors-status.ensures.cause
