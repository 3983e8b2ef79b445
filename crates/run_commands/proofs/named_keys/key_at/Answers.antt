use Rattle.run_commands.specs.Given.{failed}
use Rattle.run_commands.proofs.Giving.{gives_key}
use Rattle.run_commands.proofs.named_keys.key_at.Goals as goal

pub returns-in-Ok : goal.returns-in-Ok
returns-in-Ok g c =
    let h = c.in-Ok.ensures in
    let said = c.key.ensures in
    gives_key g.W.World c.args.path.now c.args.world.now c.key.new.self c.in-Ok.text c.key_in.result
    (record { asked = h.asks; keys = h.keys; most = h.most; disks = said.disks; doors = said.doors; faults = h.cause }) c.key_in.ensures

pub returns-in-Err : goal.returns-in-Err
returns-in-Err g c =
    let h = c.in-Err.ensures in
    let said = c.key.ensures in
    failed (record { asked = h.asks; disks = said.disks; doors = said.doors; keys = h.keys; faults = h.cause.1 })
