use Rattle.run_commands.specs.Given.{first}
use Rattle.run_commands.proofs.named_keys.read_keys.Goals as goal

pub returns-in-Ok : goal.returns-in-Ok
returns-in-Ok g c = c.keys_with.ensures c.args.world.now c.args.key.now c.in-Ok.ensures

pub returns-in-Err : goal.returns-in-Err
returns-in-Err g c =
    let (name, is, none) = c.in-Err.ensures in
    first name is none
