use Rattle.run_commands.specs.Given.{second}
use Rattle.run_commands.proofs.named_keys.keys_with.Goals as goal

pub returns-in-Ok : goal.returns-in-Ok
returns-in-Ok g c = λ before path gives. record { between = c.args.world.now; first = gives; second = c.in-Ok.ensures }

pub returns-in-Err : goal.returns-in-Err
returns-in-Err g c = λ before path gives.
    let (name, is, none) = c.in-Err.ensures in
    second name c.args.world.now c.args.key is gives none
