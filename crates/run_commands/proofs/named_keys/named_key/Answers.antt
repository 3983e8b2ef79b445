use Rattle.run_commands.proofs.Giving.{gives_named, gives_unnamed}
use Rattle.run_commands.proofs.named_keys.named_key.Goals as goal

pub returns-in-Some : goal.returns-in-Some
returns-in-Some g c = gives_named g.W.World c.args.path.now c.in-Some.path c.args.world.now c.key_at.new.world c.key_at.result c.in-Some.is c.key_at.ensures

pub returns-in-None : goal.returns-in-None
returns-in-None g c = gives_unnamed g.W.World c.args.path.now c.args.world.now c.in-None.is
