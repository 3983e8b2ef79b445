use Rattle.follower.proofs.Effects.{rest_applied}
use Rattle.follower.proofs.block.apply_rest.Goals as goal

pub returns : goal.returns
returns c = rest_applied c.args.effects.now _ c.args.done.now _ _ _ _ _ c.rest_of.ensures c.apply_all-applied.ensures
