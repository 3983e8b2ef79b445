use Rattle.std.proofs.Common.{inl}
use Rattle.follower.proofs.Effects.{carried}
use Rattle.follower.proofs.block.carry_out.Goals as goal

pub returns-in-Ok : goal.returns-in-Ok
returns-in-Ok c = inl (carried c.args.payload.now _ _ _ _ _ _ _ _ _ c.as_slice.ensures c.in-Ok.ensures.value c.apply_rest-carried.ensures)
