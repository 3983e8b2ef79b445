use Rattle.std.proofs.Common.{refl}
use Rattle.follower.proofs.door.serve_one.Goals as goal

pub returns : goal.returns
returns g c =
    let i = c.serve_link-end.ensures.served in
    (i.turns, record { steps = _; end = c.serve_link-end.result; served = i; turns_are = refl; cause = c.serve_link-end.ensures.cause })
