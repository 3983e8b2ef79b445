use Rattle.std.proofs.Common.{◌<◌, ◌^◌, arith}
use Rattle.exchange_run.proofs.Facts.{never}
use Rattle.exchange_run.proofs.opening.facts.Goals as goal

pub unreachable-requires : goal.unreachable-requires
unreachable-requires c =
    let fits : c.args.number < 2 ^ 32 = omega arith in
    never c.args.number c.args.bid c.in_ok-parts.parts c.in-Err.field-0 fits c.requires c.in_ok-parts.ensures c.in-Err.ensures
