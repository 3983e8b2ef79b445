use Rattle.std.proofs.Common.{refl}
use Rattle.compaction.proofs.Gathered.{held_empty}
use Rattle.compaction.proofs.blocks.put_rest.Goals as goal

pub returns-then-is_empty-clause-put : goal.returns-then-is_empty-clause-put
returns-then-is_empty-clause-put g c = λ effects gathers. held_empty effects c.args.file.now c.args.block.now gathers (c.if-is_empty.ensures.0 refl)
