use Rattle.std.proofs.Common.{◌++◌, ap₂, length}
use Rattle.std.proofs.lemmas.List.{drop-replicate}
use Rattle.address_keys.proofs.mac.whole_block.Goals as goal

pub returns : goal.returns
returns c = ap₂ ◌++◌ c.copy_from_slice.ensures.after (drop-replicate (length c.args.key.now) 64 0)
