use Rattle.std.proofs.Common.{◌∙◌}
use Rattle.indexmap.specs.IndexMap.{keys}
use Rattle.conj_index.proofs.KeyEq.{position_same}
use Rattle.conj_index.proofs.find.position_of.Goals as goal

pub returns : goal.returns
returns c = c.get_index_of.ensures.index ∙ position_same c.args.key.now (keys c.args.part.now.keys)
