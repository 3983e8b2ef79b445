use Rattle.std.proofs.Common.{◌∙◌}
use Rattle.indexmap.specs.IndexMap.{keys}
use Rattle.cnf_match.proofs.KeyEq.{position_same}
use Rattle.cnf_match.proofs.find.position_of.Goals as goal

pub returns : goal.returns
returns c = c.get_index_of.ensures.index ∙ position_same c.args.key.now (keys c.args.index.now.keys)
