use Rattle.std.proofs.Common.{◌∙◌, ap}
use Rattle.std.specs.Map.{keys_of}
use Rattle.indexmap.specs.IndexMap.{keys}
use Rattle.cnf_match.proofs.Entering.{distinct_keys, inserted_keys}
use Rattle.cnf_match.proofs.KeyEq.{place_same}
use Rattle.cnf_match.proofs.growing.added.Goals as goal

pub returns-clause-added : goal.returns-clause-added
returns-clause-added c = ap keys_of c.in_ok-place.ensures.entries ∙ inserted_keys c.args.map.now.entries c.args.key tt

pub returns-clause-unique : goal.returns-clause-unique
returns-clause-unique c = distinct_keys (keys c.insert_full.new.self) c.insert_full.ensures.unique

pub returns-clause-place : goal.returns-clause-place
returns-clause-place c = c.in_ok-place.ensures.index ∙ place_same c.args.key (keys c.args.map.now)
