use Rattle.conj_index.proofs.Climbing.{lists_once}
use Rattle.conj_index.proofs.Standing.{stand_where_named}
use Rattle.conj_index.proofs.laws.a_conjunction_stands_once_under_each_pair.Goals as goal

pub returns : goal.returns
returns c = record { stands = stand_where_named; once = lists_once }
