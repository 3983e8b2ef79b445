use Rattle.cnf_match.proofs.Entering.{grown_none}
use Rattle.cnf_match.proofs.growing.Growing.new.Goals as goal

pub returns : goal.returns
returns c = grown_none (record { keys = c.new.result; lists = c.new-2.result; seats = c.in_ok-seats.seats }) c.new.ensures.empty c.new-2.ensures.items c.new.ensures.unique
