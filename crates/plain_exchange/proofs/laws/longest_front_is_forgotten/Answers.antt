use Rattle.plain_exchange.proofs.laws.longest_front_is_forgotten.Goals as goal
use Rattle.plain_exchange.proofs.Longest.{at_once_may, forgotten_may, none_longer, none_longer_at_once}

pub returns-clause-may : goal.returns-clause-may
returns-clause-may c = forgotten_may

pub returns-clause-longest : goal.returns-clause-longest
returns-clause-longest c = none_longer

pub returns-clause-may_at_once : goal.returns-clause-may_at_once
returns-clause-may_at_once c = at_once_may

pub returns-clause-longest_at_once : goal.returns-clause-longest_at_once
returns-clause-longest_at_once c = none_longer_at_once
