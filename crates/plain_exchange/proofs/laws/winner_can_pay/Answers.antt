use Rattle.plain_exchange.proofs.laws.winner_can_pay.Goals as goal
use Rattle.plain_exchange.proofs.Paying.{winner_can_pay}

pub returns : goal.returns
returns c = winner_can_pay
