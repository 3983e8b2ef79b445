use Rattle.plain_exchange.proofs.laws.numbers_stay.Goals as goal
use Rattle.plain_exchange.proofs.Forgetting.{gone_numbers, money_stays, number_kept}

pub returns-clause-left : goal.returns-clause-left
returns-clause-left c = λ keep s n h lt. number_kept keep s h n lt

pub returns-clause-gone : goal.returns-clause-gone
returns-clause-gone c = λ keep s n h. gone_numbers keep s h n

pub returns-clause-money : goal.returns-clause-money
returns-clause-money c = money_stays
