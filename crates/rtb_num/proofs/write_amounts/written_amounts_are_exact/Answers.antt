use Rattle.rtb_num.proofs.Written.{written_decimal, written_worth}
use Rattle.rtb_num.proofs.write_amounts.written_amounts_are_exact.Goals as goal

pub returns-clause-decimal : goal.returns-clause-decimal
returns-clause-decimal c = written_decimal

pub returns-clause-worth : goal.returns-clause-worth
returns-clause-worth c = written_worth
