use Rattle.std.proofs.Common.{sym, ap}
use Rattle.std.specs.Fmt.{digits}
use Rattle.http_wire.specs.Answers.{answer_text, status_text, store_failed_answer}
use Rattle.http_wire.proofs.answer.store_failed_text.Goals as goal

pub returns-then-closes : goal.returns-then-closes
unfolding answer_text status_text digits
returns-then-closes c = ap (λ k. answer_text store_failed_answer k) (sym c.if-closes.true)

pub returns-else-closes : goal.returns-else-closes
unfolding answer_text status_text digits
returns-else-closes c = ap (λ k. answer_text store_failed_answer k) (sym c.if-closes.false)
