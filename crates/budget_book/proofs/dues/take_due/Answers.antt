use Rattle.std.proofs.Common.{heap_items, refl}
use Rattle.budget_book.proofs.Heaped.{all_later}
use Rattle.budget_book.proofs.dues.take_due.Goals as goal

pub returns-then-moment-first-clause-first : goal.returns-then-moment-first-clause-first
returns-then-moment-first-clause-first c = (refl, all_later c.args.moment c.in_ok-first.field-0.now (heap_items c.args.dues.now) c.if-moment-first.true (c.in_ok-first.ensures.greatest c.requires.ordered))
