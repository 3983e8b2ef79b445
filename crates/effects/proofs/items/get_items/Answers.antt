use Rattle.std.proofs.Common.{arith}
use Rattle.effects.proofs.PartCodes.{items_no_count, items_refused}
use Rattle.effects.proofs.items.get_items.Goals as goal

pub returns-in_default : goal.returns-in_default
returns-in_default c = items_no_count c.args.bytes.now c.args.place c.in_default.ensures

pub returns-then-count-lt1 : goal.returns-then-count-lt1
returns-then-count-lt1 c = items_refused c.args.bytes.now c.args.place c.in-Some.next c.in-Some.count c.in-Some.ensures (λ some few. omega (arith, some, c.if-count-lt1.true))

pub returns-then-count-gt-MOST_ITEMS : goal.returns-then-count-gt-MOST_ITEMS
returns-then-count-gt-MOST_ITEMS c = items_refused c.args.bytes.now c.args.place c.in-Some.next c.in-Some.count c.in-Some.ensures (λ some few. omega (arith, few, c.if-count-gt-MOST_ITEMS.true))
