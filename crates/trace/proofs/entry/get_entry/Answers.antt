use Rattle.trace.proofs.Reading.{entry_no, entry_there}
use Rattle.trace.proofs.entry.get_entry.Goals as goal

pub returns-in_default : goal.returns-in_default
returns-in_default c =
    let none = rw c.in_default.is at c.in_ok-parts.ensures in
    entry_no c.args.bytes.now c.args.place none

pub returns : goal.returns
returns c =
    let there = rw c.in-Some.is at c.in_ok-parts.ensures in
    rw c.entry_from.ensures (entry_there c.args.bytes.now c.args.place c.in-Some.parts c.in-Some.next there)
