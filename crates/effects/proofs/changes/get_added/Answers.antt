use Rattle.effects.specs.declared.tag.Tag.{Tag}
use Rattle.effects.proofs.Bodied.{no_body, some_body}
use Rattle.effects.proofs.changes.get_added.Goals as goal

pub returns-in_default : goal.returns-in_default
returns-in_default c =
    let none = rw c.in_default.is at c.in_ok-added.ensures in
    no_body Tag.Added c.args.bytes.now c.args.place none

pub returns : goal.returns
returns c =
    let body = rw c.in-Some.is at c.in_ok-added.ensures in
    rw c.added_from.ensures (some_body Tag.Added c.args.bytes.now c.args.place c.in-Some.added c.in-Some.next body)
