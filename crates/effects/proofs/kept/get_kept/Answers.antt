use Rattle.effects.specs.declared.tag.Tag.{Tag}
use Rattle.effects.proofs.Bodied.{no_body, some_body}
use Rattle.effects.proofs.kept.get_kept.Goals as goal

pub returns-in_default : goal.returns-in_default
returns-in_default c =
    let none = rw c.in_default.is at c.in_ok-kept.ensures in
    no_body Tag.Kept c.args.bytes.now c.args.place none

pub returns : goal.returns
returns c =
    let body = rw c.in-Some.is at c.in_ok-kept.ensures in
    rw c.kept_from.ensures (some_body Tag.Kept c.args.bytes.now c.args.place c.in-Some.kept c.in-Some.next body)
