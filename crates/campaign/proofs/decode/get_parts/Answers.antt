use Rattle.campaign.proofs.decode.get_parts.Goals as goal
use Rattle.campaign.proofs.Decoding.{parts_none, parts_read}

pub returns-in_default : goal.returns-in_default
returns-in_default c =
    let none = rw c.in_default.is at c.in_ok-groups.ensures in
    parts_none c.args.bytes.now c.args.place none

pub returns : goal.returns
returns c =
    let groups = rw c.in-Some.is at c.in_ok-groups.ensures in
    rw c.parts_of.ensures (parts_read c.args.bytes.now c.args.place c.in-Some.groups c.in-Some.next groups)
