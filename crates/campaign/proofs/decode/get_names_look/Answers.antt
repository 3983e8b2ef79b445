use Rattle.byte_fields.proofs.Codes.{read_no_first}
use Rattle.campaign.specs.Groups.{AreNames, IsLook, look_bytes, names_bytes}
use Rattle.campaign.proofs.decode.get_names_look.Goals as goal
use Rattle.campaign.proofs.Decoding.{names_code, read_paired}

pub returns-in_default : goal.returns-in_default
returns-in_default c =
    let none = rw c.in_default.is at c.in_ok-names.ensures in
    read_no_first AreNames names_bytes IsLook look_bytes c.args.bytes.now c.args.place none

pub returns : goal.returns
returns c =
    let names = rw c.in-Some.is at c.in_ok-names.ensures in
    rw c.paired.ensures (read_paired AreNames names_bytes IsLook look_bytes names_code c.args.bytes.now c.args.place c.in-Some.names c.in-Some.next c.get_look.result names c.get_look.ensures)
