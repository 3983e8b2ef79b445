use Rattle.byte_fields.specs.Codes.{BothValid, both_bytes}
use Rattle.byte_fields.proofs.Codes.{both_code, read_no_first}
use Rattle.campaign.specs.Groups.{AreNames, IsLook, IsMoney, look_bytes, money_bytes, names_bytes}
use Rattle.campaign.proofs.decode.get_names_look_money.Goals as goal
use Rattle.campaign.proofs.Decoding.{look_code, names_code, read_paired}

pub returns-in_default : goal.returns-in_default
returns-in_default c =
    let none = rw c.in_default.is at c.in_ok-first.ensures in
    read_no_first (BothValid AreNames IsLook) (both_bytes names_bytes look_bytes) IsMoney money_bytes c.args.bytes.now c.args.place none

pub returns : goal.returns
returns c =
    let first = rw c.in-Some.is at c.in_ok-first.ensures in
    rw c.paired.ensures (read_paired (BothValid AreNames IsLook) (both_bytes names_bytes look_bytes) IsMoney money_bytes (both_code AreNames names_bytes IsLook look_bytes names_code look_code) c.args.bytes.now c.args.place c.in-Some.first c.in-Some.next c.get_money.result first c.get_money.ensures)
