use Rattle.byte_fields.proofs.Codes.{read_no_first, read_no_second}
use Rattle.campaign.specs.Encoding.{int_bytes}
use Rattle.campaign.specs.Groups.{IsWhole}
use Rattle.campaign.proofs.decode.get_sides.Goals as goal
use Rattle.campaign.proofs.Decoding.{int_code}

pub returns-in_err-w : goal.returns-in_err-w
returns-in_err-w c =
    rw c.from_residual.ensures (read_no_first IsWhole int_bytes IsWhole int_bytes c.args.bytes.now c.args.place c.in_err-w.ensures)

pub returns-in_err-h : goal.returns-in_err-h
returns-in_err-h c =
    rw c.from_residual-in_err-h.ensures (read_no_second IsWhole int_bytes IsWhole int_bytes int_code c.args.bytes.now c.args.place c.in_ok-w.w c.in_ok-w.next c.in_ok-w.ensures c.in_err-h.ensures)
