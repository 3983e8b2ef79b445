use Rattle.byte_fields.specs.Encodings.{FitsFour, four_bytes, eight_bytes}
use Rattle.byte_fields.proofs.Codes.{read_no_first, read_no_second}
use Rattle.byte_fields.proofs.Numbers.{four_code}
use Rattle.effects.specs.Bytes.{IsAmount}
use Rattle.effects.proofs.fields.get_priced.Goals as goal

pub returns-in_err-campaign : goal.returns-in_err-campaign
returns-in_err-campaign c =
    rw c.from_residual.ensures (read_no_first FitsFour four_bytes IsAmount eight_bytes c.args.bytes.now c.args.place c.in_err-campaign.ensures)

pub returns-in_err-price : goal.returns-in_err-price
returns-in_err-price c =
    rw c.from_residual-in_err-price.ensures (read_no_second FitsFour four_bytes IsAmount eight_bytes four_code c.args.bytes.now c.args.place c.in_ok-campaign.campaign c.in_ok-campaign.next c.in_ok-campaign.ensures c.in_err-price.ensures)
