use Rattle.std.proofs.lemmas.Bool.{false≢true}
use Rattle.byte_fields.specs.Encodings.{FitsEight, eight_bytes}
use Rattle.byte_fields.proofs.Codes.{read_narrow}
use Rattle.byte_fields.proofs.Numbers.{eight_code}
use Rattle.campaign.specs.Groups.{IsMicros}
use Rattle.campaign.proofs.decode.get_micros.Goals as goal
use Rattle.campaign.proofs.Decoding.{micros_fit}

pub returns-in_err-new : goal.returns-in_err-new
returns-in_err-new c =
    rw c.from_residual-in_err-new.ensures
    (read_narrow FitsEight eight_bytes eight_code IsMicros micros_fit c.args.bytes.now c.args.place c.in_ok-n.n c.in_ok-n.next c.in_ok-n.ensures
    (λ h. false≢true (c.in_err-new.ensures.variant.1 h)))
