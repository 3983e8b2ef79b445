use Rattle.std.proofs.lemmas.Bool.{false≢true}
use Rattle.byte_fields.specs.Encodings.{FitsEight, eight_bytes}
use Rattle.byte_fields.proofs.Codes.{read_narrow}
use Rattle.byte_fields.proofs.Numbers.{eight_code}
use Rattle.effects.specs.Bytes.{IsAmount}
use Rattle.effects.proofs.fields.get_amount.Goals as goal
use Rattle.effects.proofs.PartCodes.{amount_fits}

pub returns-in_err-new : goal.returns-in_err-new
returns-in_err-new c =
    rw c.from_residual-in_err-new.ensures
    (read_narrow FitsEight eight_bytes eight_code IsAmount amount_fits c.args.bytes.now c.args.place c.in_ok-n.n c.in_ok-n.next c.in_ok-n.ensures
    (λ h. false≢true (c.in_err-new.ensures.variant.1 h)))
