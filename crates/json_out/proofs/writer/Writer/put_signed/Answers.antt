use Rattle.std.proofs.Common.{◌∙◌, ap, rules, FitsSigned}
use Rattle.std.specs.Fmt.{signed_decimal}
use Rattle.std.specs.Int.{w32}
use Rattle.std.proofs.lemmas.Int.{to_z-of_z}
use Rattle.json_out.specs.Texts.{Member}
use Rattle.json_out.specs.Writer.{put_value, takes_name, takes_value}
use Rattle.json_out.proofs.Objects.{name_next, value_next}
use Rattle.json_out.proofs.writer.Writer.put_signed.Goals as goal

pub signed-requires : goal.signed-requires
signed-requires c = ap takes_value c.in_ok-name.ensures.ok ∙ value_next c.args.self.now c.args.name.now c.requires

pub returns : goal.returns
returns c =
    let n = c.args.n in
    let fits : FitsSigned w32 n = search rules in
    let m : Member = (c.args.name.now, signed_decimal n) in
    let is = c.in_ok-signed.ensures.ok ∙ ap (λ z. put_value c.name.new.self (signed_decimal z)) (to_z-of_z w32 n fits) ∙ ap (λ w. put_value w m.1) c.in_ok-name.ensures.ok in
    record { ok = is; next = ap takes_name is ∙ name_next c.args.self.now m c.requires }
