use Rattle.std.proofs.Common.{◌∙◌, ap}
use Rattle.std.specs.Prelude.{decimal}
use Rattle.json_out.specs.Strings.{string_text}
use Rattle.json_out.specs.Texts.{Member}
use Rattle.json_out.specs.Writer.{put_value, takes_name, takes_value}
use Rattle.json_out.proofs.Objects.{name_next, value_next}
use Rattle.json_out.proofs.writer.Writer.put_digits.Goals as goal

pub digits-requires : goal.digits-requires
digits-requires c = ap takes_value c.in_ok-name.ensures.ok ∙ value_next c.args.self.now c.args.name.now c.requires

pub returns : goal.returns
returns c =
    let m : Member = (c.args.name.now, string_text (decimal c.args.n)) in
    let is = c.in_ok-digits.ensures.ok ∙ ap (λ w. put_value w m.1) c.in_ok-name.ensures.ok in
    record { ok = is; next = ap takes_name is ∙ name_next c.args.self.now m c.requires }
