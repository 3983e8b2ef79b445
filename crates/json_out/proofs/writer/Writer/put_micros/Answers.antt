use Rattle.std.proofs.Common.{◌∙◌, ap}
use Rattle.rtb_num.specs.Amounts.{micros_text}
use Rattle.json_out.specs.Texts.{Member}
use Rattle.json_out.specs.Writer.{put_value, takes_name, takes_value}
use Rattle.json_out.proofs.Objects.{name_next, value_next}
use Rattle.json_out.proofs.writer.Writer.put_micros.Goals as goal

pub micros-requires : goal.micros-requires
micros-requires c = ap takes_value c.in_ok-name.ensures.ok ∙ value_next c.args.self.now c.args.name.now c.requires

pub returns : goal.returns
returns c =
    let m : Member = (c.args.name.now, micros_text c.args.price) in
    let is = c.in_ok-micros.ensures.ok ∙ ap (λ w. put_value w m.1) c.in_ok-name.ensures.ok in
    record { ok = is; next = ap takes_name is ∙ name_next c.args.self.now m c.requires }
