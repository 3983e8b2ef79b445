use Rattle.std.proofs.Common.{◌++◌, length, ap, ◌∙◌, append_assoc}
use Rattle.byte_fields.specs.Encodings.{four_bytes, text_bytes}
use Rattle.byte_fields.proofs.texts.append_text.Goals as goal

pub returns-clause-ok : goal.returns-clause-ok
unfolding text_bytes
returns-clause-ok c =
    let text = c.args.text.now in
    c.in_ok-extend.ensures.ok ∙ ap (λ o. o ++ text) c.in_ok-put_four.ensures.ok ∙ append_assoc c.args.out.now (four_bytes (length text)) text
