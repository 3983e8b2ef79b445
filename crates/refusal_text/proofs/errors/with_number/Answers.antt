use Rattle.std.proofs.Common.{◌∙◌}
use Rattle.std.specs.Prelude.{codes, decimal}
use Rattle.json_out.specs.Strings.{string_text}
use Rattle.json_out.specs.Texts.{Member}
use Rattle.refusal_text.proofs.Closing.{closes_one}
use Rattle.refusal_text.proofs.errors.with_number.Goals as goal

pub close-requires : goal.close-requires
close-requires c =
    let e : Member = (codes "error", string_text c.args.word.now) in
    let m : Member = (c.args.name.now, decimal c.args.n) in
    let all = closes_one e m _ _ c.in_ok-writer.ensures.value c.in_ok-put_number.ensures.ok in
    record { ends = all.0; whole = all.1 }

pub returns : goal.returns
returns c =
    let e : Member = (codes "error", string_text c.args.word.now) in
    let m : Member = (c.args.name.now, decimal c.args.n) in
    c.in_ok-text.ensures ∙ (closes_one e m _ _ c.in_ok-writer.ensures.value c.in_ok-put_number.ensures.ok).2
