use Rattle.std.proofs.Common.{◌∙◌}
use Rattle.std.specs.Prelude.{codes, decimal}
use Rattle.json_out.specs.Strings.{string_text}
use Rattle.json_out.specs.Texts.{Member}
use Rattle.refusal_text.proofs.Closing.{closes_two}
use Rattle.refusal_text.proofs.errors.with_numbers.Goals as goal

pub close-requires : goal.close-requires
close-requires c =
    let e : Member = (codes "error", string_text c.args.word.now) in
    let m : Member = (c.args.first.0.now, decimal c.args.first.1) in
    let n : Member = (c.args.second.0.now, decimal c.args.second.1) in
    let all = closes_two e m n _ _ _ c.in_ok-writer.ensures.value c.in_ok-put_number.ensures.ok c.in_ok-put_number-2.ensures.ok in
    record { ends = all.0; whole = all.1 }

pub returns : goal.returns
returns c =
    let e : Member = (codes "error", string_text c.args.word.now) in
    let m : Member = (c.args.first.0.now, decimal c.args.first.1) in
    let n : Member = (c.args.second.0.now, decimal c.args.second.1) in
    c.in_ok-text.ensures ∙ (closes_two e m n _ _ _ c.in_ok-writer.ensures.value c.in_ok-put_number.ensures.ok c.in_ok-put_number-2.ensures.ok).2
