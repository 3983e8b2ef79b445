use Rattle.std.proofs.Common.{◌∙◌, [], ◌∷◌}
use Rattle.std.specs.Prelude.{codes}
use Rattle.json_out.specs.Strings.{string_text}
use Rattle.json_out.specs.Texts.{Member}
use Rattle.json_out.proofs.Objects.{closes}
use Rattle.refusal_text.proofs.errors.error_text.Goals as goal

pub close-requires : goal.close-requires
close-requires c =
    let e : Member = (codes "error", string_text c.args.word.now) in
    let all = closes _ (e ∷ []) c.in_ok-writer.ensures.value in
    record { ends = all.0; whole = all.1 }

pub returns : goal.returns
returns c =
    let e : Member = (codes "error", string_text c.args.word.now) in
    c.in_ok-text.ensures ∙ (closes _ (e ∷ []) c.in_ok-writer.ensures.value).2
