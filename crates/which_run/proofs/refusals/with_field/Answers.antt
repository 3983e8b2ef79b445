use Rattle.std.proofs.Common.{◌≡◌, [], ◌∷◌, subst}
use Rattle.std.specs.Prelude.{codes, IfOk}
use Rattle.json_out.specs.Strings.{string_text}
use Rattle.json_out.specs.Texts.{Member}
use Rattle.which_run.proofs.Closing.{closes_with}
use Rattle.which_run.proofs.refusals.with_field.Goals as goal

pub close-requires : goal.close-requires
close-requires c =
    let e : Member = (codes "error", string_text c.args.word.now) in
    let a : Member = (codes "field", string_text c.args.path.now) in
    let all = closes_with (e ∷ []) (a ∷ []) _ _ c.in_ok-writer.ensures.value (c.in_ok-put_text.ensures.ok) in
    record { ends = all.0; whole = all.1 }

pub returns : goal.returns
returns c =
    let e : Member = (codes "error", string_text c.args.word.now) in
    let a : Member = (codes "field", string_text c.args.path.now) in
    let all = closes_with (e ∷ []) (a ∷ []) _ _ c.in_ok-writer.ensures.value (c.in_ok-put_text.ensures.ok) in
    subst (λ t. IfOk c.close.result (λ r. r ≡ t)) all.2 c.close.ensures
