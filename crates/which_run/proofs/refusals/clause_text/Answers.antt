use Rattle.std.proofs.Common.{◌∙◌, ap, ◌≡◌, [], ◌∷◌, subst}
use Rattle.std.specs.Prelude.{codes, decimal, IfOk}
use Rattle.json_out.specs.Inside.{put_member}
use Rattle.json_out.specs.Strings.{string_text}
use Rattle.json_out.specs.Texts.{Member}
use Rattle.which_run.proofs.Closing.{closes_with}
use Rattle.which_run.proofs.refusals.clause_text.Goals as goal

pub close-requires : goal.close-requires
close-requires c =
    let e : Member = (codes "error", string_text c.args.word.now) in
    let a : Member = (codes "expression", decimal c.args.number) in
    let b : Member = (codes "clause", decimal c.args.clause) in
    let all = closes_with (e ∷ []) (a ∷ b ∷ []) _ _ c.in_ok-writer.ensures.value (c.in_ok-put_number-2.ensures.ok ∙ ap (λ v. put_member v b) c.in_ok-put_number.ensures.ok) in
    record { ends = all.0; whole = all.1 }

pub returns : goal.returns
returns c =
    let e : Member = (codes "error", string_text c.args.word.now) in
    let a : Member = (codes "expression", decimal c.args.number) in
    let b : Member = (codes "clause", decimal c.args.clause) in
    let all = closes_with (e ∷ []) (a ∷ b ∷ []) _ _ c.in_ok-writer.ensures.value (c.in_ok-put_number-2.ensures.ok ∙ ap (λ v. put_member v b) c.in_ok-put_number.ensures.ok) in
    subst (λ t. IfOk c.close.result (λ r. r ≡ t)) all.2 c.close.ensures
