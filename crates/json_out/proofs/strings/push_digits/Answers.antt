use Rattle.std.proofs.Common.{◌≡◌, ◌<◌, ◌^◌, ◌++◌, ◌∷◌, [], OnOk, ap, ◌∙◌, rules, subst}
use Rattle.std.specs.Prelude.{decimal}
use Rattle.json_out.proofs.Digits.{string_of_digits}
use Rattle.json_out.proofs.strings.push_digits.Goals as goal

pub returns-clause-ok : goal.returns-clause-ok
returns-clause-ok c =
    let n = c.args.n in
    let fits : n < 2 ^ 64 = search rules in
    let digits = c.in_ok-write_decimal.ensures.ok ∙ ap (λ l. l ++ decimal n) c.in_ok-push.ensures.ok in
    subst (λ t. OnOk c.push-2.result (c.push-2.new.self ≡ t)) (ap (λ l. l ++ 34 ∷ []) digits ∙ string_of_digits c.args.out.now n fits) c.push-2.ensures.ok
