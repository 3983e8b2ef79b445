use Rattle.std.proofs.Common.{◌≡◌, ◌<◌, ◌^◌, ◌++◌, ◌∷◌, [], OnOk, ap, ◌∙◌, rules, subst}
use Rattle.std.specs.Prelude.{decimal}
use Rattle.std.specs.List.{flat_map}
use Rattle.json_out.specs.Strings.{escape}
use Rattle.json_out.proofs.Digits.{appended, regrouped, string_of_numbered}
use Rattle.json_out.proofs.strings.push_numbered.Goals as goal

pub returns-clause-ok : goal.returns-clause-ok
returns-clause-ok c =
    let s = c.args.text.now in
    let t = c.args.path.now in
    let n = c.args.n in
    let fits : n < 2 ^ 64 = search rules in
    let text = c.in_ok-push_escaped.ensures.ok ∙ ap (λ l. l ++ flat_map escape s) c.in_ok-push.ensures.ok in
    let path = c.in_ok-push_escaped-2.ensures.ok ∙ ap (λ l. l ++ flat_map escape t) text in
    let digits = c.in_ok-write_decimal.ensures.ok ∙ ap (λ l. l ++ decimal n) path in
    subst (λ t. OnOk c.push-2.result (c.push-2.new.self ≡ t)) (ap (λ l. l ++ 34 ∷ []) digits ∙ string_of_numbered c.args.out.now s t n fits) c.push-2.ensures.ok

pub returns-clause-front : goal.returns-clause-front
returns-clause-front c =
    let n = c.args.n in
    let (a, first) = c.in_ok-push_escaped.ensures.front in
    let (b, second) = c.in_ok-push_escaped-2.ensures.front in
    let (d, last) = appended c.push-2.result c.push-2.new.self c.write_decimal.new.out (34 ∷ []) c.push-2.ensures.ok c.push-2.ensures.err in
    let text = first ∙ ap (λ l. l ++ a) c.in_ok-push.ensures.ok in
    let path = second ∙ ap (λ l. l ++ b) text in
    let digits = c.in_ok-write_decimal.ensures.ok ∙ ap (λ l. l ++ decimal n) path in
    (34 ∷ (a ++ (b ++ (decimal n ++ d))), last ∙ ap (λ l. l ++ d) digits ∙ regrouped c.args.out.now (34 ∷ []) a b (decimal n) d)
