use Rattle.std.proofs.Common.{◌≡◌, ℕ, ◌<◌, ◌≤◌, ◌-◌, Bool, true, false, List, [], ◌∷◌, ◌++◌, length, get_or, take, drop, refl, sym, ap, subst, ◌∙◌, arith}
use Rattle.std.specs.Prelude.{OnOk, codes}
use Rattle.std.specs.Str.{bytes_eq}
use Rattle.std.proofs.lemmas.Bool.{cond-true, cond-false}
use Rattle.std.proofs.lemmas.List.{take_all}
use Rattle.exchange_run.specs.Explain.{all_examples, what_is_wrong}
use Rattle.exchange_run.proofs.wrong_words.put_what_is_wrong.Goals as goal

-- Words of which one is first.
begun : (words : List (List ℕ)) (name : List ℕ) → 1 ≤ length words → name ≡ get_or words 0 name → words ≡ name ∷ take (length words - 1) (drop 1 words)
begun [] name some e = absurd (omega arith)
begun (word ∷ words) name some e =
    ap (λ w. w ∷ words) (sym e) ∙ ap (λ ws. name ∷ ws) (sym (take_all (length (word ∷ words) - 1) words (omega arith)))

-- What a test of the first word's bytes says of the word.
tested : (b : Bool) (bytes text name word : List ℕ) → b ≡ bytes_eq bytes text → bytes ≡ name → text ≡ word → bytes_eq name word ≡ b
tested b bytes text name word e p q = ap (λ x. bytes_eq x word) (sym p) ∙ ap (λ x. bytes_eq bytes x) (sym q) ∙ sym e

none : (said : List ℕ) (words : List (List ℕ)) → length words < 1 → all_examples ≡ what_is_wrong said words
none said [] few = refl
none said (word ∷ words) few = absurd (omega arith)

pub returns-then-eq-clause-ok : goal.returns-then-eq-clause-ok
returns-then-eq-clause-ok c =
    let words = begun c.args.words.now c.name-item.result c.in-len1-up.len_at_least c.name-item.is in
    let is_try = tested true _ _ c.name-item.result (codes "try") c.if-eq.ensures c.as_bytes.ensures.value c.as_slice.ensures in
    let wrong = ap (what_is_wrong c.args.said.now) words ∙ cond-true _ _ _ is_try in
    subst (λ (t : List ℕ). OnOk c.put_about_campaigns.result (c.put_about_campaigns.new.out ≡ c.args.out.now ++ t)) (sym wrong) c.put_about_campaigns.ensures.ok

pub returns-then-eq-clause-front : goal.returns-then-eq-clause-front
returns-then-eq-clause-front c = c.put_about_campaigns.ensures.front

pub returns-then-eq-2-clause-ok : goal.returns-then-eq-2-clause-ok
returns-then-eq-2-clause-ok c =
    let words = begun c.args.words.now c.name-item.result c.in-len1-up.len_at_least c.name-item.is in
    let is_try = tested false _ _ c.name-item.result (codes "try") c.if-eq.ensures c.as_bytes.ensures.value c.as_slice.ensures in
    let is_serve = tested true _ _ c.name-item.result (codes "serve") c.if-eq-2.ensures c.as_bytes-in-len1-up.ensures.value c.as_slice-in-len1-up.ensures in
    let wrong = ap (what_is_wrong c.args.said.now) words ∙ cond-false _ _ _ is_try ∙ cond-true _ _ _ is_serve in
    subst (λ (t : List ℕ). OnOk c.put_about_options.result (c.put_about_options.new.out ≡ c.args.out.now ++ t)) (sym wrong) c.put_about_options.ensures.ok

pub returns-then-eq-2-clause-front : goal.returns-then-eq-2-clause-front
returns-then-eq-2-clause-front c = c.put_about_options.ensures.front

pub returns-then-eq-3-clause-ok : goal.returns-then-eq-3-clause-ok
returns-then-eq-3-clause-ok c =
    let words = begun c.args.words.now c.name-item.result c.in-len1-up.len_at_least c.name-item.is in
    let is_try = tested false _ _ c.name-item.result (codes "try") c.if-eq.ensures c.as_bytes.ensures.value c.as_slice.ensures in
    let is_serve = tested false _ _ c.name-item.result (codes "serve") c.if-eq-2.ensures c.as_bytes-in-len1-up.ensures.value c.as_slice-in-len1-up.ensures in
    let is_recover = tested true _ _ c.name-item.result (codes "recover") c.if-eq-3.ensures c.as_bytes-in-len1-up-2.ensures.value c.as_slice-in-len1-up-2.ensures in
    let wrong = ap (what_is_wrong c.args.said.now) words ∙ cond-false _ _ _ is_try ∙ cond-false _ _ _ is_serve ∙ cond-true _ _ _ is_recover in
    subst (λ (t : List ℕ). OnOk c.put_about_options-then-eq-3.result (c.put_about_options-then-eq-3.new.out ≡ c.args.out.now ++ t)) (sym wrong) c.put_about_options-then-eq-3.ensures.ok

pub returns-then-eq-3-clause-front : goal.returns-then-eq-3-clause-front
returns-then-eq-3-clause-front c = c.put_about_options-then-eq-3.ensures.front

pub returns-in-empty-clause-ok : goal.returns-in-empty-clause-ok
returns-in-empty-clause-ok c =
    subst (λ (t : List ℕ). OnOk c.put_all_examples.result (c.put_all_examples.new.out ≡ c.args.out.now ++ t)) (none c.args.said.now c.args.words.now c.in-empty.len_below) c.put_all_examples.ensures.ok

pub returns-in-empty-clause-front : goal.returns-in-empty-clause-front
returns-in-empty-clause-front c = c.put_all_examples.ensures.front

pub returns-then-eq-4-clause-ok : goal.returns-then-eq-4-clause-ok
returns-then-eq-4-clause-ok c =
    let words = begun c.args.words.now c.name-item.result c.in-len1-up.len_at_least c.name-item.is in
    let is_try = tested false _ _ c.name-item.result (codes "try") c.if-eq.ensures c.as_bytes.ensures.value c.as_slice.ensures in
    let is_serve = tested false _ _ c.name-item.result (codes "serve") c.if-eq-2.ensures c.as_bytes-in-len1-up.ensures.value c.as_slice-in-len1-up.ensures in
    let is_recover = tested false _ _ c.name-item.result (codes "recover") c.if-eq-3.ensures c.as_bytes-in-len1-up-2.ensures.value c.as_slice-in-len1-up-2.ensures in
    let is_compact = tested true _ _ c.name-item.result (codes "compact") c.if-eq-4.ensures c.as_bytes-in-len1-up-3.ensures.value c.as_slice-in-len1-up-3.ensures in
    let wrong = ap (what_is_wrong c.args.said.now) words ∙ cond-false _ _ _ is_try ∙ cond-false _ _ _ is_serve ∙ cond-false _ _ _ is_recover ∙ cond-true _ _ _ is_compact in
    subst (λ (t : List ℕ). OnOk c.put_about_options-then-eq-4.result (c.put_about_options-then-eq-4.new.out ≡ c.args.out.now ++ t)) (sym wrong) c.put_about_options-then-eq-4.ensures.ok

pub returns-then-eq-4-clause-front : goal.returns-then-eq-4-clause-front
returns-then-eq-4-clause-front c = c.put_about_options-then-eq-4.ensures.front

pub returns-else-eq-4-clause-ok : goal.returns-else-eq-4-clause-ok
returns-else-eq-4-clause-ok c =
    let words = begun c.args.words.now c.name-item.result c.in-len1-up.len_at_least c.name-item.is in
    let is_try = tested false _ _ c.name-item.result (codes "try") c.if-eq.ensures c.as_bytes.ensures.value c.as_slice.ensures in
    let is_serve = tested false _ _ c.name-item.result (codes "serve") c.if-eq-2.ensures c.as_bytes-in-len1-up.ensures.value c.as_slice-in-len1-up.ensures in
    let is_recover = tested false _ _ c.name-item.result (codes "recover") c.if-eq-3.ensures c.as_bytes-in-len1-up-2.ensures.value c.as_slice-in-len1-up-2.ensures in
    let is_compact = tested false _ _ c.name-item.result (codes "compact") c.if-eq-4.ensures c.as_bytes-in-len1-up-3.ensures.value c.as_slice-in-len1-up-3.ensures in
    let wrong = ap (what_is_wrong c.args.said.now) words ∙ cond-false _ _ _ is_try ∙ cond-false _ _ _ is_serve ∙ cond-false _ _ _ is_recover ∙ cond-false _ _ _ is_compact in
    subst (λ (t : List ℕ). OnOk c.put_further.result (c.put_further.new.out ≡ c.args.out.now ++ t)) (sym wrong) c.put_further.ensures.ok

pub returns-else-eq-4-clause-front : goal.returns-else-eq-4-clause-front
returns-else-eq-4-clause-front c = c.put_further.ensures.front
