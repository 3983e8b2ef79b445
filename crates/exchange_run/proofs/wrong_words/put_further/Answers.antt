use Rattle.std.proofs.Common.{◌≡◌, ◌∙◌, ℕ, List, ◌++◌, Option, ap, subst}
use Rattle.std.specs.Prelude.{OnOk, codes}
use Rattle.std.specs.Option.{option_map_or}
use Rattle.exchange_run.specs.Explain.{about_options, about_word, further_example}
use Rattle.exchange_run.proofs.wrong_words.put_further.Goals as goal

pub returns-in-Some-clause-ok : goal.returns-in-Some-clause-ok
returns-in-Some-clause-ok c =
    subst (λ (t : Option (List ℕ)). OnOk c.put_about_options.result (c.put_about_options.new.out ≡ c.args.out.now ++ option_map_or (about_options c.args.said.now) t (about_word c.args.name.now (codes " is no command\n"))))
    (c.in-Some.ensures ∙ ap further_example c.as_bytes.ensures.value) c.put_about_options.ensures.ok

pub returns-in-None-clause-ok : goal.returns-in-None-clause-ok
returns-in-None-clause-ok c =
    subst (λ (t : Option (List ℕ)). OnOk c.put_about_word.result (c.put_about_word.new.out ≡ c.args.out.now ++ option_map_or (about_options c.args.said.now) t (about_word c.args.name.now (codes " is no command\n"))))
    (c.in-None.ensures ∙ ap further_example c.as_bytes.ensures.value) c.put_about_word.ensures.ok
