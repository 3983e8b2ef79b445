use Rattle.std.proofs.Common.{◌≡◌, ℕ, List, [], ◌++◌, Option, None, subst, sym}
use Rattle.std.specs.Prelude.{OnOk, is_some, if◌then◌else◌}
use Rattle.exchange_run.specs.Explain.{what_is_wrong}
use Rattle.run_words.specs.CommandLines.{command_line}
use Rattle.run_words.specs.declared.commands.CommandLine.{CommandLine}
use Rattle.exchange_run.proofs.wrong_words.explain.Goals as goal

pub returns-in-Err-Usage-clause-ok : goal.returns-in-Err-Usage-clause-ok
returns-in-Err-Usage-clause-ok c =
    let none : command_line c.args.words.now ≡ None = c.in-Err-Usage.ensures c.in-Err-Usage.field-0-is in
    subst (λ (t : Option CommandLine). OnOk c.tell_what_is_wrong.result ((x : List ℕ) × c.tell_what_is_wrong.new.out ≡ c.args.out.now ++ (if is_some t then [] else what_is_wrong x c.args.words.now)))
    (sym none) c.tell_what_is_wrong.ensures.ok
