-- What words ask for that do not name `try`, and what those do not that do.
use Rattle.std.proofs.Common.{◌≡◌, ◌∙◌, List, ℕ, Option, true, false, None, Some, ap, sym}
use Rattle.std.specs.Prelude.{if◌then◌else◌, option_map}
use Rattle.run_words.specs.CommandLines.{command_line}
use Rattle.run_words.specs.declared.commands.CommandLine.{CommandLine}
use Rattle.exchange_run.specs.Run.{names_try, other, sale, words_of}
use Rattle.exchange_run.specs.Words.{Campaign, command_of}

pub other_words : (words : List (List ℕ)) (l : CommandLine) → names_try words ≡ false → command_line words ≡ Some l → words_of words ≡ Some (other l)
other_words words l no_try is = ap (λ b. if b then option_map sale (command_of words) else option_map other (command_line words)) no_try ∙ ap (option_map other) is

no_line_sold : {P : Type 0} (o : Option (List Campaign)) (l : CommandLine) → option_map sale o ≡ Some (other l) → P
no_line_sold None l e = absurd (cc e)
no_line_sold (Some campaigns) l e = absurd (cc e)

-- `try` asks for nothing that is read by `clap`
pub no_line_of_try : {P : Type 0} (words : List (List ℕ)) (l : CommandLine) → names_try words ≡ true → words_of words ≡ Some (other l) → P
no_line_of_try words l is_try is =
    no_line_sold (command_of words) l (sym (ap (λ b. if b then option_map sale (command_of words) else option_map other (command_line words)) is_try) ∙ is)
