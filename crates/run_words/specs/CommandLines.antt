-- What words ask for, where the command is read by `clap`.
use Rattle.std.specs.Prelude.{◌||◌, Bool, false, List, [], ◌∷◌, Option, None, Some, if◌then◌else◌, codes, option_map}
use Rattle.std.specs.Str.{bytes_eq}
use Rattle.clap.specs.Words.{Text}
use Rattle.run_words.specs.Audit.{audit_options}
use Rattle.run_words.specs.Commands.{recover_options, serve_options}
use Rattle.run_words.specs.Compact.{compact_options}
use Rattle.run_words.specs.Follow.{follow_options}
use Rattle.run_words.specs.Make.{make_options}
use Rattle.run_words.specs.declared.commands.CommandLine.{CommandLine}
use Rattle.run_words.specs.declared.commands.CommandLine.TheVariants.{Audit, Compact, Follow, Help, Make, Recover, Serve, Version, Which}
use Rattle.run_words.specs.declared.commands.Topic.{Topic}
use Rattle.run_words.specs.declared.commands.Topic.TheVariants as topic
use Rattle.run_words.specs.Which.{which_given}

-- `--help` and `--version`
abbrev pub about : Topic → Text → Option CommandLine
about t word = if bytes_eq word (codes "--help") then Some (Help t) else (if bytes_eq word (codes "--version") then Some Version else None)

-- what is asked about the topic: by one word alone
abbrev pub asked : Topic → List Text → Option CommandLine
asked t [] = None
asked t (word ∷ []) = about t word
asked t (word ∷ more ∷ words) = None

-- one word alone that asks about the command before it
abbrev pub is_question : List Text → Bool
is_question [] = false
is_question (word ∷ []) = bytes_eq word (codes "--help") || bytes_eq word (codes "--version")
is_question (word ∷ more ∷ words) = false

abbrev pub or_else : Option CommandLine → Option CommandLine → Option CommandLine
or_else None other = other
or_else (Some line) other = Some line

-- `serve` with its options, or with what is asked about it behind its name
abbrev pub serve_line : List Text → List Text → Option CommandLine
serve_line words rest = or_else (asked topic.Serve rest) (option_map Serve (serve_options words))

abbrev pub recover_line : List Text → List Text → Option CommandLine
recover_line words rest = or_else (asked topic.Recover rest) (option_map Recover (recover_options words))

abbrev pub compact_line : List Text → List Text → Option CommandLine
compact_line words rest = or_else (asked topic.Compact rest) (option_map Compact (compact_options words))

abbrev pub follow_line : List Text → List Text → Option CommandLine
follow_line words rest = or_else (asked topic.Follow rest) (option_map Follow (follow_options words))

-- `which`, or what is asked about it behind its name
abbrev pub which_line : List Text → List Text → Option CommandLine
which_line words rest = or_else (asked topic.Which rest) (option_map (λ given. Which) (which_given words))

abbrev pub audit_line : List Text → List Text → Option CommandLine
audit_line words rest = or_else (asked topic.Audit rest) (option_map Audit (audit_options words))

abbrev pub make_line : List Text → List Text → Option CommandLine
make_line words rest = or_else (asked topic.Make rest) (option_map Make (make_options words))

-- what words ask for whose first names neither those below nor `follow`
abbrev pub last_line : List Text → Text → List Text → Option CommandLine
last_line words name rest =
    if bytes_eq name (codes "which") then which_line words rest
    else (if bytes_eq name (codes "audit") then audit_line words rest
    else (if bytes_eq name (codes "make") then make_line words rest else asked topic.Program words))

-- what words ask for whose first names none of the commands below
abbrev pub further_line : List Text → Text → List Text → Option CommandLine
further_line words name rest = if bytes_eq name (codes "follow") then follow_line words rest else last_line words name rest

-- what the words ask for, the first of which names the command; campaigns behind `try` are not read by `clap`
abbrev pub command_line : List Text → Option CommandLine
command_line [] = None
command_line (name ∷ rest) =
    if bytes_eq name (codes "serve") then serve_line (name ∷ rest) rest
    else (if bytes_eq name (codes "recover") then recover_line (name ∷ rest) rest
    else (if bytes_eq name (codes "compact") then compact_line (name ∷ rest) rest
    else (if bytes_eq name (codes "try") then asked topic.Try rest else further_line (name ∷ rest) name rest)))
