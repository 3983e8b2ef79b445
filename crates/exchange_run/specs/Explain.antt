-- What is said of words that are of no command, to whoever wrote them.
use Rattle.std.specs.Prelude.{ℕ, nat_le, not, List, [], ◌∷◌, ◌++◌, length, find, get_or, Option, None, Some, is_some, if◌then◌else◌, codes}
use Rattle.std.specs.Option.{option_map_or}
use Rattle.std.specs.Str.{bytes_eq}
use Rattle.json_out.specs.Strings.{string_text}
use Rattle.run_words.specs.CommandLines.{command_line}
use Rattle.exchange_run.specs.Words.{campaign_of}

-- a right command
abbrev pub example_line : List ℕ
example_line = codes "rtbx: a right command is: rtbx try 2.50@news.example 1.00\n"

abbrev pub serve_example : List ℕ
serve_example = codes "rtbx: a right command is: rtbx serve --listen 127.0.0.1:8080 --journal exchange.journal --public http://ads.example\n"

abbrev pub recover_example : List ℕ
recover_example = codes "rtbx: a right command is: rtbx recover --journal exchange.journal\n"

abbrev pub compact_example : List ℕ
compact_example = codes "rtbx: a right command is: rtbx compact --journal exchange.journal --into compacted.journal\n"

abbrev pub follow_example : List ℕ
follow_example = codes "rtbx: a right command is: rtbx follow --listen 127.0.0.1:8081 --journal exchange.journal\n"

abbrev pub which_example : List ℕ
which_example = codes "rtbx: a right command is: rtbx which < expressions.json\n"

abbrev pub audit_example : List ℕ
audit_example = codes "rtbx: a right command is: rtbx audit --journal before.journal < trace\n"

abbrev pub make_example : List ℕ
make_example = codes "rtbx: a right command is: rtbx make 7 2000\n"

-- the word that is wrong, written as a string of JSON, and what it is not
abbrev pub about_word : List ℕ → List ℕ → List ℕ
about_word word why = codes "rtbx: " ++ string_text word ++ why ++ example_line

abbrev pub about_campaign : Option (List ℕ) → List ℕ
about_campaign None = []
about_campaign (Some word) = about_word word (codes " is no campaign\n")

-- the first word that is no campaign
abbrev pub wrong_campaign : List (List ℕ) → Option (List ℕ)
wrong_campaign words = find (λ word. not (is_some (campaign_of word))) words

abbrev pub about_campaigns : List (List ℕ) → List ℕ
about_campaigns words =
    if nat_le (length words) 64 then about_campaign (wrong_campaign words)
    else about_word (get_or words 64 []) (codes " is campaign 65, and 64 is the most\n")

-- what is said of the options, and a right command
abbrev pub about_options : List ℕ → List ℕ → List ℕ
about_options said example = codes "rtbx: " ++ said ++ codes "\n" ++ example

-- where there is no word, a right command of each kind
abbrev pub examples : List ℕ
examples = codes "rtbx: no command is named\n" ++ example_line ++ serve_example ++ recover_example ++ compact_example

abbrev pub all_examples : List ℕ
all_examples = examples ++ (follow_example ++ (which_example ++ (audit_example ++ make_example)))

-- a right command of that name, where it is one of these
abbrev pub further_example : List ℕ → Option (List ℕ)
further_example name =
    if bytes_eq name (codes "follow") then Some follow_example
    else (if bytes_eq name (codes "which") then Some which_example
    else (if bytes_eq name (codes "audit") then Some audit_example
    else (if bytes_eq name (codes "make") then Some make_example else None)))

-- what is wrong with words of no command whose first names none of those below
abbrev pub further_wrong : List ℕ → List ℕ → List ℕ
further_wrong said name = option_map_or (about_options said) (further_example name) (about_word name (codes " is no command\n"))

-- what is wrong with the words of no command, and a right command; `said` is what `clap` says of options
abbrev pub what_is_wrong : List ℕ → List (List ℕ) → List ℕ
what_is_wrong said [] = all_examples
what_is_wrong said (name ∷ words) =
    if bytes_eq name (codes "try") then about_campaigns words
    else (if bytes_eq name (codes "serve") then about_options said serve_example
    else (if bytes_eq name (codes "recover") then about_options said recover_example
    else (if bytes_eq name (codes "compact") then about_options said compact_example else further_wrong said name)))

-- the same, and of a command nothing
abbrev pub explanation : List ℕ → List (List ℕ) → List ℕ
explanation said words = if is_some (command_line words) then [] else what_is_wrong said words
