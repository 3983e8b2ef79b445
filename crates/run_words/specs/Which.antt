-- The words of `which`, as `clap` reads them: it has no options.
use Rattle.std.specs.Prelude.{List, Option, None, if◌then◌else◌, codes, option_map}
use Rattle.std.specs.List.{list_all}
use Rattle.std.specs.Str.{is_utf8}
use Rattle.clap.specs.Words.{App, Row, Text, new_app}
use Rattle.run_words.specs.Commands.{given_by}

abbrev pub which_app : App
which_app = new_app (codes "which")

-- nothing is given, unless `clap` refuses the words
abbrev pub which_of : List Text → Option (Unit {0})
which_of words = option_map (λ (rows : List Row). tt) (given_by which_app words)

-- the same, where each word is a text
abbrev pub which_given : List Text → Option (Unit {0})
which_given words = if list_all is_utf8 words then which_of words else None
