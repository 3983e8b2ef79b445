-- The words of `compact`.
use Rattle.std.specs.Prelude.{List, Option, None, if◌then◌else◌, codes, option_and_then, option_map}
use Rattle.std.specs.List.{list_all}
use Rattle.std.specs.Str.{bytes_eq, is_utf8}
use Rattle.clap.specs.Words.{App, Row, Text, new_app, with_rule}
use Rattle.run_words.specs.Commands.{flag_of, flag_rule, given_by, number_between, number_in, required, text_of}
use Rattle.run_words.specs.declared.compact.CompactOptions.{CompactOptions}

-- `compact --journal P --into Q --keep K --beside`, with K up to as many sales as a list may have at all
abbrev pub compact_app : App
compact_app = with_rule (with_rule (with_rule (with_rule (new_app (codes "compact")) (required (codes "journal"))) (required (codes "into"))) (number_between 0 67108864 (codes "1000000") (codes "keep"))) (flag_rule (codes "beside"))

-- a journal is not written over itself
abbrev pub compact_of : List Row → Option CompactOptions
compact_of rows = if bytes_eq (text_of (codes "journal") rows) (text_of (codes "into") rows) then None else option_map (λ keep. record {
  journal = text_of (codes "journal") rows;
  into = text_of (codes "into") rows;
  keep = keep;
  beside = flag_of (codes "beside") rows;
}) (number_in (text_of (codes "keep") rows))

-- the options that the words give, of which the first is the command's name; each word has to be a text
abbrev pub compact_options : List Text → Option CompactOptions
compact_options words = if list_all is_utf8 words then option_and_then compact_of (given_by compact_app words) else None
