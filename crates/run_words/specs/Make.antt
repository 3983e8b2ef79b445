-- The words of `make`.
use Rattle.std.specs.Prelude.{ℕ, ◌-◌, ◌^◌, Bool, true, false, List, Option, None, Some, if◌then◌else◌, codes, option_and_then, option_map}
use Rattle.std.specs.List.{list_all}
use Rattle.std.specs.Str.{bytes_eq, is_utf8}
use Rattle.clap.specs.Words.{App, Row, Rule, Text, first_of, new_app, new_rule, with_rule}
use Rattle.clap.specs.declared.builder.value_parser.ValueParser.TheVariants as parser
use Rattle.run_words.specs.Commands.{given_by, number_in, text_of}
use Rattle.run_words.specs.declared.make.MakeOptions.{MakeOptions}

-- a word that has to be given, at its place: a number up to the most
abbrev pub number_up_to : ℕ → Text → Rule
number_up_to most name = record (new_rule name) { required = true; parser = Some (parser.Unsigned 0 most) }

-- `make START N`, and behind it a word more or none
abbrev pub make_app : App
make_app = with_rule (with_rule (with_rule (new_app (codes "make")) (number_up_to (2 ^ 64 - 1) (codes "START"))) (number_up_to 100000 (codes "N"))) (new_rule (codes "trace"))

-- whether the trace is wanted: by the word `trace`, and by no other
abbrev pub wants_trace : Option Text → Option Bool
wants_trace None = Some false
wants_trace (Some word) = if bytes_eq word (codes "trace") then Some true else None

-- the start and how many requests
abbrev pub make_numbers : List Row → Option (ℕ × ℕ)
make_numbers rows = option_and_then (λ start. option_map (λ requests. (start, requests)) (number_in (text_of (codes "N") rows))) (number_in (text_of (codes "START") rows))

abbrev pub make_of : List Row → Option MakeOptions
make_of rows = option_and_then (λ trace. option_map (λ numbers. record { start = numbers.0; requests = numbers.1; trace = trace }) (make_numbers rows)) (wants_trace (first_of (codes "trace") rows))

-- what the words give, of which the first is the command's name; each word has to be a text
abbrev pub make_options : List Text → Option MakeOptions
make_options words = if list_all is_utf8 words then option_and_then make_of (given_by make_app words) else None
