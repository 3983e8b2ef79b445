-- The words of commands with options, as `clap` reads them. A command is told by its options alone; what its words
-- are then is said by `clap`: whether they are refused (`fault_of`), and which options they give (`matches_of`).
use Rattle.std.specs.Prelude.{ℕ, List, [], ◌∷◌, Bool, not, Option, None, Some, if◌then◌else◌, true, false, codes, ◌^◌, ◌-◌, ◌&&◌, is_some, option_and_then, option_map, unwrap_or}
use Rattle.std.specs.List.{list_all}
use Rattle.std.specs.Str.{bytes_eq, is_utf8}
use Rattle.std.specs.Str.Parse.{digits_value, without_leading_plus}
use Rattle.clap.specs.Kinds.{Kinds}
use Rattle.clap.specs.ValueTests.{accepts}
use Rattle.clap.specs.Words.{App, Row, Rule, Text, fault_of, first_of, matches_of, new_app, new_rule, with_rule}
use Rattle.clap.specs.declared.builder.action.ArgAction.TheVariants.{SetTrue}
use Rattle.clap.specs.declared.builder.value_parser.ValueParser.{ValueParser}
use Rattle.clap.specs.declared.builder.value_parser.ValueParser.TheVariants as parser
use Rattle.run_words.specs.Addresses.{has_port_0, is_public}
use Rattle.run_words.specs.declared.serve.ServeOptions.{ServeOptions}
use Rattle.run_words.specs.declared.recover.RecoverOptions.{RecoverOptions}

-- an option that has to be given: its name behind two hyphens, and then its value
abbrev pub required : Text → Rule
required name = record (new_rule name) { long = Some name; required = true }

-- an option that may be given, the same way
abbrev pub optional : Text → Rule
optional name = record (new_rule name) { long = Some name }

-- an option without a value, which is given or not
abbrev pub flag_rule : Text → Rule
flag_rule name = record (new_rule name) { long = Some name; action = Some SetTrue }

-- an option with a number from the least to the most, which is the default where it is not given
abbrev pub number_between : ℕ → ℕ → Text → Text → Rule
number_between least most default name = record (new_rule name) { long = Some name; defaults = default ∷ []; parser = Some (parser.Unsigned least most) }

-- `serve --listen A --journal P --existing --public U --key F --former-key G`
abbrev pub serve_texts : App
serve_texts = with_rule (with_rule (with_rule (with_rule (with_rule (with_rule (new_app (codes "serve")) (required (codes "listen"))) (required (codes "journal"))) (flag_rule (codes "existing"))) (required (codes "public")))
    (optional (codes "key"))) (optional (codes "former-key"))

-- `.. --workers N --ttl T --sales L --patience W` behind these, with N from 1 to 64, L from 1 to 67,108,864, and T from 1
-- to a year and W from 1 to an hour, in milliseconds
abbrev pub serve_app : App
serve_app = with_rule (with_rule (with_rule (with_rule serve_texts (number_between 1 64 (codes "4") (codes "workers")))
    (number_between 1 31536000000 (codes "300000") (codes "ttl"))) (number_between 1 67108864 (codes "4194304") (codes "sales"))) (number_between 1 3600000 (codes "60000") (codes "patience"))

-- `recover --journal P`
abbrev pub recover_app : App
recover_app = with_rule (new_app (codes "recover")) (required (codes "journal"))

abbrev pub unless : Kinds → List Row → Option (List Row)
unless [] rows = Some rows
unless (fault ∷ faults) rows = None

-- what the words give, unless `clap` refuses them
abbrev pub given_by : App → List Text → Option (List Row)
given_by app words = unless (fault_of app words) (matches_of app words)

-- the text of an option
abbrev pub text_of : Text → List Row → Text
text_of name rows = unwrap_or (first_of name rows) []

-- a former key is given, and no key beside it
abbrev pub lacks_key : List Row → Bool
lacks_key rows = is_some (first_of (codes "former-key") rows) && not (is_some (first_of (codes "key") rows))

-- whether an option without a value is given
abbrev pub flag_of : Text → List Row → Bool
flag_of name rows = bytes_eq (text_of name rows) (codes "true")

abbrev pub number_parser : ValueParser
number_parser = parser.Unsigned 0 (2 ^ 64 - 1)

-- decimal digits, behind a plus that may stand there, that tell a number of 64 bits
abbrev pub number_in : Text → Option ℕ
number_in text = if accepts false number_parser text then Some (digits_value 10 (without_leading_plus text)) else None

-- how many workers, for how many milliseconds a sale is held, how many sales the list has at most, and for how many
-- milliseconds a link waits for its peer
abbrev pub serve_numbers : List Row → Option (ℕ × ℕ × ℕ × ℕ)
serve_numbers rows = option_and_then (λ workers. option_and_then (λ ttl. option_and_then (λ sales. option_map (λ patience. (workers, ttl, sales, patience)) (number_in (text_of (codes "patience") rows)))
    (number_in (text_of (codes "sales") rows))) (number_in (text_of (codes "ttl") rows))) (number_in (text_of (codes "workers") rows))

-- Port 0 is none to listen at: nobody is told where the system then listens. And no bidder reaches a notice whose
-- address begins with no scheme and host. A former key is for what was signed before there was another.
abbrev pub serve_of : List Row → Option ServeOptions
serve_of rows = if has_port_0 (text_of (codes "listen") rows) then None else (if not (is_public (text_of (codes "public") rows)) then None else (if lacks_key rows then None else option_map (λ numbers. record {
  listen = text_of (codes "listen") rows;
  journal = text_of (codes "journal") rows;
  existing = flag_of (codes "existing") rows;
  public = text_of (codes "public") rows;
  key = first_of (codes "key") rows;
  former_key = first_of (codes "former-key") rows;
  workers = numbers.0;
  ttl = numbers.1;
  sales = numbers.2;
  patience = numbers.3;
}) (serve_numbers rows)))

abbrev pub recover_of : List Row → RecoverOptions
recover_of rows = record { journal = text_of (codes "journal") rows }

-- the options that the words give, of which the first is the command's name; each word has to be a text
abbrev pub serve_options : List Text → Option ServeOptions
serve_options words = if list_all is_utf8 words then option_and_then serve_of (given_by serve_app words) else None

abbrev pub recover_options : List Text → Option RecoverOptions
recover_options words = if list_all is_utf8 words then option_map recover_of (given_by recover_app words) else None
