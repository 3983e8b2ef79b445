-- The words of `follow`.
use Rattle.std.specs.Prelude.{List, Option, None, Some, if◌then◌else◌, codes, option_and_then}
use Rattle.std.specs.List.{list_all}
use Rattle.std.specs.Str.{is_utf8}
use Rattle.clap.specs.Words.{App, Row, Text, new_app, with_rule}
use Rattle.run_words.specs.Addresses.{has_port_0}
use Rattle.run_words.specs.Commands.{given_by, required, text_of}
use Rattle.run_words.specs.declared.follow.FollowOptions.{FollowOptions}

-- `follow --listen A --journal P`
abbrev pub follow_app : App
follow_app = with_rule (with_rule (new_app (codes "follow")) (required (codes "listen"))) (required (codes "journal"))

-- port 0 is none to listen at: nobody is told where the system then listens
abbrev pub follow_of : List Row → Option FollowOptions
follow_of rows = if has_port_0 (text_of (codes "listen") rows) then None else Some (record {
  listen = text_of (codes "listen") rows;
  journal = text_of (codes "journal") rows;
})

-- the options that the words give, of which the first is the command's name; each word has to be a text
abbrev pub follow_options : List Text → Option FollowOptions
follow_options words = if list_all is_utf8 words then option_and_then follow_of (given_by follow_app words) else None
