-- The words of `audit`.
use Rattle.std.specs.Prelude.{List, Option, None, Some, if◌then◌else◌, codes, option_and_then}
use Rattle.std.specs.List.{list_all}
use Rattle.std.specs.Str.{is_utf8}
use Rattle.clap.specs.Words.{App, Row, Text, first_of, new_app, with_rule}
use Rattle.run_words.specs.Commands.{given_by, lacks_key, optional, required, text_of}
use Rattle.run_words.specs.declared.audit.AuditOptions.{AuditOptions}

-- `audit --journal P --key F --former-key G`
abbrev pub audit_app : App
audit_app = with_rule (with_rule (with_rule (new_app (codes "audit")) (required (codes "journal"))) (optional (codes "key"))) (optional (codes "former-key"))

abbrev pub audit_of : List Row → Option AuditOptions
audit_of rows = if lacks_key rows then None else Some (record {
  journal = text_of (codes "journal") rows;
  key = first_of (codes "key") rows;
  former_key = first_of (codes "former-key") rows;
})

-- the options that the words give, of which the first is the command's name; each word has to be a text
abbrev pub audit_options : List Text → Option AuditOptions
audit_options words = if list_all is_utf8 words then option_and_then audit_of (given_by audit_app words) else None
