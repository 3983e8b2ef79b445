-- What a message asks for, where it has one reading.
use Rattle.std.proofs.Common.{◌≡◌, ℕ, sym, ap, subst, refl, ◌∙◌, Option, None}
use Rattle.std.specs.Prelude.{Result, Ok, Err}
use Rattle.address_keys.specs.Tokens.{no_keys}
use Rattle.address_keys.specs.declared.keys.Keys.{Keys}
use Rattle.command_read.specs.Commands.{IsCommandOf}
use Rattle.follower.specs.Reading.{report_asked}
use Rattle.follower.specs.Reporting.{AsksFor}
use Rattle.http_wire.specs.declared.answer.Answer.{Answer}
use Rattle.http_wire.specs.declared.message.Message.{Message}
use Rattle.plain_exchange.specs.declared.commands.Act.TheVariants as act
use Rattle.plain_exchange.specs.declared.commands.Command.{Command}
use Rattle.plain_exchange.specs.declared.commands.Command.TheVariants as command
use Rattle.plain_exchange.specs.declared.commands.Look.TheVariants as look

abbrev OneReadingBy : Keys → Message → Type 0
OneReadingBy keys message = (a b : Result Command Answer) → IsCommandOf keys message a → IsCommandOf keys message b → a ≡ b

abbrev OneReading : Message → Type 0
OneReading message = OneReadingBy no_keys message

abbrev by_result : Result Command Answer → Option ℕ
by_result (Ok c) = report_asked c
by_result (Err a) = None

other : (message : Message) (c : Command) → OneReading message → IsCommandOf no_keys message (Ok c) → report_asked c ≡ None → AsksFor message None
other message c one read none = λ n report. absurd (cc (none, ap by_result (one (Ok c) (Ok (command.Act (act.Look (look.Report n)))) read report)))

none_asked : (message : Message) (c : Command) (asked : Option ℕ) → OneReading message → IsCommandOf no_keys message (Ok c) → report_asked c ≡ None → asked ≡ report_asked c → AsksFor message asked
none_asked message c asked one read none is = subst (AsksFor message) (sym (is ∙ none)) (other message c one read none)

asks : (message : Message) (c : Command) (asked : Option ℕ) → OneReading message → IsCommandOf no_keys message (Ok c) → asked ≡ report_asked c → AsksFor message asked
asks message (command.Auction request) asked one read is = none_asked message (command.Auction request) asked one read refl is
asks message (command.Act (act.Add facts expr)) asked one read is = none_asked message (command.Act (act.Add facts expr)) asked one read refl is
asks message (command.Act (act.Change n facts expr)) asked one read is = none_asked message (command.Act (act.Change n facts expr)) asked one read refl is
asks message (command.Act (act.Pause n)) asked one read is = none_asked message (command.Act (act.Pause n)) asked one read refl is
asks message (command.Act (act.Resume n)) asked one read is = none_asked message (command.Act (act.Resume n)) asked one read refl is
asks message (command.Act (act.Bill sale)) asked one read is = none_asked message (command.Act (act.Bill sale)) asked one read refl is
asks message (command.Act (act.Lose sale)) asked one read is = none_asked message (command.Act (act.Lose sale)) asked one read refl is
asks message (command.Act (act.Forget keep)) asked one read is = none_asked message (command.Act (act.Forget keep)) asked one read refl is
asks message (command.Act (act.Look (look.Report n))) asked one read is = subst (AsksFor message) (sym is) read

refused : (message : Message) (a : Answer) → OneReading message → IsCommandOf no_keys message (Err a) → AsksFor message None
refused message a one read = λ n report. absurd (cc (one (Err a) (Ok (command.Act (act.Look (look.Report n)))) read report))

-- ---- the same, where keys are known to be none

pub asks_by : (keys : Keys) → keys ≡ no_keys → (message : Message) (c : Command) (asked : Option ℕ) → OneReadingBy keys message → IsCommandOf keys message (Ok c) → asked ≡ report_asked c → AsksFor message asked
asks_by keys e message c asked one read is =
    asks message c asked (subst (λ k. OneReadingBy k message) e one) (subst (λ k. IsCommandOf k message (Ok c)) e read) is

pub refused_by : (keys : Keys) → keys ≡ no_keys → (message : Message) (a : Answer) → OneReadingBy keys message → IsCommandOf keys message (Err a) → AsksFor message None
refused_by keys e message a one read =
    refused message a (subst (λ k. OneReadingBy k message) e one) (subst (λ k. IsCommandOf k message (Err a)) e read)
