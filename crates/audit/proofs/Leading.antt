-- What an entry leads to.
use Rattle.std.proofs.Common.{◌≡◌, ℕ, Bool, true, false, ◌||◌, Some, None, Option, refl, ap, sym, subst, ◌∙◌}
use Rattle.std.specs.Prelude.{Result, Ok, Err, IfOk, IsTrue, if◌then◌else◌}
use Rattle.address_keys.specs.declared.keys.Keys.{Keys}
use Rattle.auction_core.specs.Draft.{is_valid_command}
use Rattle.audit.specs.Accounts.{LeadsTo, account, answer_at, request_of, state_behind, tells, tells_failure, settings_of}
use Rattle.command_read.specs.Commands.{IsCommandOf}
use Rattle.http_wire.specs.Answers.{memory_answer}
use Rattle.http_wire.specs.declared.answer.Answer.{Answer}
use Rattle.plain_exchange.specs.State.{State}
use Rattle.plain_exchange.specs.Step.{step}
use Rattle.plain_exchange.specs.declared.commands.Reply.{Reply}
use Rattle.rtb_response.specs.Replies.{answer_of}
use Rattle.trace.specs.declared.entry.Entry.{Entry}
use Rattle.trace.specs.declared.header.Header.{Header}
use Rattle.plain_exchange.specs.declared.commands.Command.{Command}
use Rattle.plain_exchange.specs.declared.commands.Command.TheVariants as command
use Rattle.rtb_types.specs.declared.request.BidRequest.{BidRequest}
use Rattle.rtb_types.specs.Valid.{is_valid}
use Rattle.plain_exchange.specs.declared.settings.Settings.{Settings}

-- a command that was read is one that can be prepared
pub valid_as_read : {E : Type 0} (c : Command) → ((r : BidRequest) → ◌≡◌ {A = Result Command E} (Ok c) (Ok (command.Auction r)) → IsTrue (is_valid r)) → IsTrue (is_valid_command c)
valid_as_read (command.Auction r) h = h r refl
valid_as_read (command.Act a) h = refl

-- what the state behind a command, and what it says, make of an entry
pub accounts_so : (keys : Keys) (h : Header) (settings : Settings) (moment : ℕ) (s after : State) (e : Entry) (c : Command) (r : Bool) (reply : Reply) → settings ≡ settings_of h → moment ≡ e.moment → reply ≡ (step settings moment s c).reply → after ≡ (step settings moment s c).after
    → r ≡ (tells_failure e || tells e (answer_of (request_of c) (Some h.public) keys reply)) → account keys h s e (Ok c) ≡ (if r then Some after else None)
unfolding answer_at state_behind
accounts_so keys h settings moment s after e c r reply same now says is told =
    rw (told, says, is, same, now) refl

-- an entry that is read leads so
pub leads_by : (keys : Keys) (h : Header) (s : State) (e : Entry) (r : Bool) (after : State) (found : Result Command Answer) → tells e (memory_answer false) ≡ false → IsCommandOf keys e.message found
    → account keys h s e found ≡ (if r then Some after else None) → LeadsTo keys h s e (if r then Some after else None)
leads_by keys h s e r after found not read leads = LeadsTo.done not found read leads

-- the same, where memory may be wanting
pub leads_all : {E : Type 0} (keys : Keys) (h : Header) (s : State) (e : Entry) (c : Command) (after : State) (r : Result Bool E) → tells e (memory_answer false) ≡ false → IsCommandOf keys e.message (Ok c)
    → IfOk r (λ accounts. account keys h s e (Ok c) ≡ (if accounts then Some after else None)) → IfOk r (λ accounts. LeadsTo keys h s e (if accounts then Some after else None))
leads_all keys h s e c after (Ok accounts) not read leads = leads_by keys h s e accounts after (Ok c) not read leads
leads_all keys h s e c after (Err fault) not read leads = leads
