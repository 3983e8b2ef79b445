-- When the entries of a trace account for each other: an exchange of one thread, which takes the messages in their order
-- at their moments, gives these answers, but where its memory or its store fails. Addresses are signed by these keys.
use Rattle.std.specs.Prelude.{◌≡◌, ◌==◌, ◌&&◌, ◌||◌, ℕ, Bool, true, false, List, [], ◌∷◌, Option, Some, None, Result, Ok, Err, if◌then◌else◌}
use Rattle.std.specs.Str.{bytes_eq}
use Rattle.address_keys.specs.declared.keys.Keys.{Keys}
use Rattle.command_read.specs.Commands.{IsCommandOf}
use Rattle.http_wire.specs.Answers.{memory_answer, store_failed_answer}
use Rattle.http_wire.specs.declared.answer.Answer.{Answer}
use Rattle.plain_exchange.specs.State.{State}
use Rattle.plain_exchange.specs.Step.{step}
use Rattle.plain_exchange.specs.declared.commands.Command.{Command}
use Rattle.plain_exchange.specs.declared.commands.Command.TheVariants as command
use Rattle.plain_exchange.specs.declared.settings.Settings.{Settings}
use Rattle.rtb_response.specs.Replies.{answer_of}
use Rattle.rtb_types.specs.declared.request.BidRequest.{BidRequest}
use Rattle.trace.specs.declared.entry.Entry.{Entry}
use Rattle.trace.specs.declared.header.Header.{Header}

-- the request of an auction
abbrev pub request_of : Command → Option BidRequest
request_of (command.Auction r) = Some r
request_of (command.Act a) = None

-- the entry tells this answer: its status and its body
abbrev pub tells : Entry → Answer → Bool
tells e a = (e.status == a.status) && bytes_eq e.answer a.body

-- what is answered where a command was carried out, and its store or the memory for its answer failed
abbrev pub tells_failure : Entry → Bool
tells_failure e = tells e store_failed_answer || tells e (memory_answer true)

-- an answer that says nothing of the exchange
abbrev pub passes : Entry → Bool
passes e = tells e (memory_answer false) || tells_failure e

-- the trace has the time for which a sale is held, and the list of sales its greatest length of old
abbrev pub settings_of : Header → Settings
settings_of h = record { ttl = h.ttl; limit = 4194304 }

-- the answer of an exchange of one thread to the command
unfoldable pub answer_at : Keys → Header → State → ℕ → Command → Answer
answer_at keys h s moment c = answer_of (request_of c) (Some h.public) keys (step (settings_of h) moment s c).reply

unfoldable pub state_behind : Header → State → ℕ → Command → State
state_behind h s moment c = (step (settings_of h) moment s c).after

-- The state behind an entry whose message is this command, or is refused so; none where the entry does not account for
-- its answer.
abbrev pub account : Keys → Header → State → Entry → Result Command Answer → Option State
account keys h s e (Err refusal) = if tells e refusal then Some s else None
account keys h s e (Ok c) = if tells_failure e || tells e (answer_at keys h s e.moment c) then Some (state_behind h s e.moment c) else None

-- What the entry leads to. Where memory was wanting before, nothing was done, whatever the message is; else it is by
-- what the message is.
pub data LeadsTo (keys : Keys) (h : Header) (s : State) (e : Entry) (after : Option State) : Type 0 where
  undone : tells e (memory_answer false) ≡ true → after ≡ Some s → LeadsTo keys h s e after
  done : tells e (memory_answer false) ≡ false → (found : Result Command Answer) → IsCommandOf keys e.message found → account keys h s e found ≡ after → LeadsTo keys h s e after

-- the entries account for themselves, one behind the other, from the state to the state
abbrev pub Accounts : Keys → Header → State → List Entry → State → Type 0
Accounts keys h s [] t = t ≡ s
Accounts keys h s (e ∷ es) t = (mid : State) × LeadsTo keys h s e (Some mid) × Accounts keys h mid es t
