-- What `try` answers, and what a whole run does.
use Rattle.std.specs.Prelude.{◌≡◌, ◌≢◌, ℕ, ◌<◌, ◌≤◌, ◌⊎◌, List, [], ◌∷◌, ◌++◌, length, Option, None, Some, IsSome, codes}
use Rattle.rtb_base.specs.Faults.{Rose}
use Rattle.rtb_io.specs.Statuses.{code_of}
use Rattle.rtb_io.specs.declared.status.Status.{Status}
use Rattle.rtb_io.specs.declared.status.Status.TheVariants as status
use Rattle.rtb_io.specs.Fronts.{AppendsFront}
use Rattle.std.specs.Io.KnownBytes.{Consumes, Appends, IsAtEnd}
use Rattle.exact_json.specs.Tree.{Tree}
use Rattle.exact_json.specs.Grammar.{IsText}
use Rattle.exact_json.specs.Faults.{Explains}
use Rattle.exact_json.specs.declared.fault.JsonFault.{JsonFault}
use Rattle.exact_json.specs.declared.fault.JsonFault.TheVariants.{Memory}
use Rattle.rtb_types.specs.declared.request.BidRequest.{BidRequest}
use Rattle.rtb_read.specs.Request.{request_faults, request_from}
use Rattle.rtb_read.specs.declared.fault.ReqFault.{ReqFault}
use Rattle.run_commands.specs.Endings.{line_of}
use Rattle.exchange_run.specs.Words.{Campaign, command_of}
use Rattle.exchange_run.specs.Exchange.{line_for, reply_at_opening}
use Rattle.refusal_text.specs.Refusals.{error_text, json_fault_text, request_fault_text}
use Rattle.exchange_run.specs.declared.try_command.Reply.{Reply}

-- the longest input that is taken
abbrev pub max_input : ℕ
max_input = 262144

-- a refusal
abbrev pub refusal_of : List ℕ → Reply
refusal_of body = record { status = status.Refused; line = body }

-- what the exchange of the campaigns answers to the request
abbrev pub reply_to : List Campaign → BidRequest → Reply
reply_to campaigns r = record { status = status.Done; line = line_for r (reply_at_opening campaigns r) }

-- the first fault is refused; without one the request is sold
abbrev pub reply_by : List Campaign → List ReqFault → BidRequest → Reply
reply_by campaigns [] r = reply_to campaigns r
reply_by campaigns (fault ∷ faults) r = refusal_of (request_fault_text fault)

-- the reply to a JSON text that says this
abbrev pub tree_reply : List Campaign → Tree → Reply
tree_reply campaigns t = reply_by campaigns (request_faults t) (request_from t)

abbrev pub too_large_reply : Reply
too_large_reply = refusal_of (error_text (codes "body-too-large"))

-- The reply to the bytes. A text says one thing and other bytes have one fault, so there is one.
pub data IsReply (campaigns : List Campaign) (bytes : List ℕ) (reply : Reply) : Type 0 where
  too_large : max_input < length bytes → reply ≡ too_large_reply → IsReply campaigns bytes reply
  said : length bytes ≤ max_input → (t : Tree) → IsText t bytes → reply ≡ tree_reply campaigns t → IsReply campaigns bytes reply
  faulty : length bytes ≤ max_input → (fault : JsonFault) → fault ≢ Memory → Explains bytes fault → reply ≡ refusal_of (json_fault_text fault) → IsReply campaigns bytes reply

-- The reply to the bytes of the campaigns that the words name, as a status and a text that ends in a line feed.
pub record Replies (campaigns : Option (List Campaign)) (bytes : List ℕ) (status : Status) (text : List ℕ) : Type 0 where
  pub named : List Campaign
  pub are_named : campaigns ≡ Some named
  pub reply : Reply
  pub is_reply : IsReply named bytes reply
  pub status_is : status ≡ reply.status
  pub text_is : text ≡ reply.line ++ 10 ∷ []

-- All was read, or more than the longest input.
pub record WasRead (left left' : Option (List ℕ)) (bytes : List ℕ) : Type 0 where
  pub came : Consumes left left' bytes
  pub whole : IsAtEnd left' ⊎ (max_input < length bytes)

-- What a run of the words comes to, before it is written: how it ends, and with which text. The words
-- are of no command; or the input was read, and this is the reply to it; or the source failed; or
-- memory was refused.
pub data IsOutcome (words : List (List ℕ)) (left left' : Option (List ℕ)) (faults faults' : ℕ) (end : Status) (text : List ℕ) : Type 0 where
  unnamed : command_of words ≡ None → faults' ≡ faults → end ≡ status.Usage → text ≡ line_of end → IsOutcome words left left' faults faults' end text
  replied : (bytes : List ℕ) → WasRead left left' bytes → faults' ≡ faults → Replies (command_of words) bytes end text → IsOutcome words left left' faults faults' end text
  unread : IsSome (command_of words) → Rose faults faults' → end ≡ status.NotRead → text ≡ line_of end → IsOutcome words left left' faults faults' end text
  starved : IsSome (command_of words) → faults' ≡ faults → end ≡ status.Memory → text ≡ line_of end → IsOutcome words left left' faults faults' end text

-- the text that the run comes to was written
pub record Told (words : List (List ℕ)) (left left' : Option (List ℕ)) (faults faults' : ℕ) (written written' : Option (List ℕ)) (code : ℕ) : Type 0 where
  pub end : Status
  pub text : List ℕ
  pub outcome : IsOutcome words left left' faults faults' end text
  pub code_is : code ≡ code_of end
  pub went : Appends written written' text

-- a front of that text was written
pub record HalfTold (words : List (List ℕ)) (left left' : Option (List ℕ)) (faults faults' : ℕ) (written written' : Option (List ℕ)) : Type 0 where
  pub end : Status
  pub text : List ℕ
  pub outcome : IsOutcome words left left' faults faults' end text
  pub went : AppendsFront written written' text
