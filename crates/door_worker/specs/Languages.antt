-- What is said at a door, and in which bytes. The history of an exchange is spoken of in any language; `rtb` is the one
-- that is served.
use Rattle.std.specs.Prelude.{◌≡◌, ℕ, List, Option, Some, Result, ⊤}
use Rattle.address_keys.specs.declared.keys.Keys.{Keys}
use Rattle.command_read.specs.Commands.{IsCommandOf}
use Rattle.http_wire.specs.declared.answer.Answer.{Answer}
use Rattle.http_wire.specs.declared.message.Message.{Message}
use Rattle.plain_exchange.specs.declared.commands.Command.{Command}
use Rattle.plain_exchange.specs.declared.commands.Reply.{Reply}
use Rattle.rtb_response.specs.Replies.{answer_of}
use Rattle.rtb_types.specs.declared.request.BidRequest.{BidRequest}
use Rattle.session.specs.declared.link_end.LinkEnd.{LinkEnd}
use Rattle.session.specs.declared.service.Given.{Given}
use Rattle.session.specs.Talk.{IsServed, Turn}

-- A message asks for a command, or is refused by an answer; the answer that tells a reply, to the request of an auction or
-- none; and what was received and sent on a link, by what is left and what went before and after, where these turns were
-- all that came of it, up to its end.
pub record Language : Type 1 where
  pub Asks : Message → Result Command Answer → Type 0
  pub says : Option BidRequest → Reply → Answer
  pub Carries : Option (List ℕ) → Option (List ℕ) → Option (List ℕ) → Option (List ℕ) → List Turn → LinkEnd → Type 0

-- ---- that of the server

-- whatever is given
abbrev pub Any : ⊤ → Message → Given → ⊤ → Type 0
Any before message gave after = ⊤

-- the bytes of a conversation, whatever answered
pub record IsTalk (left left' sent sent' : Option (List ℕ)) (turns : List Turn) (end : LinkEnd) : Type 0 where
  pub steps : ℕ
  pub served : IsServed Any tt tt left left' sent sent' steps end
  pub turns_are : served.turns ≡ turns

-- OpenRTB and the paths of campaigns over HTTP, where the addresses of notices begin so, and addresses are signed by these
-- keys
abbrev pub rtb : List ℕ → Keys → Language
rtb public keys = record { Asks = IsCommandOf keys; says = λ request reply. answer_of request (Some public) keys reply; Carries = IsTalk }
