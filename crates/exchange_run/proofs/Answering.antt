-- The reply to the first command.
use Rattle.std.proofs.Common.{◌≡◌, ℕ, List, Result, Ok, Err, refl, ap, ◌∙◌}
use Rattle.std.specs.Prelude.{IfOk}
use Rattle.plain_exchange.specs.declared.commands.Command.{Command}
use Rattle.plain_exchange.specs.declared.commands.Command.TheVariants.{Auction}
use Rattle.plain_exchange.specs.declared.commands.Reply.{Reply}
use Rattle.plain_exchange.specs.State.{State}
use Rattle.plain_exchange.specs.Step.{step}
use Rattle.rtb_types.specs.declared.request.BidRequest.{BidRequest}
use Rattle.exchange_run.specs.Exchange.{line_for, opening, reply_at_opening, settings}
use Rattle.exchange_run.specs.Making.{first_reply}
use Rattle.exchange_run.specs.Words.{Campaign}
use Rattle.plain_exchange.specs.declared.settings.Settings.{Settings}

-- of an exchange that is opened so
pub by_opening : {E : Type 0} (held : Settings) (s : State) (command : Command) (cs : List Campaign) (r : Result Reply E) → held ≡ settings → s ≡ opening cs
    → IfOk r (λ x. x ≡ (step held 0 s command).reply) → IfOk r (λ x. x ≡ first_reply cs command)
unfolding first_reply
by_opening held s command cs (Ok x) h e is = is ∙ ap (λ (n : Settings). (step n 0 s command).reply) h ∙ ap (λ (t : State). (step settings 0 t command).reply) e
by_opening held s command cs (Err f) h e is = is

-- of a request
to_request : (cs : List Campaign) (r : BidRequest) → first_reply cs (Auction r) ≡ reply_at_opening cs r
unfolding first_reply reply_at_opening
to_request cs r = refl

pub line_first : {E : Type 0} (cs : List Campaign) (r : BidRequest) (command : Command) (reply : Reply) (line : Result (List ℕ) E) → command ≡ Auction r → reply ≡ first_reply cs command
    → IfOk line (λ t. t ≡ line_for r reply) → IfOk line (λ t. t ≡ line_for r (reply_at_opening cs r))
line_first cs r command reply (Ok t) is e f = f ∙ ap (line_for r) (e ∙ ap (first_reply cs) is ∙ to_request cs r)
line_first cs r command reply (Err x) is e f = f
