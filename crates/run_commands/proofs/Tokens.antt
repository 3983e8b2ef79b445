-- Where addresses are signed, sales are settled by tokens.
use Rattle.std.proofs.Common.{◌≡◌, ℕ, ◌+◌, List, [], ◌∷◌, All, IsSome, Option, Some, None, Ok, true, false, get_or, subst}
use Rattle.std.specs.Prelude.{option_map}
use Rattle.std.proofs.lemmas.List.Elements.{All-cons, All-nil}
use Rattle.address_keys.specs.declared.keys.Keys.{Keys}
use Rattle.command_read.proofs.Signed.{notices}
use Rattle.command_read.specs.Commands.{IsCommandOf}
use Rattle.door_worker.specs.Answers.{Answered, IsRight, LeadsTo}
use Rattle.door_worker.specs.Languages.{rtb}
use Rattle.http_wire.specs.declared.message.Message.{Message}
use Rattle.link_door.specs.Doors.{Held}
use Rattle.link_door.specs.declared.link.Link.{Ghosts}
use Rattle.plain_exchange.specs.History.{Call}
use Rattle.plain_exchange.specs.declared.commands.Act.TheVariants as act
use Rattle.plain_exchange.specs.declared.commands.Command.{Command}
use Rattle.plain_exchange.specs.declared.commands.Command.TheVariants as command
use Rattle.run_commands.specs.Tokens.{IsByToken}
use Rattle.session.specs.declared.service.Given.{Given}
use Rattle.session.specs.declared.service.Given.TheVariants as given
use Rattle.worker_pool.specs.Pools.{AreServedFrom, History, IsServedBy}

same_command : (call : Call) (c : Command) → ◌≡◌ {A = Option Command} (Some call.command) (Some c) → call.command ≡ c
same_command call c e = cc e

module _ (public : List ℕ) (keys : Keys) where
  asked_as : (message : Message) (call : Call) (c : Command) → ◌≡◌ {A = Option Command} (Some call.command) (Some c) → IsCommandOf keys message (Ok call.command) → IsCommandOf keys message (Ok c)
  asked_as message call c e h = subst (λ (x : Command). IsCommandOf keys message (Ok x)) (same_command call c e) h

  -- the message asks for the command of the call that it led to
  asked : (w moment : ℕ) (message : Message) (gave : Given) (call : Option Call) (c : Command) → LeadsTo (rtb public keys) w moment message gave call → option_map (λ (x : Call). x.command) call ≡ Some c
      → IsCommandOf keys message (Ok c)
  asked w moment message gave None c h e = absurd (cc e)
  asked w moment message (given.Text answer true) (Some call) c h e = asked_as message call c e h.0.read
  asked w moment message (given.Text answer false) (Some call) c h e = absurd h
  asked w moment message given.StoreFailed (Some call) c h e = asked_as message call c e h.read
  asked w moment message given.Memory (Some call) c h e = absurd h
  asked w moment message given.MemoryLate (Some call) c h e = asked_as message call c e h.read

  by_token : (w : ℕ) (a : Answered) → IsSome keys.key → IsRight (rtb public keys) w a → IsByToken keys a
  by_token w a some right =
      let signed = notices keys a.turn.message some in
      record {
        bill = λ n e. signed.bill n (asked w a.moment a.turn.message a.turn.given a.call (command.Act (act.Bill n)) right e);
        lose = λ n e. signed.lose n (asked w a.moment a.turn.message a.turn.given a.call (command.Act (act.Lose n)) right e);
      }

  module _ {L : Type 0} (K : Ghosts L) (past : History) where
    of_door : (w : ℕ) (all : List Answered) (held after : Option (Held L)) → IsSome keys.key → IsServedBy K (rtb public keys) past w all held after → All (IsByToken keys) all
    of_door w all held after some served = λ k d lt. by_token w (get_or all k d) some (served.right k d lt)

    pub of_doors : (w : ℕ) (alls : List (List Answered)) (helds afters : List (Option (Held L))) → IsSome keys.key → AreServedFrom K (rtb public keys) past w alls helds afters → All (All (IsByToken keys)) alls
    of_doors w [] helds afters some served = All-nil (All (IsByToken keys))
    of_doors w (all ∷ alls) [] afters some served = absurd served
    of_doors w (all ∷ alls) (held ∷ helds) [] some served = absurd served
    of_doors w (all ∷ alls) (held ∷ helds) (after ∷ afters) some served = All-cons (All (IsByToken keys)) all alls (of_door w all held after some served.0) (of_doors (w + 1) alls helds afters some served.1)
