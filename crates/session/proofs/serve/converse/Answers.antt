use Rattle.std.proofs.Common.{◌≡◌, ℕ, List, Option, Some, None, ap, subst, refl, ◌∙◌, le_refl, le_trans, zero-lt-suc}
use Rattle.http_wire.specs.declared.message.Message.{Message}
use Rattle.rtb_base.specs.Faults.{RisesOnlyWhere}
use Rattle.rtb_base.proofs.Chains.{RisesOnlyWhere-last}
use Rattle.session.specs.Receives.{IsEnd}
use Rattle.session.specs.declared.link_end.LinkEnd.{LinkEnd}
use Rattle.session.specs.declared.link_end.LinkEnd.TheVariants.{LinkFailed}
use Rattle.session.specs.declared.receive.Received.{Received}
use Rattle.session.specs.declared.receive.Received.TheVariants as received
use Rattle.session.proofs.Counts.{once_last, stands, stands_once}
use Rattle.session.proofs.Served.{at_first, decided_writable, fails, goes_on, over, refuses, starves, still_few, stops}
use Rattle.session.proofs.serve.converse.Goals as goal

-- What did not fail has no failure.
goes_no_failure : (end : Option LinkEnd) → end ≡ None → end ≡ Some LinkFailed → ⊥
goes_no_failure end e f = cc

message_no_failure : (r : Received) (m : Message) → r ≡ received.Message m → r ≡ received.Failed → ⊥
message_no_failure r m e f = cc

refused_no_failure : (r : Received) (status : ℕ) (word : List ℕ) → r ≡ received.Refused status word → r ≡ received.Failed → ⊥
refused_no_failure r status word e f = cc

memory_no_failure : (r : Received) → r ≡ received.Memory → r ≡ received.Failed → ⊥
memory_no_failure r e f = cc

ended_no_failure : (r : Received) → r ≡ received.Ended → r ≡ received.Failed → ⊥
ended_no_failure r e f = cc

end_no_failure : (rest : List ℕ) (end : LinkEnd) → IsEnd rest end → end ≡ LinkFailed → ⊥
end_no_failure rest end is e = subst (λ k. IsEnd rest k) e is

same_end : (end : LinkEnd) → Some end ≡ Some LinkFailed → end ≡ LinkFailed
same_end end e = cc

-- What counts of faults did behind calls that left them.
failed : (r : Received) (end : LinkEnd) (a b c : ℕ) → b ≡ a → r ≡ received.Failed → RisesOnlyWhere (r ≡ received.Failed) b c → RisesOnlyWhere (end ≡ end) a c
failed r end a b c e is h =
    let k = RisesOnlyWhere-last (r ≡ received.Failed) a b c e h in
    (k.0, λ same. k.1 is, λ no. absurd (no refl))

of_some : (end : LinkEnd) (a b c : ℕ) → b ≡ a → RisesOnlyWhere (Some end ≡ Some LinkFailed) b c → RisesOnlyWhere (end ≡ LinkFailed) a c
of_some end a b c e h =
    let k = RisesOnlyWhere-last (Some end ≡ Some LinkFailed) a b c e h in
    (k.0, λ is. k.1 (ap Some is), λ no. k.2 (λ is. no (same_end end is)))

pub messages-init : goal.messages-init
messages-init g c = record {
  talking = at_first g.S.Service.answers c.args.service.now (g.L.Link.left c.args.link.now) (g.L.Link.sent c.args.link.now) c.args.input.now c.args.steps.now c.requires;
  few = zero-lt-suc 9999;
  ticks = le_refl _;
  faults = refl;
}

pub refuse-end-requires : goal.refuse-end-requires
refuse-end-requires g c = decided_writable c.in-Refused.ensures.received.all c.in-Refused.status c.in-Refused.word c.in-Refused.ensures.received.given.0

pub returns-in-Refused-clause-served : goal.returns-in-Refused-clause-served
returns-in-Refused-clause-served g c =
    let (tail, is, sends) = c.refuse-end.ensures.sent in
    refuses g.S.Service.answers _ _ _ _ _ _ _ _ _ _ _ _ _ _ _ _ c.in-Refused.status c.in-Refused.word tail _ c.messages.invariant.talking c.in-Refused.ensures.received c.receive.ensures.sent is sends c.refuse-end.ensures.left c.messages.invariant.ticks c.receive.ensures.ticks

pub returns-in-Ended-clause-served : goal.returns-in-Ended-clause-served
returns-in-Ended-clause-served g c =
    over g.S.Service.answers _ _ _ _ _ _ _ _ _ _ _ _ _ _ _ c.messages.invariant.talking c.in-Ended.ensures.received c.receive.ensures.sent c.end_of_input.ensures c.messages.invariant.ticks c.receive.ensures.ticks

pub returns-in-Failed-clause-served : goal.returns-in-Failed-clause-served
returns-in-Failed-clause-served g c =
    fails g.S.Service.answers _ _ _ _ _ _ _ _ _ _ _ _ _ _ c.messages.invariant.talking c.in-Failed.ensures.received c.receive.ensures.sent c.messages.invariant.ticks c.receive.ensures.ticks

pub returns-in-Memory-clause-served : goal.returns-in-Memory-clause-served
returns-in-Memory-clause-served g c =
    starves g.S.Service.answers _ _ _ _ _ _ _ _ _ _ _ _ _ _ _ _ _ c.messages.invariant.talking c.in-Memory.ensures.received c.receive.ensures.sent c.out_of_memory.ensures.end c.out_of_memory.ensures.sent c.out_of_memory.ensures.left c.messages.invariant.ticks c.receive.ensures.ticks

pub returns-in-Some-clause-served : goal.returns-in-Some-clause-served
returns-in-Some-clause-served g c =
    stops g.S.Service.answers _ _ _ _ _ _ _ _ _ _ _ _ _ _ _ _ _ c.in-Message.message c.in-Some.end c.messages.invariant.talking c.in-Message.ensures.received c.receive.ensures.sent c.in-Some.ensures.turn c.take_turn-end.ensures.left c.messages.invariant.ticks c.receive.ensures.ticks

pub messages-preserved : goal.messages-preserved
messages-preserved g c =
    let talking = goes_on g.S.Service.answers _ _ _ _ _ _ _ _ _ _ _ _ _ _ _ _ _ c.in-Message.message c.messages.invariant.talking c.in-Message.ensures.received c.receive.ensures.sent c.in-None.ensures.turn c.take_turn-end.ensures.left c.messages.invariant.ticks c.receive.ensures.ticks in
    let quiet = c.take_turn-end.ensures.cause.2 (goes_no_failure _ c.in-None.is) in
    let before = c.receive.ensures.cause.2 (message_no_failure _ c.in-Message.message c.in-Message.is) in
    record {
      talking = talking;
      few = still_few c.messages.number c.in-Message.message c.messages.invariant.few c.in-None.ensures.turn.ends_so.0;
      ticks = le_trans c.messages.invariant.ticks c.receive.ensures.ticks;
      faults = quiet ∙ before ∙ c.messages.invariant.faults;
    }

pub returns-in-Refused-clause-ticks : goal.returns-in-Refused-clause-ticks
returns-in-Refused-clause-ticks g c = le_trans c.messages.invariant.ticks c.receive.ensures.ticks

pub returns-in-Refused-clause-cause : goal.returns-in-Refused-clause-cause
returns-in-Refused-clause-cause g c = RisesOnlyWhere-last _ _ _ _ (c.receive.ensures.cause.2 (refused_no_failure _ c.in-Refused.status c.in-Refused.word c.in-Refused.is) ∙ c.messages.invariant.faults) c.refuse-end.ensures.cause

pub returns-in-Refused-clause-once : goal.returns-in-Refused-clause-once
returns-in-Refused-clause-once g c = once_last _ _ _ (c.receive.ensures.cause.2 (refused_no_failure _ c.in-Refused.status c.in-Refused.word c.in-Refused.is) ∙ c.messages.invariant.faults) c.refuse-end.ensures.once

pub returns-in-Ended-clause-ticks : goal.returns-in-Ended-clause-ticks
returns-in-Ended-clause-ticks g c = le_trans c.messages.invariant.ticks c.receive.ensures.ticks

pub returns-in-Ended-clause-cause : goal.returns-in-Ended-clause-cause
returns-in-Ended-clause-cause g c = stands _ _ _ (c.receive.ensures.cause.2 (ended_no_failure _ c.in-Ended.is) ∙ c.messages.invariant.faults) (end_no_failure _ _ c.end_of_input.ensures)

pub returns-in-Ended-clause-once : goal.returns-in-Ended-clause-once
returns-in-Ended-clause-once g c = stands_once _ _ (c.receive.ensures.cause.2 (ended_no_failure _ c.in-Ended.is) ∙ c.messages.invariant.faults)

pub returns-in-Failed-clause-ticks : goal.returns-in-Failed-clause-ticks
returns-in-Failed-clause-ticks g c = le_trans c.messages.invariant.ticks c.receive.ensures.ticks

pub returns-in-Failed-clause-cause : goal.returns-in-Failed-clause-cause
returns-in-Failed-clause-cause g c = failed c.receive.result LinkFailed _ _ _ c.messages.invariant.faults c.in-Failed.is c.receive.ensures.cause

pub returns-in-Failed-clause-once : goal.returns-in-Failed-clause-once
returns-in-Failed-clause-once g c = once_last _ _ _ c.messages.invariant.faults c.receive.ensures.once

pub returns-in-Memory-clause-ticks : goal.returns-in-Memory-clause-ticks
returns-in-Memory-clause-ticks g c = le_trans c.messages.invariant.ticks c.receive.ensures.ticks

pub returns-in-Memory-clause-cause : goal.returns-in-Memory-clause-cause
returns-in-Memory-clause-cause g c = RisesOnlyWhere-last _ _ _ _ (c.receive.ensures.cause.2 (memory_no_failure _ c.in-Memory.is) ∙ c.messages.invariant.faults) c.out_of_memory.ensures.cause

pub returns-in-Memory-clause-once : goal.returns-in-Memory-clause-once
returns-in-Memory-clause-once g c = once_last _ _ _ (c.receive.ensures.cause.2 (memory_no_failure _ c.in-Memory.is) ∙ c.messages.invariant.faults) c.out_of_memory.ensures.once

pub returns-in-Some-clause-ticks : goal.returns-in-Some-clause-ticks
returns-in-Some-clause-ticks g c = le_trans c.messages.invariant.ticks c.receive.ensures.ticks

pub returns-in-Some-clause-cause : goal.returns-in-Some-clause-cause
returns-in-Some-clause-cause g c =
    let before = c.receive.ensures.cause.2 (message_no_failure _ c.in-Message.message c.in-Message.is) ∙ c.messages.invariant.faults in
    of_some c.in-Some.end _ _ _ before c.in-Some.ensures.cause

pub returns-in-Some-clause-once : goal.returns-in-Some-clause-once
returns-in-Some-clause-once g c =
    let before = c.receive.ensures.cause.2 (message_no_failure _ c.in-Message.message c.in-Message.is) ∙ c.messages.invariant.faults in
    once_last _ _ _ before c.take_turn-end.ensures.once
