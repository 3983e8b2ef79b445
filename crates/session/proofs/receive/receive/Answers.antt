use Rattle.std.proofs.Common.{◌≡◌, ◌+◌, ◌-◌, ◌<◌, ◌≤◌, ◌++◌, ℕ, List, [], Option, Some, None, inl, length, refl, sym, ap, subst, ◌∙◌, arith, le_refl}
use Rattle.std.specs.Io.KnownBytes.{Consumes}
use Rattle.std.proofs.lemmas.List.{append-nil}
use Rattle.http_wire.specs.declared.message.Step.{Step}
use Rattle.http_wire.specs.declared.message.Step.TheVariants.{Got, Refused}
use Rattle.http_wire.specs.Wire.{Decides, IsLeast}
use Rattle.http_wire.specs.declared.message.Message.{Message}
use Rattle.rtb_base.specs.Faults.{RisesOnlyWhere}
use Rattle.rtb_base.proofs.Chains.{RisesOnlyWhere-last}
use Rattle.session.specs.Receives.{Costs, Grows, IsPaid}
use Rattle.session.specs.declared.receive.More.{More}
use Rattle.session.specs.declared.receive.More.TheVariants as more
use Rattle.session.specs.declared.receive.Received.{Received}
use Rattle.session.specs.declared.receive.Received.TheVariants as received
use Rattle.session.proofs.Arrives.{costs_now, got_costs, grows_more, next_paid, one_more, still_costs}
use Rattle.session.proofs.Counts.{once_last, stands, stands_once}
use Rattle.session.proofs.receive.receive.Goals as goal

-- Nothing has come yet.
none_came : (left : Option (List ℕ)) → Consumes left left []
none_came None = tt
none_came (Some bytes) = refl

grows_none : (left : Option (List ℕ)) (held : List ℕ) → Grows left left held held
grows_none left held = record { came = []; received = none_came left; now_is = sym (append-nil held) }

unpaid : (steps n : ℕ) → steps - steps ≤ n
unpaid steps n = omega arith

ticked : (first before now : ℕ) → first ≤ before → now ≡ before + 1 → first ≤ now
ticked first before now h e = omega (arith, h, e)

-- What did not fail has no failure.
message_no_failure : (m : Message) → received.Message m ≡ received.Failed → ⊥
message_no_failure m e = cc

refused_no_failure : (status : ℕ) (word : List ℕ) → received.Refused status word ≡ received.Failed → ⊥
refused_no_failure status word e = cc

memory_no_failure : ◌≡◌ {A = Received} received.Memory received.Failed → ⊥
memory_no_failure e = cc

ended_no_failure : ◌≡◌ {A = Received} received.Ended received.Failed → ⊥
ended_no_failure e = cc

more_no_failure : (m : More) → m ≡ more.Ended → m ≡ more.Failed → ⊥
more_no_failure m e f = cc

failed : (m : More) (r : Received) (a b c : ℕ) → b ≡ a → m ≡ more.Failed → RisesOnlyWhere (m ≡ more.Failed) b c → RisesOnlyWhere (r ≡ r) a c
failed m r a b c e is h =
    let k = RisesOnlyWhere-last (m ≡ more.Failed) a b c e h in
    (k.0, λ same. k.1 is, λ no. absurd (no refl))

pub reads-init : goal.reads-init
reads-init g c = record {
  grows = grows_none (g.L.Link.left c.args.link.now) c.args.input.now;
  ticks = le_refl _;
  paid = inl (λ n out. unpaid c.args.steps.now n);
  sent = refl;
  faults = refl;
}

pub returns-in-Ok-Got-clause-received : goal.returns-in-Ok-Got-clause-received
returns-in-Ok-Got-clause-received g c =
    let held = c.reads.input in
    let m = c.in-Ok-Got.message in
    let used = c.in-Ok-Got.used in
    let step = rw c.in-Ok-Got.field-0-is at c.in-Ok-Got.ensures.step in
    let decides : Decides held (Got m used) = subst (λ k. Decides k (Got m used)) c.bytes.ensures.value step in
    let cost = got_costs held (c.reads.steps - c.args.steps.now) m used c.reads.invariant.paid decides in
    let ticks = one_more c.args.steps.now c.reads.steps c.reads.invariant.ticks in
    record {
      all = held;
      grows = c.reads.invariant.grows;
      given = (used, decides, c.pass.ensures, omega (arith, cost, ticks, c.next_message.ensures.cost));
    }

pub returns-in-Ok-Refused-clause-received : goal.returns-in-Ok-Refused-clause-received
returns-in-Ok-Refused-clause-received g c =
    let held = c.reads.input in
    let status = c.in-Ok-Refused.status in
    let word = c.in-Ok-Refused.word in
    let step = rw c.in-Ok-Refused.field-0-is at c.in-Ok-Refused.ensures.step in
    let decides : Decides held (Refused status word) = subst (λ k. Decides k (Refused status word)) c.bytes.ensures.value step in
    let ticks = one_more c.args.steps.now c.reads.steps c.reads.invariant.ticks in
    let total : c.next_message.new.steps - c.args.steps.now ≡ c.reads.steps - c.args.steps.now + 1 = ap (λ k. k - c.args.steps.now) c.next_message.ensures.cost ∙ ticks in
    record {
      all = held;
      grows = c.reads.invariant.grows;
      given = (decides, refl, subst (λ k. Costs k held) (sym total) (costs_now held (c.reads.steps - c.args.steps.now) c.reads.invariant.paid));
    }

pub returns-in-Err-clause-received : goal.returns-in-Err-clause-received
returns-in-Err-clause-received g c =
    let held = c.reads.input in
    let ticks = one_more c.args.steps.now c.reads.steps c.reads.invariant.ticks in
    let total : c.next_message.new.steps - c.args.steps.now ≡ c.reads.steps - c.args.steps.now + 1 = ap (λ k. k - c.args.steps.now) c.next_message.ensures.cost ∙ ticks in
    record {
      all = held;
      grows = c.reads.invariant.grows;
      given = (refl, subst (λ k. Costs k held) (sym total) (costs_now held (c.reads.steps - c.args.steps.now) c.reads.invariant.paid));
    }

pub reads-preserved : goal.reads-preserved
reads-preserved g c =
    let held = c.reads.input in
    let now = c.read_more.new.input in
    let came = c.read_more.ensures.grows.came in
    let now_is = c.read_more.ensures.grows.now_is in
    let least = c.at_least-least.result in
    let bytes_are = c.bytes-in-reads.ensures.value in
    let is : IsLeast held least = subst (λ k. IsLeast k least) bytes_are c.at_least-least.ensures.value in
    let step = rw c.in-Ok-Need.field-0-is at c.in-Ok-Need.ensures.step in
    let none : (s : Step) → Decides held s → ⊥ = subst (λ k. (s : Step) → Decides k s → ⊥) c.bytes.ensures.value step in
    let enough : least ≤ length (held ++ came) = omega (arith, ap length now_is, c.in-Enough.ensures.more) in
    let paid = next_paid held came (c.reads.steps - c.args.steps.now) least c.reads.invariant.paid none is enough in
    let ticks = one_more c.args.steps.now c.reads.steps c.reads.invariant.ticks in
    let total : c.next_message.new.steps - c.args.steps.now ≡ c.reads.steps - c.args.steps.now + 1 = ap (λ k. k - c.args.steps.now) c.next_message.ensures.cost ∙ ticks in
    let quiet = c.read_more.ensures.cause.2 (λ failed. let wrong : ⊥ = cc in wrong) in
    record {
      grows = grows_more _ _ _ c.args.input.now held now c.reads.invariant.grows c.read_more.ensures.grows;
      ticks = omega (arith, c.next_message.ensures.cost, c.reads.invariant.ticks);
      paid = subst (λ k. IsPaid k now) (sym total) (subst (λ k. IsPaid (c.reads.steps - c.args.steps.now + 1) k) (sym now_is) paid);
      sent = c.read_more.ensures.sent ∙ c.reads.invariant.sent;
      faults = quiet ∙ c.reads.invariant.faults;
    }

pub returns-in-Ended-clause-received : goal.returns-in-Ended-clause-received
returns-in-Ended-clause-received g c =
    let held = c.reads.input in
    let now = c.read_more.new.input in
    let came = c.read_more.ensures.grows.came in
    let now_is = c.read_more.ensures.grows.now_is in
    let step = rw c.in-Ok-Need.field-0-is at c.in-Ok-Need.ensures.step in
    let none : (s : Step) → Decides held s → ⊥ = subst (λ k. (s : Step) → Decides k s → ⊥) c.bytes.ensures.value step in
    let cost = still_costs held came (c.reads.steps - c.args.steps.now) c.reads.invariant.paid none in
    let ticks = one_more c.args.steps.now c.reads.steps c.reads.invariant.ticks in
    let total : c.next_message.new.steps - c.args.steps.now ≡ c.reads.steps - c.args.steps.now + 1 = ap (λ k. k - c.args.steps.now) c.next_message.ensures.cost ∙ ticks in
    record {
      all = now;
      grows = grows_more _ _ _ c.args.input.now held now c.reads.invariant.grows c.read_more.ensures.grows;
      given = (c.in-Ended.ensures.more, refl, subst (λ k. Costs k now) (sym total) (subst (λ k. Costs (c.reads.steps - c.args.steps.now + 1) k) (sym now_is) cost));
    }

pub returns-in-Failed-clause-received : goal.returns-in-Failed-clause-received
returns-in-Failed-clause-received g c =
    let held = c.reads.input in
    let now = c.read_more.new.input in
    let came = c.read_more.ensures.grows.came in
    let now_is = c.read_more.ensures.grows.now_is in
    let step = rw c.in-Ok-Need.field-0-is at c.in-Ok-Need.ensures.step in
    let none : (s : Step) → Decides held s → ⊥ = subst (λ k. (s : Step) → Decides k s → ⊥) c.bytes.ensures.value step in
    let cost = still_costs held came (c.reads.steps - c.args.steps.now) c.reads.invariant.paid none in
    let ticks = one_more c.args.steps.now c.reads.steps c.reads.invariant.ticks in
    let total : c.next_message.new.steps - c.args.steps.now ≡ c.reads.steps - c.args.steps.now + 1 = ap (λ k. k - c.args.steps.now) c.next_message.ensures.cost ∙ ticks in
    record {
      all = now;
      grows = grows_more _ _ _ c.args.input.now held now c.reads.invariant.grows c.read_more.ensures.grows;
      given = (refl, subst (λ k. Costs k now) (sym total) (subst (λ k. Costs (c.reads.steps - c.args.steps.now + 1) k) (sym now_is) cost));
    }

pub returns-in-Ok-Got-clause-ticks : goal.returns-in-Ok-Got-clause-ticks
returns-in-Ok-Got-clause-ticks g c = ticked _ _ _ c.reads.invariant.ticks c.next_message.ensures.cost

pub returns-in-Ok-Got-clause-sent : goal.returns-in-Ok-Got-clause-sent
returns-in-Ok-Got-clause-sent g c = c.reads.invariant.sent

pub returns-in-Ok-Got-clause-cause : goal.returns-in-Ok-Got-clause-cause
returns-in-Ok-Got-clause-cause g c = stands _ _ _ c.reads.invariant.faults (message_no_failure c.in-Ok-Got.message)

pub returns-in-Ok-Got-clause-once : goal.returns-in-Ok-Got-clause-once
returns-in-Ok-Got-clause-once g c = stands_once _ _ c.reads.invariant.faults

pub returns-in-Ok-Refused-clause-ticks : goal.returns-in-Ok-Refused-clause-ticks
returns-in-Ok-Refused-clause-ticks g c = ticked _ _ _ c.reads.invariant.ticks c.next_message.ensures.cost

pub returns-in-Ok-Refused-clause-sent : goal.returns-in-Ok-Refused-clause-sent
returns-in-Ok-Refused-clause-sent g c = c.reads.invariant.sent

pub returns-in-Ok-Refused-clause-cause : goal.returns-in-Ok-Refused-clause-cause
returns-in-Ok-Refused-clause-cause g c = stands _ _ _ c.reads.invariant.faults (refused_no_failure c.in-Ok-Refused.status c.in-Ok-Refused.word)

pub returns-in-Ok-Refused-clause-once : goal.returns-in-Ok-Refused-clause-once
returns-in-Ok-Refused-clause-once g c = stands_once _ _ c.reads.invariant.faults

pub returns-in-Err-clause-ticks : goal.returns-in-Err-clause-ticks
returns-in-Err-clause-ticks g c = ticked _ _ _ c.reads.invariant.ticks c.next_message.ensures.cost

pub returns-in-Err-clause-sent : goal.returns-in-Err-clause-sent
returns-in-Err-clause-sent g c = c.reads.invariant.sent

pub returns-in-Err-clause-cause : goal.returns-in-Err-clause-cause
returns-in-Err-clause-cause g c = stands _ _ _ c.reads.invariant.faults memory_no_failure

pub returns-in-Err-clause-once : goal.returns-in-Err-clause-once
returns-in-Err-clause-once g c = stands_once _ _ c.reads.invariant.faults

pub returns-in-Ended-clause-ticks : goal.returns-in-Ended-clause-ticks
returns-in-Ended-clause-ticks g c = ticked _ _ _ c.reads.invariant.ticks c.next_message.ensures.cost

pub returns-in-Ended-clause-sent : goal.returns-in-Ended-clause-sent
returns-in-Ended-clause-sent g c = c.read_more.ensures.sent ∙ c.reads.invariant.sent

pub returns-in-Ended-clause-cause : goal.returns-in-Ended-clause-cause
returns-in-Ended-clause-cause g c = stands _ _ _ (c.read_more.ensures.cause.2 (more_no_failure _ c.in-Ended.is) ∙ c.reads.invariant.faults) ended_no_failure

pub returns-in-Ended-clause-once : goal.returns-in-Ended-clause-once
returns-in-Ended-clause-once g c = stands_once _ _ (c.read_more.ensures.cause.2 (more_no_failure _ c.in-Ended.is) ∙ c.reads.invariant.faults)

pub returns-in-Failed-clause-ticks : goal.returns-in-Failed-clause-ticks
returns-in-Failed-clause-ticks g c = ticked _ _ _ c.reads.invariant.ticks c.next_message.ensures.cost

pub returns-in-Failed-clause-sent : goal.returns-in-Failed-clause-sent
returns-in-Failed-clause-sent g c = c.read_more.ensures.sent ∙ c.reads.invariant.sent

pub returns-in-Failed-clause-cause : goal.returns-in-Failed-clause-cause
returns-in-Failed-clause-cause g c = failed c.read_more.result received.Failed _ _ _ c.reads.invariant.faults c.in-Failed.is c.read_more.ensures.cause

pub returns-in-Failed-clause-once : goal.returns-in-Failed-clause-once
returns-in-Failed-clause-once g c = once_last _ _ _ c.reads.invariant.faults c.read_more.ensures.once

pub at_least-least-requires : goal.at_least-least-requires
at_least-least-requires g c =
    let step = rw c.in-Ok-Need.field-0-is at c.in-Ok-Need.ensures.step in
    subst (λ k. (s : Step) → Decides k s → ⊥) (c.bytes.ensures.value ∙ sym c.bytes-in-reads.ensures.value) step

pub read_more-requires-clause-bound : goal.read_more-requires-clause-bound
read_more-requires-clause-bound g c = c.at_least-least.ensures.bound

pub read_more-requires-clause-needed : goal.read_more-requires-clause-needed
read_more-requires-clause-needed g c =
    subst (λ k. (rest : List ℕ) (s : Step) → length k + length rest < c.at_least-least.result → Decides (k ++ rest) s → ⊥) c.bytes-in-reads.ensures.value c.at_least-least.ensures.needed
