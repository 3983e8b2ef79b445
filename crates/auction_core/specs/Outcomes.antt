-- Only private clauses cite this file. What a command does to a state in which nothing is due, as it is
-- prepared.
use Rattle.std.specs.Prelude.{◌≡◌, None, Some}
use Rattle.auction_core.specs.Draft.{answered}
use Rattle.auction_core.specs.declared.draft.Answer.TheVariants.{Told}
use Rattle.auction_core.specs.declared.outcome.Outcome.{Outcome}
use Rattle.plain_exchange.specs.declared.changes.Change.{Change}
use Rattle.plain_exchange.specs.declared.commands.Reply.{Reply}
use Rattle.plain_exchange.specs.Step.{Transition}

-- the outcome is that of the transition
pub record IsOutcome (t : Transition) (o : Outcome) : Type 0 where
  pub reply : answered o.answer t.after ≡ t.reply
  pub change : o.change ≡ t.change

abbrev pub told_alone : Reply → Outcome
told_alone reply = record { answer = Told reply; change = None }

abbrev pub does : Reply → Change → Outcome
does reply change = record { answer = Told reply; change = Some change }
