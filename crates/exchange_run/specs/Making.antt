-- Only private clauses cite this file. The campaigns of words that are known to be campaigns, and how they are
-- put into an exchange.
use Rattle.std.specs.Prelude.{ℕ, nat_le, List, [], ◌∷◌, length, Bool, true, false, Option, Some, None, unwrap_or, codes}
use Rattle.plain_exchange.specs.declared.changes.Change.TheVariants.{Added}
use Rattle.plain_exchange.specs.declared.changes.Effect.{Effect}
use Rattle.plain_exchange.specs.declared.commands.Command.{Command}
use Rattle.plain_exchange.specs.declared.commands.Reply.{Reply}
use Rattle.plain_exchange.specs.Effects.{is_within_limits}
use Rattle.plain_exchange.specs.State.{State, swept, with_campaigns}
use Rattle.plain_exchange.specs.Step.{step}
use Rattle.target_expr.specs.declared.pred.RawPred.{RawPred}
use Rattle.exchange_run.specs.Exchange.{facts_of, live_campaign, opening, target_of, settings}
use Rattle.exchange_run.specs.Words.{Campaign, campaigns_of}

-- the campaigns that the words name, each of which names one
abbrev pub campaigns_named : List (List ℕ) → List Campaign
campaigns_named words = unwrap_or (campaigns_of words) []

-- a target as it is written
abbrev pub raw_target_of : Option (List ℕ) → List (List RawPred)
raw_target_of None = [] ∷ []
raw_target_of (Some domain) = (record { attr = codes "domain"; negated = false; values = domain ∷ [] } ∷ []) ∷ []

-- at most 255 bytes
abbrev pub is_short : Option (List ℕ) → Bool
is_short None = true
is_short (Some domain) = nat_le (length domain) 255

-- the effect that adds campaign n
unfoldable pub addition_of : ℕ → Campaign → Effect
addition_of n c = record { moment = 0; change = Added (facts_of n c.bid) (target_of c.domain) }

-- the exchange with campaign n besides
unfoldable pub with_one : State → ℕ → Campaign → State
with_one s n c = with_campaigns (swept 0 s) (live_campaign (n, c) ∷ [])

-- whether it is then within the limits
unfoldable pub has_room_for : State → ℕ → Campaign → Bool
has_room_for s n c = is_within_limits (with_one s n c)

-- the reply of the exchange of these campaigns to its first command
unfoldable pub first_reply : List Campaign → Command → Reply
first_reply campaigns command = (step settings 0 (opening campaigns) command).reply
