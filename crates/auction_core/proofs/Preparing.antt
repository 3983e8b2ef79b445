-- What is prepared of an auction, and what takes effect.
use Rattle.std.proofs.Common.{◌≡◌, ℕ, Bool, cond, List, None, Option, Some, Result, Ok, Err}
use Rattle.std.specs.Prelude.{IfOk, option_map}
use Rattle.std.specs.Option.{option_or}
use Rattle.auction_core.specs.Auctions.{award_outcome}
use Rattle.auction_core.specs.Outcomes.{IsOutcome}
use Rattle.auction_core.specs.declared.outcome.Outcome.{Outcome}
use Rattle.plain_exchange.specs.declared.settings.Settings.{Settings}
use Rattle.plain_exchange.specs.Auction.{Award, awards_of}
use Rattle.plain_exchange.specs.declared.changes.Change.{Change}
use Rattle.plain_exchange.specs.declared.changes.Change.TheVariants as change
use Rattle.plain_exchange.specs.declared.changes.Effect.{Effect}
use Rattle.plain_exchange.specs.State.{State, swept}
use Rattle.plain_exchange.specs.Step.{auction}
use Rattle.rtb_types.specs.declared.request.BidRequest.{BidRequest}
use Rattle.auction_core.proofs.Payable.{awarded_is}

-- where memory suffices, what comes of the awards is what the auction does
pub awarded_result : {E : Type 0} → (settings : Settings) (m : ℕ) (r : BidRequest) (s : State) (awards : List Award) (res : Result Outcome E) → awards ≡ awards_of settings m r (swept m s) → IfOk res (λ o. o ≡ award_outcome settings m r s awards)
    → IfOk res (λ o. IsOutcome (auction settings m r (swept m s) (awards_of settings m r (swept m s))) o)
awarded_result settings m r s awards (Ok o) e is = awarded_is settings m r s awards o e is
awarded_result settings m r s awards (Err x) e is = tt

-- what takes effect where a command has this change of its own
abbrev pub effect_with : ℕ → Bool → Option Change → Option Effect
effect_with m due own = option_map (λ (c : Change). record { moment = m; change = c }) (option_or own (cond due (Some change.Swept) None))
