use Rattle.std.proofs.Common.{◌≡◌, ◌≤◌, ◌+◌, ℕ, arith, subst}
use Rattle.std.specs.List.Sorted.{IsStrictlyIncreasing}
use Rattle.std.specs.Option.{IfSome}
use Rattle.auction_core.specs.Core.{listed}
use Rattle.auction_core.specs.Found.{sold_cost}
use Rattle.exchange_state.specs.Finding.{looks}
use Rattle.exchange_state.proofs.Founds.{selling_within}
use Rattle.index_versions.specs.Fixed.{is_among}
use Rattle.index_versions.specs.Recent.{touched_after}
use Rattle.exchange_state.proofs.state.ExchangeState.draft_over.Goals as goal

pub returns-in-Ok-Some-clause-cost : goal.returns-in-Ok-Some-clause-cost
returns-in-Ok-Some-clause-cost g c =
    let x = c.args.self.now in
    let r = c.args.asked.now in
    let found = c.args.candidates.now in
    let touched = c.in-Ok-Some.touched in
    let paid = subst (λ l. c.draft_beside-draft.new.steps ≤ c.args.steps.now + (looks l (listed x.core.state) r + sold_cost x.core l r c.args.moment found)) c.as_slice-numbers.ensures c.draft_beside-draft.ensures.cost in
    let after = touched_after c.args.edit x.recent in
    let rising = subst (λ o. IfSome o IsStrictlyIncreasing) c.in-Ok-Some.field-0-is c.in-Ok-Some.ensures.rising in
    let same = subst (λ o. IfSome o (λ l. (n : ℕ) → is_among l n ≡ is_among after n)) c.in-Ok-Some.field-0-is c.in-Ok-Some.ensures.same in
    let within = selling_within x.core touched after r c.args.moment found rising same in
    omega (arith, paid, within)
