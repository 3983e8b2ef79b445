use Rattle.std.proofs.Common.{◌≤◌, ◌∙◌, arith, subst, sym}
use Rattle.std.proofs.lemmas.List.{length-take-le}
use Rattle.exchange_state.proofs.Walks.{front_rises, place_found, place_inside, place_near}
use Rattle.exchange_state.proofs.finding.place_of.Goals as goal

pub returns-then-is_at-clause-within : goal.returns-then-is_at-clause-within
returns-then-is_at-clause-within c = place_inside c.args.n c.saturating_sub-near.result c.args.live.now (sym c.is_at.ensures ∙ c.if-is_at.true)

pub returns-then-is_at-clause-place : goal.returns-then-is_at-clause-place
returns-then-is_at-clause-place c = λ rise. place_found c.args.n c.saturating_sub-near.result c.args.live.now rise (sym c.is_at.ensures ∙ c.if-is_at.true)

pub returns-then-gap-live-clause-place : goal.returns-then-gap-live-clause-place
returns-then-gap-live-clause-place c = λ rise.
    let live = c.args.live.now in
    let gap = c.gap_to-gap.result in
    let place = c.count_below.result in
    let near = c.if-gap-live.true in
    let inside = subst (λ m. place ≤ m) (length-take-le gap live (omega (arith, near))) c.count_below.ensures.within in
    place_near c.args.n gap place live rise near c.gap_to-gap.ensures inside (c.count_below.ensures.place (front_rises gap live rise))
