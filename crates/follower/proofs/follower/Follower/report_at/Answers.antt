use Rattle.std.proofs.Common.{◌∙◌, ap}
use Rattle.auction_core.specs.Core.{funds_for}
use Rattle.follower.proofs.Reports.{totals_at}
use Rattle.follower.proofs.follower.Follower.report_at.Goals as goal

pub returns : goal.returns
returns g c = λ x e.
    let f = c.listed-live.ensures.facts x e in
    let live = c.listed-live.ensures.live x e in
    let bid = c.bid.ensures.value ∙ ap (λ facts. facts.bid) f in
    let budget = c.budget.ensures.value ∙ ap (λ facts. facts.budget) f in
    let totals = totals_at _ _ x _ _ _ e c.book.ensures.campaigns c.book.ensures.sales (c.report.ensures.value (funds_for x)) in
    cc (live, bid, budget, totals)
