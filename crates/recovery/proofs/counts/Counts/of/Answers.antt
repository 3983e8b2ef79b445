use Rattle.std.proofs.Common.{◌≡◌, ◌<◌, ◌∙◌, ap, arith, length}
use Rattle.std.proofs.lemmas.List.{length-map}
use Rattle.auction_core.specs.Core.{listed_as}
use Rattle.budget_book.specs.Sales.{is_billed, is_expired, is_held, is_lost}
use Rattle.budget_book.specs.declared.sales.Totals.{Totals}
use Rattle.plain_exchange.specs.State.{Campaign}
use Rattle.recovery.proofs.Summing.{all_looked_at, billed_counted, counted, expired_counted, held_counted, live_counted, lost_counted, one_there, one_turn, pick, sales_counted, same_counts}
use Rattle.recovery.proofs.counts.Counts.of.Goals as goal

pub loop-place-preserved : goal.loop-place-preserved
loop-place-preserved c =
    let cs = c.args.core.now.state.campaigns in
    let sales = c.args.core.now.state.sales in
    let k = c.loop-place.place in
    let lt : k < length cs = omega (arith, c.loop-place-test.true, c.count-campaigns.ensures.value, ap length c.table.ensures.campaigns, length-map cs listed_as) in
    let there = one_there cs k lt in
    let x = there.0 in
    let e = there.1 in
    let totals = c.totals.ensures x e in
    record {
      campaigns = c.add.ensures.campaigns ∙ c.loop-place.invariant.campaigns;
      sales = c.add.ensures.sales ∙ c.loop-place.invariant.sales;
      live = one_turn (λ m (y : Campaign). pick y.live 1 0) cs k x c.loop-place.counts.live c.add.new.self.live _ e c.loop-place.invariant.live c.add.ensures.live (ap (λ b. pick b 1 0) (c.is_live.ensures x e));
      held = one_turn (counted (λ (y : Campaign). 0) is_held sales) cs k x c.loop-place.counts.held c.add.new.self.held _ e c.loop-place.invariant.held c.add.ensures.held (omega (arith, ap (λ (t : Totals). t.held) totals));
      billed = one_turn (counted (λ (y : Campaign). y.gone.billed) is_billed sales) cs k x c.loop-place.counts.billed c.add.new.self.billed _ e c.loop-place.invariant.billed c.add.ensures.billed (ap (λ (t : Totals). t.billed) totals);
      lost = one_turn (counted (λ (y : Campaign). y.gone.lost) is_lost sales) cs k x c.loop-place.counts.lost c.add.new.self.lost _ e c.loop-place.invariant.lost c.add.ensures.lost (ap (λ (t : Totals). t.lost) totals);
      expired = one_turn (counted (λ (y : Campaign). y.gone.expired) is_expired sales) cs k x c.loop-place.counts.expired c.add.new.self.expired _ e c.loop-place.invariant.expired c.add.ensures.expired (ap (λ (t : Totals). t.expired) totals);
    }

pub returns : goal.returns
returns c = λ h.
    let s = c.args.core.now.state in
    let cs = s.campaigns in
    let k = c.loop-place.place in
    let many : c.count-campaigns.result ≡ length cs = c.count-campaigns.ensures.value ∙ ap length c.table.ensures.campaigns ∙ length-map cs listed_as in
    let all : k ≡ length cs = omega (arith, many, c.loop-place-test.false, c.loop-place.auto.place-end) in
    let inv = c.loop-place.invariant in
    let now = c.loop-place.counts in
    let live = live_counted s now.live (omega (arith, many, c.count-campaigns.ensures.few)) (all_looked_at _ cs k now.live all inv.live) in
    let sales = sales_counted s now.sales h inv.sales in
    let held = held_counted s now.held h (all_looked_at _ cs k now.held all inv.held) in
    let billed = billed_counted s now.billed h (all_looked_at _ cs k now.billed all inv.billed) in
    let lost = lost_counted s now.lost h (all_looked_at _ cs k now.lost all inv.lost) in
    let expired = expired_counted s now.expired h (all_looked_at _ cs k now.expired all inv.expired) in
    same_counts now _ inv.campaigns live sales held billed lost expired
