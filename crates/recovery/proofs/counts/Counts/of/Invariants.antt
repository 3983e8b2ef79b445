use Rattle.std.proofs.Common.{◌≡◌, ◌+◌, ◌-◌, ◌^◌, min, take, length}
use Rattle.budget_book.specs.Sales.{is_billed, is_expired, is_held, is_lost}
use Rattle.plain_exchange.specs.State.{Campaign, forgotten}
use Rattle.recovery.proofs.Summing.{counted, over, pick}
use Rattle.recovery.proofs.counts.Counts.of.Given as goal

abbrev pub invariant-loop-place : goal.invariant-loop-place
invariant-loop-place l = record {
  campaigns : l.counts.campaigns ≡ length l.core.state.campaigns;
  sales : l.counts.sales ≡ min (forgotten l.core.state + length l.core.state.sales) (2 ^ 64 - 1);
  live : l.counts.live ≡ min (over (λ m (c : Campaign). pick c.live 1 0) 1 (take l.place l.core.state.campaigns)) (2 ^ 64 - 1);
  held : l.counts.held ≡ min (over (counted (λ (c : Campaign). 0) is_held l.core.state.sales) 1 (take l.place l.core.state.campaigns)) (2 ^ 64 - 1);
  billed : l.counts.billed ≡ min (over (counted (λ (c : Campaign). c.gone.billed) is_billed l.core.state.sales) 1 (take l.place l.core.state.campaigns)) (2 ^ 64 - 1);
  lost : l.counts.lost ≡ min (over (counted (λ (c : Campaign). c.gone.lost) is_lost l.core.state.sales) 1 (take l.place l.core.state.campaigns)) (2 ^ 64 - 1);
  expired : l.counts.expired ≡ min (over (counted (λ (c : Campaign). c.gone.expired) is_expired l.core.state.sales) 1 (take l.place l.core.state.campaigns)) (2 ^ 64 - 1);
}
