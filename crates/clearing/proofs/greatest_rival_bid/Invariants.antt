use Rattle.std.proofs.Common.{◌≡◌, ◌≤◌, ◌^◌, take}
use Rattle.clearing.specs.Clearing.{greatest_bid, rivals}
use Rattle.clearing.proofs.greatest_rival_bid.Given as goal

abbrev pub invariant-loop-other : goal.invariant-loop-other
invariant-loop-other l = record {
  value : l.greatest ≡ greatest_bid (rivals l.winner (take l.other-index l.offers));
  bound : l.greatest ≤ 10 ^ 12;
}
