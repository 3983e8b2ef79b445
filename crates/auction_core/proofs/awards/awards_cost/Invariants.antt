use Rattle.std.proofs.Common.{◌≡◌, ◌≤◌, ◌*◌, ◌^◌, take}
use Rattle.auction_core.specs.Auctions.{awards_cost}
use Rattle.auction_core.proofs.awards.awards_cost.Given as goal

abbrev pub invariant-loop-award : goal.invariant-loop-award
invariant-loop-award l = record {
  value : l.sum ≡ awards_cost l.n (take l.award-index l.awards);
  few : l.sum ≤ l.award-index * 10 ^ 12;
}
