use Rattle.std.proofs.Common.{◌≡◌, ◌≤◌, [], length, take}
use Rattle.std.specs.Prelude.{fold}
use Rattle.std.specs.List.{enumerate_from}
use Rattle.plain_exchange.specs.Auction.{award_next}
use Rattle.plain_exchange.specs.State.{swept}
use Rattle.auction_core.proofs.exchange.Core.awards_asked.Given as goal

abbrev pub invariant-loop-imp : goal.invariant-loop-imp
invariant-loop-imp l = record {
  value : l.awards.items ≡ fold (award_next l.self.settings l.moment l.asked (swept l.moment l.self.state)) [] (take l.imp (enumerate_from 0 l.asked.imps));
  few : length l.awards.items ≤ l.imp;
}
