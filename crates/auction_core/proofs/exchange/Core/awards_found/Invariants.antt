use Rattle.std.proofs.Common.{◌≡◌, ◌≤◌, ◌+◌, length, take}
use Rattle.std.specs.Prelude.{sum_by}
use Rattle.std.specs.List.{enumerate_from, zip}
use Rattle.auction_core.specs.Found.{asked_at, awards_before, may_be_sold}
use Rattle.auction_core.proofs.Passing.{AreRefused}
use Rattle.auction_core.proofs.exchange.Core.awards_found.Given as goal

abbrev pub invariant-loop-imp : goal.invariant-loop-imp
invariant-loop-imp g l = record {
  value : l.awards.items ≡ awards_before l.self l.findings.asked.now l.moment l.imp;
  few : length l.awards.items ≤ l.imp;
  refused : AreRefused (may_be_sold l.self l.findings.touched.now l.findings.asked.now l.moment l.awards.items) l.findings.candidates.now l.imp l.refused;
  cost : l.steps ≤ l.fn.steps + sum_by (asked_at l.self l.findings.touched.now l.findings.asked.now l.moment) (take l.imp (enumerate_from 0 (zip l.findings.asked.now.imps l.findings.candidates.now)));
}
