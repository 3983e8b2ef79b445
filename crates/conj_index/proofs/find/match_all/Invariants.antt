use Rattle.std.proofs.Common.{◌≤◌, ◌+◌, ◌*◌, take, length, sum_by}
use Rattle.conj_index.specs.Find.{looked_at, match_cost}
use Rattle.conj_index.specs.Searching.{AreHit}
use Rattle.conj_index.proofs.find.match_all.Given as goal

abbrev pub invariant-loop-size : goal.invariant-loop-size
invariant-loop-size g l = record {
  room : length l.index.owners ≤ 64 * length l.tally;
  hit : AreHit l.pairs (take (length l.pairs + 1) l.index.parts) l.size l.tally;
  cost : l.steps ≤ l.fn.steps + sum_by (match_cost l.pairs) (take l.size (looked_at l.pairs l.index));
}
