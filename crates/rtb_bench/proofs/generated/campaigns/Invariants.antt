use Rattle.std.proofs.Common.{◌≡◌, ◌*◌, ◌≤◌, length}
use Rattle.conj_index.specs.Campaigns.{conjunctions_in, numbers_of}
use Rattle.rtb_bench.proofs.Totals.{CountUp}
use Rattle.rtb_bench.proofs.generated.campaigns.Given as goal

abbrev pub invariant-loop-i : goal.invariant-loop-i
invariant-loop-i l = record {
  numbered : CountUp 1 (numbers_of l.all.items);
  count : length l.all.items ≡ l.i;
  few : conjunctions_in l.all.items ≤ 3 * l.i;
}
