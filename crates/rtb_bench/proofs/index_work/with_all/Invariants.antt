use Rattle.std.proofs.Common.{◌≡◌, take}
use Rattle.rtb_bench.proofs.index_work.with_all.Given as goal

abbrev pub invariant-loop-number : goal.invariant-loop-number
invariant-loop-number g l = l.builder ≡ take l.number-index l.campaigns
