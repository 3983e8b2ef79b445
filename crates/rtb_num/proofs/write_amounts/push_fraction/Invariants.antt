use Rattle.std.proofs.Common.{◌≡◌, ℕ, List, ◌^◌, ◌<◌, ◌≤◌, ◌++◌}
use Rattle.rtb_num.specs.Amounts.{fraction_digits}
use Rattle.rtb_num.proofs.write_amounts.push_fraction.Given as goal

abbrev pub invariant-loop-left : goal.invariant-loop-left
invariant-loop-left l = record {
  few : l.place ≤ 9;
  below : l.left < 10 ^ l.place;
  rest : l.out ++ fraction_digits l.place l.left ≡ l.fn.out ++ fraction_digits l.places l.rest;
  front : (done : List ℕ) × (l.out ≡ l.fn.out ++ done);
}

abbrev pub decreases-loop-left : goal.decreases-loop-left
decreases-loop-left l = l.place
