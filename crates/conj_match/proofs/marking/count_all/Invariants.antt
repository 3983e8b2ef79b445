use Rattle.std.proofs.Common.{◌≡◌, length, take}
use Rattle.conj_match.specs.Strikes.{AreCounted}
use Rattle.conj_match.proofs.marking.count_all.Given as goal

abbrev pub invariant-loop-id : goal.invariant-loop-id
invariant-loop-id l = record {
  len : length l.marks ≡ length l.fn.marks;
  counts : AreCounted l.fn.marks (take l.id-index l.ids) l.marks;
}
