use Rattle.std.proofs.Common.{◌≡◌, take}
use Rattle.conj_index.specs.Growing.{greatest}
use Rattle.conj_index.proofs.build.greatest.Given as goal

abbrev pub invariant-loop-size : goal.invariant-loop-size
invariant-loop-size l = l.most ≡ greatest (take l.size-index l.sizes)
