use Rattle.std.proofs.Common.{◌≡◌, map}
use Rattle.conj_index.specs.Growing.{finish}
use Rattle.conj_index.proofs.build.finish_all.Given as goal

abbrev pub invariant-loop-part : goal.invariant-loop-part
invariant-loop-part l = l.parts ≡ map finish l.yielded
