use Rattle.std.proofs.Common.{◌≡◌, take}
use Rattle.conj_index.specs.Growing.{zero_of}
use Rattle.conj_index.proofs.build.zero_list.Given as goal

abbrev pub invariant-loop-id : goal.invariant-loop-id
invariant-loop-id l = l.entries.items ≡ zero_of (take l.id l.sizes)
