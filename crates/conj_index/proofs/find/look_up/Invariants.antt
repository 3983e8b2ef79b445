use Rattle.std.proofs.Common.{◌≡◌, map, take}
use Rattle.conj_index.specs.Find.{key_of}
use Rattle.conj_index.proofs.find.look_up.Given as goal

abbrev pub invariant-loop-attr : goal.invariant-loop-attr
invariant-loop-attr l = l.looked.items ≡ map key_of (take l.attr-index l.pairs)
