use Rattle.std.proofs.Common.{◌≡◌, ◌++◌, take}
use Rattle.std.specs.List.{filter_map}
use Rattle.conj_index.specs.Find.{key_place}
use Rattle.conj_index.proofs.find.push_places.Given as goal

abbrev pub invariant-loop-key : goal.invariant-loop-key
invariant-loop-key l = l.places.items ≡ l.fn.places.items ++ filter_map (key_place l.size l.part) (take l.key-index l.looked)
