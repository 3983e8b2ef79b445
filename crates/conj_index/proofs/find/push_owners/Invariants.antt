use Rattle.std.proofs.Common.{◌≡◌, ◌++◌, take, slice_get}
use Rattle.std.specs.List.{filter_map}
use Rattle.conj_index.proofs.find.push_owners.Given as goal

abbrev pub invariant-loop-id : goal.invariant-loop-id
invariant-loop-id l = l.numbers.items ≡ l.fn.numbers.items ++ filter_map (slice_get l.owners) (take l.id-index l.ids)
