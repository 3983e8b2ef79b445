use Rattle.std.proofs.Common.{◌≡◌, map, take}
use Rattle.postings.specs.Packed.{id_of}
use Rattle.postings.proofs.packing.ids_of.Given as goal

abbrev pub invariant-loop-entry : goal.invariant-loop-entry
invariant-loop-entry l = l.ids.items ≡ map id_of (take l.entry-index l.entries)
