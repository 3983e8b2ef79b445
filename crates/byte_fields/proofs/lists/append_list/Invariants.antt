use Rattle.std.proofs.Common.{◌≡◌, ◌++◌, length, take}
use Rattle.std.specs.List.{flat_map}
use Rattle.byte_fields.specs.Encodings.{four_bytes}
use Rattle.byte_fields.proofs.lists.append_list.Given as goal

abbrev pub invariant-loop-item : goal.invariant-loop-item
invariant-loop-item g l = l.out ≡ l.fn.out ++ (four_bytes (length l.items) ++ flat_map g.E.Element.encode (take l.item-index l.items))
