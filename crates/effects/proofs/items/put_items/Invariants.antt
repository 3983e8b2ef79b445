use Rattle.std.proofs.Common.{◌≡◌, ◌++◌, All, length, take}
use Rattle.std.specs.List.{flat_map}
use Rattle.byte_fields.specs.Encodings.{byte_bytes}
use Rattle.effects.specs.Bytes.{IsItem, item_bytes}
use Rattle.effects.proofs.items.put_items.Given as goal

abbrev pub invariant-loop-item : goal.invariant-loop-item
invariant-loop-item l = record {
  put : l.out ≡ l.fn.out ++ (byte_bytes (length l.items) ++ flat_map item_bytes (take l.item-index l.items));
  valid : All IsItem (take l.item-index l.items);
}
