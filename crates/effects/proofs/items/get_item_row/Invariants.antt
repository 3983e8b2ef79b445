use Rattle.std.proofs.Common.{◌≡◌, All, length}
use Rattle.std.specs.List.{flat_map}
use Rattle.byte_fields.specs.Codes.{BeginsAt}
use Rattle.effects.specs.Bytes.{IsItem, item_bytes}
use Rattle.effects.proofs.items.get_item_row.Given as goal

abbrev pub invariant-loop : goal.invariant-loop
invariant-loop l = record {
  many : length l.items.items ≡ l.counter;
  valid : All IsItem l.items.items;
  there : BeginsAt l.bytes l.place (flat_map item_bytes l.items.items) l.next;
}
