use Rattle.std.proofs.Common.{◌≡◌, All, length}
use Rattle.std.specs.List.{flat_map}
use Rattle.byte_fields.specs.Codes.{BeginsAt}
use Rattle.byte_fields.proofs.lists.get_row.Given as goal

abbrev pub invariant-loop : goal.invariant-loop
invariant-loop g l = record {
  many : length l.items.items ≡ l.counter;
  valid : All g.E.Element.IsValid l.items.items;
  there : BeginsAt l.bytes l.place (flat_map g.E.Element.encode l.items.items) l.next;
}
