use Rattle.std.proofs.Common.{◌≡◌, ◌++◌, ◌∷◌, [], arith}
use Rattle.std.proofs.lemmas.Grind.{common_steps}
use Rattle.std.proofs.lemmas.List.{length_push}
use Rattle.std.proofs.lemmas.List.Elements.{All-push}
use Rattle.byte_fields.proofs.Rows.{row_stops, row_more}
use Rattle.effects.specs.Bytes.{IsItem, item_bytes}
use Rattle.effects.proofs.PartCodes.{item_code}
use Rattle.effects.proofs.items.get_item_row.Goals as goal

pub returns-in_default : goal.returns-in_default
returns-in_default c =
    row_stops IsItem item_bytes item_code c.args.count c.args.bytes.now c.args.place c.loop.next c.loop.items.items c.loop.invariant.there c.loop.invariant.valid (omega arith) c.in_default.ensures

pub loop-preserved : goal.loop-preserved
loop-preserved c =
    let read = c.in-Some.ensures in
    let pushed : c.push.new.self.items ≡ c.loop.items.items ++ c.in-Some.item ∷ [] = grind (arith, common_steps) in
    rw pushed record {
      many = omega (arith, length_push c.loop.items.items c.in-Some.item);
      valid = All-push IsItem c.loop.items.items c.in-Some.item c.loop.invariant.valid read.0;
      there = row_more IsItem item_bytes c.args.bytes.now c.args.place c.loop.next c.in-Some.behind c.loop.items.items c.in-Some.item c.loop.invariant.there read.1;
    }
