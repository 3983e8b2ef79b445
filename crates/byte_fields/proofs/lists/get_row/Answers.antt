use Rattle.std.proofs.Common.{◌≡◌, ◌++◌, ◌∷◌, [], arith}
use Rattle.std.proofs.lemmas.Grind.{common_steps}
use Rattle.std.proofs.lemmas.List.{length_push}
use Rattle.std.proofs.lemmas.List.Elements.{All-push}
use Rattle.byte_fields.proofs.lists.get_row.Goals as goal
use Rattle.byte_fields.proofs.Rows.{row_stops, row_more}

pub returns-in_default : goal.returns-in_default
returns-in_default g c =
    let none = rw c.in_default.is at c.in_ok-item.ensures in
    row_stops g.E.Element.IsValid g.E.Element.encode c.requires.code c.args.count c.args.bytes.now c.args.place c.loop.next c.loop.items.items c.loop.invariant.there c.loop.invariant.valid (omega arith) none

pub loop-preserved : goal.loop-preserved
loop-preserved g c =
    let read = rw c.in-Some.is at c.in_ok-item.ensures in
    let pushed : c.push.new.self.items ≡ c.loop.items.items ++ c.in-Some.item ∷ [] = grind (arith, common_steps) in
    rw pushed record {
      many = omega (arith, length_push c.loop.items.items c.in-Some.item);
      valid = All-push g.E.Element.IsValid c.loop.items.items c.in-Some.item c.loop.invariant.valid read.0;
      there = row_more g.E.Element.IsValid g.E.Element.encode c.args.bytes.now c.args.place c.loop.next c.in-Some.behind c.loop.items.items c.in-Some.item c.loop.invariant.there read.1;
    }
