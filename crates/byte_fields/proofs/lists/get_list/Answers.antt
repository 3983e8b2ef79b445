use Rattle.std.specs.List.{flat_map}
use Rattle.std.proofs.Common.{arith}
use Rattle.std.proofs.lemmas.Result.{IfOk-weaker}
use Rattle.byte_fields.specs.Codes.{IsReadAt}
use Rattle.byte_fields.specs.Encodings.{IsListWithin, list_bytes}
use Rattle.byte_fields.proofs.lists.get_list.Goals as goal
use Rattle.byte_fields.proofs.Rows.{IsRow, counts_here, list_too_long, list_within, within_no_count}

pub returns-in_default-clause-value : goal.returns-in_default-clause-value
returns-in_default-clause-value g c =
    within_no_count g.E.Element.IsValid g.E.Element.encode c.args.most c.args.bytes.now c.args.place c.in_default.ensures

pub returns-then-count-most-clause-value : goal.returns-then-count-most-clause-value
returns-then-count-most-clause-value g c =
    list_too_long g.E.Element.IsValid g.E.Element.encode c.args.most c.args.bytes.now c.args.place c.in-Some.next c.in-Some.count c.in-Some.ensures c.if-count-most.true

pub returns-clause-value : goal.returns-clause-value
returns-clause-value g c =
    let bytes = c.args.bytes.now in
    let place = c.args.place in
    let V = g.E.Element.IsValid in
    let e = g.E.Element.encode in
    IfOk-weaker c.get_row.result (IsReadAt (IsRow V e c.in-Some.count) (flat_map e) bytes c.in-Some.next) (IsReadAt (IsListWithin c.args.most V) (list_bytes e) bytes place)
    (λ found. list_within V e c.args.most bytes place c.in-Some.next c.in-Some.count found c.requires.code c.if-count-most.false c.in-Some.ensures)
    c.get_row.ensures

pub returns-clause-counted : goal.returns-clause-counted
returns-clause-counted g c = λ more.
    let past = counts_here c.args.most c.args.bytes.now c.args.place c.in-Some.next c.in-Some.count c.in-Some.ensures more in
    absurd (omega arith)
