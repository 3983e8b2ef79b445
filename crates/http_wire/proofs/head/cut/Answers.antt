use Rattle.std.proofs.Common.{length, sym, ap, ◌∙◌, length-append, arith}
use Rattle.std.proofs.lemmas.List.{length-take-le}
use Rattle.httparse.specs.Grammar.{print_blank}
use Rattle.http_wire.proofs.Cuts.{cut_found, cut_none, end_bounds}
use Rattle.http_wire.proofs.head.cut.Goals as goal

pub slice_bounds-result-end : goal.slice_bounds-result-end
slice_bounds-result-end c =
    let begun = c.behind_blank-begun.result.now in
    sym (length-take-le c.in-Some.n begun (end_bounds begun c.in-Some.n (sym c.head_end.ensures ∙ c.in-Some.is)).1)

pub returns-in-Some-clause-head : goal.returns-in-Some-clause-head
returns-in-Some-clause-head c =
    let begun = c.behind_blank-begun.result.now in
    let (blank, is) = c.behind_blank-begun.ensures.blank in
    let (rest, found) = cut_found c.args.bytes.now c.min.result blank begun c.in-Some.n (omega (arith, c.min.ensures)) is c.behind_blank-begun.ensures.stops (sym c.head_end.ensures ∙ c.in-Some.is) in
    (blank, rest, found, omega (arith, ap length is, length-append (print_blank blank) begun))

pub returns-in-None-clause-none : goal.returns-in-None-clause-none
returns-in-None-clause-none c =
    let (blank, is) = c.behind_blank-begun.ensures.blank in
    cut_none c.args.bytes.now c.min.result blank c.behind_blank-begun.result.now c.min.ensures is c.behind_blank-begun.ensures.stops (sym c.head_end.ensures ∙ c.in-None.is)
