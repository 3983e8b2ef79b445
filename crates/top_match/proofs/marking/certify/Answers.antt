use Rattle.std.proofs.Common.{map, ◌∙◌, ap}
use Rattle.top_match.specs.Certificate.{reason}
use Rattle.top_match.proofs.marking.certify.Goals as goal

pub returns : goal.returns
returns c =
    let a = c.args.assignment.now in
    c.marks_from.ensures c.args.exprs.now a (c.in_ok-reasons.ensures ∙ ap (map (reason a)) c.as_slice.ensures)
