use Rattle.std.proofs.Common.{sym, ◌∙◌, ap}
use Rattle.std.specs.List.{list_all}
use Rattle.target_expr.proofs.Enumerated.{taken_whole}
use Rattle.top_match.specs.Checking.{is_right_at}
use Rattle.top_match.proofs.Turns.{one_fails, passes_on}
use Rattle.top_match.proofs.checking.are_right.Goals as goal

pub returns-then-not-is_right_at : goal.returns-then-not-is_right_at
returns-then-not-is_right_at c =
    let test = is_right_at c.args.exprs.now c.args.assignment.now c.args.full c.args.last in
    sym (one_fails test c.args.marks.now c.loop-place.place _ c.is_right_at.result c.loop-place-test.true c.is_right_at.ensures c.if-not-is_right_at.true)

pub loop-place-preserved : goal.loop-place-preserved
loop-place-preserved c =
    let test = is_right_at c.args.exprs.now c.args.assignment.now c.args.full c.args.last in
    passes_on test c.args.marks.now c.loop-place.place _ c.is_right_at.result c.loop-place-test.true c.is_right_at.ensures c.if-not-is_right_at.false c.loop-place.invariant

pub returns : goal.returns
returns c =
    let test = is_right_at c.args.exprs.now c.args.assignment.now c.args.full c.args.last in
    sym c.loop-place.invariant ∙ ap (list_all test) (taken_whole c.args.marks.now c.loop-place.place c.loop-place-test.false)
