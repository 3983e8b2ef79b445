use Rattle.std.proofs.Common.{sym, ◌∙◌, ap}
use Rattle.target_expr.proofs.Singles.{has_attr, single_push}
use Rattle.case_exprs.proofs.add.Goals as goal

pub returns : goal.returns
returns c =
    let attr = c.in-Some.attr in
    let fresh = ap (has_attr attr) (sym c.as_slice.ensures) ∙ sym c.is_there.ensures ∙ c.if-is_there.false in
    rw c.in_ok-push.ensures.ok (single_push c.args.pairs.now (attr, c.in_ok-value.value) c.requires fresh)
