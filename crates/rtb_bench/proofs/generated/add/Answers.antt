use Rattle.std.proofs.Common.{sym, ◌∙◌, ap}
use Rattle.target_expr.proofs.Singles.{has_attr, single_push}
use Rattle.rtb_bench.proofs.generated.add.Goals as goal

pub returns : goal.returns
returns c =
    let fresh = ap (has_attr c.args.attr) (sym c.as_slice.ensures) ∙ sym c.is_there.ensures ∙ c.if-is_there.false in
    rw c.in_ok-push.ensures.ok (single_push c.args.pairs.now (c.args.attr, c.args.value) c.requires fresh)
