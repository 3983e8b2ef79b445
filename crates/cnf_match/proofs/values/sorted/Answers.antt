use Rattle.std.proofs.Common.{◌∙◌, ap}
use Rattle.std.proofs.lemmas.List.Filters.{dedup_is}
use Rattle.target_expr.specs.Kept.{in_order}
use Rattle.target_expr.proofs.ByteOrder.{sorted_is_in_order}
use Rattle.cnf_match.proofs.values.sorted.Goals as goal

pub returns : goal.returns
returns c =
    c.from_vec.ensures ∙ dedup_is _ _ _ c.dedup.ensures.filtered
    ∙ sorted_is_in_order _ _ c.sort_unstable.ensures.permutation c.sort_unstable.ensures.sorted
    ∙ ap in_order c.in_ok-kept.ensures
