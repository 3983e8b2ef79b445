use Rattle.std.proofs.Common.{sym, ap, arith}
use Rattle.exact_json.specs.View.{tree_of}
use Rattle.rtb_bench.proofs.Sums.{below, pair_below, values_in}
use Rattle.rtb_bench.proofs.counts.+counting.Goals as goal

pub with_items-with_tree-counts-requires : goal.with_items-with_tree-counts-requires
with_items-with_tree-counts-requires t c =
    let inside = below c.args.items.now c.loop-value.value-index c.value-item.result c.loop-value-test.true in
    let same = ap (λ v. values_in (tree_of v)) c.value-item.is in
    (omega (arith, inside, same), tt)

pub with_members-with_member-counts-requires : goal.with_members-with_member-counts-requires
with_members-with_member-counts-requires t c = (pair_below c.args.members.now c.loop-member.member-index _ t c.loop-member-test.true (sym c.decreases), tt)
