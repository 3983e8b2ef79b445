use Rattle.std.proofs.Common.{◌+◌, ◌*◌}
use Rattle.exact_json.specs.View.{pair_of, pairs_of, tree_of, trees_of}
use Rattle.rtb_bench.proofs.Sums.{pairs_values, trees_values, values_in}
use Rattle.rtb_bench.proofs.counts.+counting.Given as goal

abbrev pub decreases-with_tree : goal.decreases-with_tree
decreases-with_tree l = 3 * values_in (tree_of l.value.now)

abbrev pub decreases-with_member : goal.decreases-with_member
decreases-with_member l = 3 * values_in (pair_of l.member.now).1 + 1

abbrev pub decreases-with_items : goal.decreases-with_items
decreases-with_items l = 3 * trees_values (trees_of l.items.now) + 2

abbrev pub decreases-with_members : goal.decreases-with_members
decreases-with_members l = 3 * pairs_values (pairs_of l.members.now) + 2
