use Rattle.std.proofs.Common.{◌≡◌, ◌≤◌, ◌+◌, ◌*◌, ◌++◌, length, map, take, drop}
use Rattle.exact_json.specs.Held.{held}
use Rattle.exact_json.specs.Reading.{value_at, member_at, more_at, mapped}
use Rattle.exact_json.specs.View.{tree_of, pair_of}
use Rattle.exact_json.proofs.reader.+reading.Given as goal

abbrev pub decreases-value_of : goal.decreases-value_of
decreases-value_of l = 5 * l.depth

abbrev pub decreases-items_of : goal.decreases-items_of
decreases-items_of l = 5 * l.depth + 2

abbrev pub decreases-more_items_of : goal.decreases-more_items_of
decreases-more_items_of l = 5 * l.depth + 1

abbrev pub decreases-value_after_colon : goal.decreases-value_after_colon
decreases-value_after_colon l = 5 * l.depth + 1

abbrev pub decreases-member_of : goal.decreases-member_of
decreases-member_of l = 5 * l.depth + 2

abbrev pub decreases-members_of : goal.decreases-members_of
decreases-members_of l = 5 * l.depth + 4

abbrev pub decreases-more_members_of : goal.decreases-more_members_of
decreases-more_members_of l = 5 * l.depth + 3

-- the entries so far and what is still read are those of all the bytes; below them and on the other stack all stands as it was
abbrev pub invariant-more_items_of-loop-first : goal.invariant-more_items_of-loop-first
invariant-more_items_of-loop-first l =
    record {
      same : mapped (λ ts. map tree_of (drop l.base (held l.stacks).0) ++ ts) (more_at (value_at l.depth) 93 (length l.left) l.left) ≡ mapped
          (λ ts. map tree_of (drop l.base (held l.fn.stacks).0) ++ ts) (more_at (value_at l.depth) 93 (length l.bytes) l.bytes);
      room : l.base ≤ length (held l.stacks).0;
      below : take l.base (held l.stacks).0 ≡ take l.base (held l.fn.stacks).0;
      other : (held l.stacks).1 ≡ (held l.fn.stacks).1;
    }

abbrev pub decreases-more_items_of-loop-first : goal.decreases-more_items_of-loop-first
decreases-more_items_of-loop-first l = length l.left

abbrev pub invariant-more_members_of-loop-first : goal.invariant-more_members_of-loop-first
invariant-more_members_of-loop-first l =
    record {
      same : mapped (λ ps. map pair_of (drop l.base (held l.stacks).1) ++ ps) (more_at (member_at (value_at l.depth)) 125 (length l.left) l.left)
          ≡ mapped (λ ps. map pair_of (drop l.base (held l.fn.stacks).1) ++ ps) (more_at (member_at (value_at l.depth)) 125 (length l.bytes) l.bytes);
      room : l.base ≤ length (held l.stacks).1;
      below : take l.base (held l.stacks).1 ≡ take l.base (held l.fn.stacks).1;
      other : (held l.stacks).0 ≡ (held l.fn.stacks).0;
    }

abbrev pub decreases-more_members_of-loop-first : goal.decreases-more_members_of-loop-first
decreases-more_members_of-loop-first l = length l.left
