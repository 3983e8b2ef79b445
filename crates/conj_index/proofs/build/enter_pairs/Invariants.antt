use Rattle.std.proofs.Common.{◌≡◌, ◌++◌, List, map, length}
use Rattle.target_expr.specs.declared.pred.Pair.{Pair}
use Rattle.conj_index.specs.Growing.{AreGrown, shift}
use Rattle.conj_index.proofs.build.enter_pairs.Given as goal

abbrev pub invariant-loop-pair : goal.invariant-loop-pair
invariant-loop-pair l = record {
  grown : (before : List Pair) → AreGrown before l.fn.parts.items → AreGrown (before ++ map (shift l.first) l.yielded) l.parts.items;
  count : length l.parts.items ≡ length l.fn.parts.items;
}
