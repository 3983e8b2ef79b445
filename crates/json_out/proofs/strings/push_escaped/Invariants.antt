use Rattle.std.proofs.Common.{◌≡◌, ◌++◌, ℕ, List, length}
use Rattle.std.specs.List.{flat_map}
use Rattle.json_out.specs.Strings.{escape}
use Rattle.json_out.proofs.strings.push_escaped.Given as goal

abbrev pub invariant-loop-byte : goal.invariant-loop-byte
invariant-loop-byte l = record {
  rest : l.out ++ flat_map escape l.rest ≡ l.fn.out ++ flat_map escape l.text;
  front : (more : List ℕ) × (l.out ≡ l.fn.out ++ more);
}

abbrev pub decreases-loop-byte : goal.decreases-loop-byte
decreases-loop-byte l = length l.rest
