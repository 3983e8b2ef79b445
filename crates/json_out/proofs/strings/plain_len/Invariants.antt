use Rattle.std.proofs.Common.{◌≡◌, ◌≤◌, ◌-◌, length, take}
use Rattle.std.specs.List.{flat_map}
use Rattle.json_out.specs.Strings.{escape}
use Rattle.json_out.proofs.strings.plain_len.Given as goal

-- the front so far stands as it is
abbrev pub invariant-loop-front : goal.invariant-loop-front
invariant-loop-front l = record {
  bound : l.front ≤ length l.text;
  plain : flat_map escape (take l.front l.text) ≡ take l.front l.text;
}

abbrev pub decreases-loop-front : goal.decreases-loop-front
decreases-loop-front l = length l.text - l.front
