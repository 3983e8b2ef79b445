use Rattle.std.proofs.Common.{◌≡◌, take}
use Rattle.std.specs.List.{flat_map}
use Rattle.json_out.specs.Strings.{escape}
use Rattle.json_out.proofs.strings.plain_rest.Given as goal

abbrev pub invariant-loop-i : goal.invariant-loop-i
invariant-loop-i l = flat_map escape (take l.i l.text) ≡ take l.i l.text
