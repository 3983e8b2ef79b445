use Rattle.std.proofs.Common.{◌≡◌, [], map, take}
use Rattle.exact_json.specs.View.{tree_of}
use Rattle.json_fields.specs.Readings.{each_in}
use Rattle.which_read.specs.Made.{judged_from, judged_in}
use Rattle.which_read.specs.Request.{expression_at}
use Rattle.which_read.proofs.expressions.enter_all.Given as goal

abbrev pub invariant-loop-i : goal.invariant-loop-i
invariant-loop-i l = record {
  right : (each_in expression_at (map tree_of (take l.i l.values))).faults ≡ [];
  found : judged_in l.judging ≡ judged_from l.assignment (each_in expression_at (map tree_of (take l.i l.values))).value;
}
