use Rattle.std.proofs.Common.{◌≡◌, [], map, take}
use Rattle.exact_json.specs.View.{tree_of}
use Rattle.json_fields.specs.Readings.{each_in}
use Rattle.which_read.specs.Weighed.{weight_at}
use Rattle.which_read.proofs.weighed.push_weights.Given as goal

abbrev pub invariant-loop-j : goal.invariant-loop-j
invariant-loop-j l = record {
  right : (each_in (weight_at l.fn.i) (map tree_of (take l.j l.values))).faults ≡ [];
  found : l.weights.items ≡ (each_in (weight_at l.fn.i) (map tree_of (take l.j l.values))).value;
}
