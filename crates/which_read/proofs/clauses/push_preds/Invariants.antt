use Rattle.std.proofs.Common.{◌≡◌, [], map, take}
use Rattle.exact_json.specs.View.{tree_of}
use Rattle.json_fields.specs.Readings.{each_in}
use Rattle.which_read.specs.Clauses.{pred_at}
use Rattle.which_read.proofs.clauses.push_preds.Given as goal

abbrev pub invariant-loop-k : goal.invariant-loop-k
invariant-loop-k l = record {
  right : (each_in (pred_at l.fn.i l.fn.j) (map tree_of (take l.k l.values))).faults ≡ [];
  found : l.preds.items ≡ (each_in (pred_at l.fn.i l.fn.j) (map tree_of (take l.k l.values))).value;
}
