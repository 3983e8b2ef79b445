use Rattle.std.proofs.Common.{◌≡◌, [], map, take}
use Rattle.exact_json.specs.View.{tree_of}
use Rattle.json_fields.specs.Readings.{each_in}
use Rattle.campaign_read.specs.Target.{pred_at}
use Rattle.campaign_read.proofs.target.all_preds.Given as goal

abbrev pub invariant-loop-j : goal.invariant-loop-j
invariant-loop-j l = record {
  right : (each_in (pred_at l.fn.i) (map tree_of (take l.j l.values))).faults ≡ [];
  found : l.preds.items ≡ (each_in (pred_at l.fn.i) (map tree_of (take l.j l.values))).value;
}
