use Rattle.std.proofs.Common.{◌≡◌, [], map, take}
use Rattle.exact_json.specs.View.{tree_of}
use Rattle.json_fields.specs.Readings.{each_in}
use Rattle.campaign_read.specs.Target.{conjunction_at}
use Rattle.campaign_read.proofs.target.all_conjunctions.Given as goal

abbrev pub invariant-loop-i : goal.invariant-loop-i
invariant-loop-i l = record {
  right : (each_in conjunction_at (map tree_of (take l.i l.values))).faults ≡ [];
  found : l.conjunctions.items ≡ (each_in conjunction_at (map tree_of (take l.i l.values))).value;
}
