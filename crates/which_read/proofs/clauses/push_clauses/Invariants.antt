use Rattle.std.proofs.Common.{◌≡◌, [], map, take}
use Rattle.exact_json.specs.View.{tree_of}
use Rattle.json_fields.specs.Readings.{each_in}
use Rattle.which_read.specs.Clauses.{clause_at}
use Rattle.which_read.proofs.clauses.push_clauses.Given as goal

abbrev pub invariant-loop-j : goal.invariant-loop-j
invariant-loop-j l = record {
  right : (each_in (clause_at l.fn.i) (map tree_of (take l.j l.values))).faults ≡ [];
  found : l.clauses.items ≡ (each_in (clause_at l.fn.i) (map tree_of (take l.j l.values))).value;
}
