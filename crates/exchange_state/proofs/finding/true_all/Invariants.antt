use Rattle.std.proofs.Common.{◌≡◌, ◌≤◌, ◌+◌, map, take}
use Rattle.std.specs.Prelude.{sum_by}
use Rattle.exchange_state.specs.Finding.{true_at}
use Rattle.index_versions.specs.Touched.{conjunctions_of}
use Rattle.rtb_types.specs.declared.request.Imp.{Imp}
use Rattle.exchange_state.proofs.finding.true_all.Given as goal

-- the numbers for the impressions so far, and what they cost
abbrev pub invariant-loop-imp : goal.invariant-loop-imp
invariant-loop-imp g l = record {
  now : l.now.items ≡ map (true_at l.touched l.table.campaigns l.request) (take l.imp l.request.imps);
  cost : l.steps ≤ l.fn.steps + sum_by (λ (i : Imp). sum_by (conjunctions_of l.table.campaigns) l.touched) (take l.imp l.request.imps);
}
