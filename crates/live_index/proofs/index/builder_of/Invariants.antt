use Rattle.std.proofs.Common.{◌≡◌, ◌≤◌, ◌+◌}
use Rattle.live_index.proofs.Fronts.{first_live}
use Rattle.live_index.proofs.index.builder_of.Given as goal

-- the live ones among the campaigns so far, and a step for each
abbrev pub invariant-loop-place : goal.invariant-loop-place
invariant-loop-place g l = (l.builder ≡ first_live l.place l.table.campaigns) × (l.steps ≤ l.fn.steps + l.place)
