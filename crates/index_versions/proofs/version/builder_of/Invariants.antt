use Rattle.std.proofs.Common.{◌≡◌, ◌≤◌, ◌+◌, take}
use Rattle.index_versions.specs.Versions.{campaigns_of}
use Rattle.index_versions.proofs.version.builder_of.Given as goal

-- the campaigns so far, and a step for each
abbrev pub invariant-loop-campaign : goal.invariant-loop-campaign
invariant-loop-campaign g l = (l.builder ≡ campaigns_of (take l.campaign-index l.live)) × (l.steps ≤ l.fn.steps + l.campaign-index)
