use Rattle.std.proofs.Common.{◌≡◌}
use Rattle.made_run.specs.Runs.{behind_campaigns, campaigns_from}
use Rattle.made_run.specs.Standing.{IsReady, IsSoFar}
use Rattle.made_run.proofs.gathering.Gathering.campaigns.Given as goal

abbrev pub invariant-loop : goal.invariant-loop
invariant-loop g l = record {
  ready : IsReady l.self;
  so_far : IsSoFar (campaigns_from l.fn.drawn l.counter) l.self;
  drawn : l.drawn ≡ behind_campaigns l.fn.drawn l.counter;
}
