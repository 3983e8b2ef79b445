use Rattle.std.proofs.Common.{◌≡◌, ◌+◌, length}
use Rattle.std.specs.Prelude.{IsTrue}
use Rattle.std.specs.List.{list_all}
use Rattle.clearing.specs.Candidates.{asked_for_next, next_that_pays}
use Rattle.clearing.proofs.walk.next_that_pays.Given as goal

abbrev pub invariant-loop-rest : goal.invariant-loop-rest
invariant-loop-rest g l = record {
  value : next_that_pays (g.P.Payers.pays l.payers) l.winner l.known l.behind ≡ next_that_pays (g.P.Payers.pays l.payers) l.winner l.known l.rest;
  cost : l.fn.steps + asked_for_next (g.P.Payers.pays l.payers) l.winner l.known l.behind ≡ l.steps + asked_for_next (g.P.Payers.pays l.payers) l.winner l.known l.rest;
  known : IsTrue (list_all (g.P.Payers.knows l.payers) l.rest);
}

abbrev pub decreases-loop-rest : goal.decreases-loop-rest
decreases-loop-rest g l = length l.rest
