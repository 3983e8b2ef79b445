use Rattle.std.proofs.Common.{◌≡◌, ◌≤◌, ◌+◌, length}
use Rattle.std.specs.Prelude.{IsTrue}
use Rattle.std.specs.List.{list_all}
use Rattle.clearing.specs.Candidates.{asked_for_first, first_that_pays, refused_first}
use Rattle.clearing.proofs.walk.first_that_pays.Given as goal

abbrev pub invariant-loop-rest : goal.invariant-loop-rest
invariant-loop-rest g l = record {
  value : first_that_pays (g.P.Payers.pays l.payers) l.best l.candidates ≡ first_that_pays (g.P.Payers.pays l.payers) l.best l.rest;
  cost : l.fn.steps + asked_for_first (g.P.Payers.pays l.payers) l.best l.candidates ≡ l.steps + asked_for_first (g.P.Payers.pays l.payers) l.best l.rest;
  refused : refused_first (g.P.Payers.pays l.payers) l.best l.candidates ≡ l.refused + refused_first (g.P.Payers.pays l.payers) l.best l.rest;
  few : l.refused + length l.rest ≤ length l.candidates;
  known : IsTrue (list_all (g.P.Payers.knows l.payers) l.rest);
}

abbrev pub decreases-loop-rest : goal.decreases-loop-rest
decreases-loop-rest g l = length l.rest
