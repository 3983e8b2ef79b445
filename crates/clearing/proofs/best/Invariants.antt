use Rattle.std.proofs.Common.{◌+◌, take}
use Rattle.clearing.specs.Clearing.{IsUnbeaten}
use Rattle.clearing.proofs.best.Given as goal

abbrev pub invariant-loop-offer : goal.invariant-loop-offer
invariant-loop-offer l = IsUnbeaten (take (l.offer-index + 1) l.offers) l.best
