use Rattle.rtb_bench.specs.Turns.{MayEnter}
use Rattle.rtb_bench.proofs.turns.take_turns.Given as goal

abbrev pub invariant-loop : goal.invariant-loop
invariant-loop g l = MayEnter l.lock l.seat
