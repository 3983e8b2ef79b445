use Rattle.std.proofs.Common.{[]}
use Rattle.door_worker.specs.Answers.{Goes}
use Rattle.exchange_shared.specs.Seats.{MayCall, lock_of}
use Rattle.door_worker.proofs.messages.enter.Given as goal

abbrev pub invariant-loop : goal.invariant-loop
invariant-loop g l = MayCall (lock_of l.exchange) l.seat × Goes [] 0 l.initial.seat l.seat
