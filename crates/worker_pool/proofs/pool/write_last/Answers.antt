use Rattle.std.proofs.Common.{◌∙◌, subst}
use Rattle.exchange_shared.specs.Seats.{Seat, worker_of}
use Rattle.hist_lock.specs.Views.{Complete}
use Rattle.worker_pool.proofs.Writing.{written_in_part, written_whole}
use Rattle.worker_pool.proofs.pool.write_last.Goals as goal

pub returns-in-Ok-clause-written : goal.returns-in-Ok-clause-written
returns-in-Ok-clause-written g c =
    written_whole c.args.seat c.in-Ok.seat c.args.failed c.close.result.past c.close.result.end c.in-Ok.ensures.written c.in-Ok.ensures.durable c.close.ensures.past (c.close.ensures.end ∙ c.end_of.ensures)

pub returns-in-Ok-clause-complete : goal.returns-in-Ok-clause-complete
returns-in-Ok-clause-complete g c = subst (λ (s : Seat). Complete worker_of s c.close.result.past.seen) c.in-Ok.ensures.written.same c.close.ensures.complete

pub returns-in-Err-clause-written : goal.returns-in-Err-clause-written
returns-in-Err-clause-written g c =
    written_in_part c.args.seat c.in-Err.field-0.seat c.args.failed c.close-in-Err.result.past c.close-in-Err.result.end c.in-Err.ensures.failed c.close-in-Err.ensures.past (c.close-in-Err.ensures.end ∙ c.end_of-in-Err.ensures)

pub returns-in-Err-clause-complete : goal.returns-in-Err-clause-complete
returns-in-Err-clause-complete g c = subst (λ (s : Seat). Complete worker_of s c.close-in-Err.result.past.seen) c.in-Err.ensures.failed.same c.close-in-Err.ensures.complete
