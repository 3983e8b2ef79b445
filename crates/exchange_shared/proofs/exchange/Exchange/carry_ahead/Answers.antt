use Rattle.std.proofs.Common.{◌≡◌, sym, ◌∙◌}
use Rattle.exchange_shared.proofs.Changes.{entered_free, entered_turn, may_call_put, may_put_ahead, puts_ahead}
use Rattle.exchange_shared.proofs.Seats.{ordered_on}
use Rattle.exchange_shared.proofs.exchange.Exchange.carry_ahead.Goals as goal

pub enter_ahead-seat-requires : goal.enter_ahead-seat-requires
enter_ahead-seat-requires g c = record { staged = (c.args.errand, c.requires.staged) }

pub enter-seat-requires-clause-lock : goal.enter-seat-requires-clause-lock
enter-seat-requires-clause-lock g c = (entered_free _ _ _ _ _ _ _ (c.enter_ahead-seat.ensures.entered c.args.errand c.requires.staged)).0

pub enter-seat-requires-clause-free : goal.enter-seat-requires-clause-free
enter-seat-requires-clause-free g c = (entered_free _ _ _ _ _ _ _ (c.enter_ahead-seat.ensures.entered c.args.errand c.requires.staged)).1

pub leave_put-seat-requires-clause-lock : goal.leave_put-seat-requires-clause-lock
leave_put-seat-requires-clause-lock g c = entered_turn _ _ _ c.enter-seat.result.0 _ _ _ _ (c.enter_ahead-seat.ensures.entered c.args.errand c.requires.staged) c.enter-seat.ensures.seat

pub leave_put-seat-requires-clause-done : goal.leave_put-seat-requires-clause-done
leave_put-seat-requires-clause-done g c =
    may_put_ahead c.a_change_may_be_put_back.ensures _ _ _ _ _ _ _ _ _ _ _ (c.enter_ahead-seat.ensures.entered c.args.errand c.requires.staged) c.enter-seat.ensures.seat c.enter-seat.ensures.value c.write-written.ensures

pub returns-then-written-clause-seat : goal.returns-then-written-clause-seat
returns-then-written-clause-seat g c =
    may_call_put _ _ _ c.enter-seat.result.0 _ _ _ _ c.write-written.new.errand _ c.write-written.result (c.enter_ahead-seat.ensures.entered c.args.errand c.requires.staged) c.enter-seat.ensures.seat c.leave_put-seat.ensures.left

pub returns-else-written-clause-seat : goal.returns-else-written-clause-seat
returns-else-written-clause-seat g c =
    may_call_put _ _ _ c.enter-seat.result.0 _ _ _ _ c.write-written.new.errand _ c.write-written.result (c.enter_ahead-seat.ensures.entered c.args.errand c.requires.staged) c.enter-seat.ensures.seat c.leave_put-seat.ensures.left

pub returns-then-written-clause-order : goal.returns-then-written-clause-order
returns-then-written-clause-order g c = ordered_on c.enter-seat.result.0 _ _ c.leave_put-seat.ensures.order c.leave_put-seat.ensures.left

pub returns-else-written-clause-order : goal.returns-else-written-clause-order
returns-else-written-clause-order g c = ordered_on c.enter-seat.result.0 _ _ c.leave_put-seat.ensures.order c.leave_put-seat.ensures.left

pub returns-then-written-clause-changed : goal.returns-then-written-clause-changed
returns-then-written-clause-changed g c =
    puts_ahead c.a_change_may_be_put_back.ensures _ _ _ c.enter-seat.result.0 _ _ _ _ c.write-written.new.errand _ _ _ _ c.if-written.true
    (c.enter_ahead-seat.ensures.entered c.args.errand c.requires.staged) c.enter-seat.ensures.seat c.enter-seat.ensures.value c.write-written.ensures c.leave_put-seat.ensures.left

pub returns-else-written-clause-changed : goal.returns-else-written-clause-changed
returns-else-written-clause-changed g c =
    puts_ahead c.a_change_may_be_put_back.ensures _ _ _ c.enter-seat.result.0 _ _ _ _ c.write-written.new.errand _ _ _ _ c.if-written.false
    (c.enter_ahead-seat.ensures.entered c.args.errand c.requires.staged) c.enter-seat.ensures.seat c.enter-seat.ensures.value c.write-written.ensures c.leave_put-seat.ensures.left
