use Rattle.std.proofs.Common.{◌≡◌, false}
use Rattle.exchange_shared.specs.Seats.{Waits, lock_of}
use Rattle.exchange_state.specs.Views.{called}
use Rattle.plain_exchange.specs.declared.commands.Command.TheVariants.{Act}
use Rattle.exchange_shared.proofs.exchange.Exchange.enter_ahead.Given as goal

abbrev pub invariant-loop : goal.invariant-loop
invariant-loop g l = (l.seat.lock ≡ lock_of l.self) × (l.seat.turn ≡ false) × Waits l.initial.seat l.seat

abbrev pub ghosts-leave_acted : goal.ghosts-leave_acted
ghosts-leave_acted g a = record { said = called a.seat.worker (Act a.act.now) a.moment a.reply.now }
