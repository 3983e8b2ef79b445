use Rattle.exchange_shared.specs.Errands.{put_by}
use Rattle.exchange_shared.proofs.exchange.Exchange.carry_ahead.Given as goal

abbrev pub ghosts-leave_put : goal.ghosts-leave_put
ghosts-leave_put g a = record { said = put_by a.seat a.errand a.written }
