use Rattle.exchange_shared.specs.Errands.{taken_by}
use Rattle.exchange_shared.proofs.exchange.Exchange.stage.Given as goal

abbrev pub ghosts-leave_taken : goal.ghosts-leave_taken
ghosts-leave_taken g a = record { said = taken_by a.seat a.errand.now }
