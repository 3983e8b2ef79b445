use Rattle.std.proofs.Common.{take}
use Rattle.worker_pool.proofs.Solvent.{solvent_at}
use Rattle.worker_pool.proofs.laws.budgets_hold_at_each_place.Goals as goal

pub returns : goal.returns
returns c o history n = solvent_at c.budgets_hold.ensures.ever o (take n history)
