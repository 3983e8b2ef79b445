use Rattle.std.proofs.Common.{◌<◌, refl, sym, ap, subst, ◌∙◌, arith}
use Rattle.hist_lock.proofs.Turns.{draws}
use Rattle.hist_lock.proofs.lock.HistLock.draw.Goals as goal

one_of_three : 1 < 3
one_of_three = omega arith

pub compare_exchange-requires : goal.compare_exchange-requires
compare_exchange-requires g c = (
  c.loop.invariant.0 ∙ c.requires.lock ∙ sym c.self.view_is,
  subst (λ n. 1 < n) (sym c.self.invariant.0) one_of_three,
  draws _ _ _ _ _ _ _ refl c.if-ticket-lt-TICKETS.true (ap (λ m. m.0.stage) c.loop.invariant.2 ∙ c.requires.free.1),
)

pub loop-init : goal.loop-init
loop-init g c = (refl, refl, refl)
