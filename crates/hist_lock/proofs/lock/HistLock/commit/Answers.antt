use Rattle.std.proofs.Common.{◌<◌, sym, subst, ◌∙◌, zero-lt-suc}
use Rattle.hist_lock.proofs.Turns.{commits}
use Rattle.hist_lock.proofs.lock.HistLock.commit.Goals as goal

pub fetch_add-requires : goal.fetch_add-requires
fetch_add-requires g c = (c.requires.lock ∙ sym c.self.view_is, subst (λ n. 0 < n) (sym c.self.invariant.0) (zero-lt-suc 2), commits _ _ _ _ _ _ c.requires.turn.1 c.requires.names)
