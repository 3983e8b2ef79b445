use Rattle.std.proofs.Common.{◌<◌, ap, sym, subst, ◌∙◌, ◌∷◌, Some, le_refl}
use Rattle.atomic_table.specs.Table.{rest}
use Rattle.hist_lock.proofs.Turns.{passes}
use Rattle.hist_lock.proofs.lock.HistLock.put_back.Goals as goal

pub fetch_add-requires : goal.fetch_add-requires
fetch_add-requires g c = (
  c.exchange.ensures.0 ∙ c.requires.lock ∙ sym c.self.view_is,
  subst (λ n. 2 < n) (sym c.self.invariant.0) (le_refl 3),
  passes _ _ _ _ _ c.args.place.now.me.0 c.args.value (c.exchange.ensures.3 ∙ ap (λ l. (c.args.place.now.me.0, (0, Some c.args.value) ∷ rest l)) c.requires.turn.0) c.requires.turn.1 c.requires.value,
)
