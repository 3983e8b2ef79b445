use Rattle.std.proofs.Common.{◌<◌, [], ◌∷◌, sym, ap, subst, ◌∙◌, le_refl, Some, None}
use Rattle.atomic_table.specs.Table.{rest}
use Rattle.hist_lock.specs.Rule.{boxed}
use Rattle.hist_lock.specs.Steps.{staged}
use Rattle.hist_lock.specs.declared.view.Stage.TheVariants.{Filling}
use Rattle.hist_lock.proofs.Openings.{fills, begins, opens}
use Rattle.hist_lock.proofs.lock.HistLock.make_over.Goals as goal

pub vacant-made-requires : goal.vacant-made-requires
vacant-made-requires g c = opens _ _

pub load-requires : goal.load-requires
load-requires g c = (c.in-Ok.ensures.2, subst (λ n. 2 < n) (sym c.in-Ok.ensures.0) (le_refl 3), fills _ _ _ _ _ c.in-Ok.ensures.4)

pub exchange-requires : goal.exchange-requires
exchange-requires g c =
    let has = ap (λ m. m.1) c.load.ensures.2 in
    (c.load.ensures.0 ∙ c.in-Ok.ensures.2, (None, has ∙ (λ i. (0, None) ∷ sym (ap rest has) i)))

pub load-requires-2 : goal.load-requires-2
load-requires-2 g c = (
  c.exchange.ensures.0 ∙ c.load.ensures.0 ∙ c.in-Ok.ensures.2,
  subst (λ n. 2 < n) (sym c.in-Ok.ensures.0) (le_refl 3),
  begins (boxed g.S.Stands.stands) _ _ _ _ _ c.args.value (c.exchange.ensures.3 ∙ ap (λ m. (m.0, (0, Some c.args.value) ∷ rest m.1)) c.load.ensures.2 ∙ ap (λ m. (staged Filling m.0, (0, Some c.args.value) ∷ [])) c.in-Ok.ensures.4) c.requires,
)
