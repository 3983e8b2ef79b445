-- Budgets at each place of a history.
use Rattle.std.proofs.Common.{◌≡◌, ℕ, List, [], refl, sym, subst, Option, None, Some}
use Rattle.std.specs.Option.{option_map_or}
use Rattle.exchange_state.specs.declared.entries.Origin.{Origin}
use Rattle.exchange_state.specs.Tickets.{opening, state_after}
use Rattle.plain_exchange.specs.Consistent.{IsSolvent}
use Rattle.plain_exchange.specs.Effects.{state_of}
use Rattle.plain_exchange.specs.History.{Call, replay}
use Rattle.plain_exchange.specs.State.{State, empty}
use Rattle.plain_exchange.specs.declared.changes.Effect.{Effect}
use Rattle.plain_exchange.specs.declared.settings.Settings.{Settings}

-- an exchange that its effects do not make begins empty
pub solvent_from : ((settings : Settings) (begun : List Effect) (s : State) (calls : List Call) → state_of begun ≡ Some s → IsSolvent (replay settings s calls)) → (o : Origin) (h : List Call) → IsSolvent (replay o.settings (option_map_or (λ (s : State). s) (state_of o.effects) empty) h)
solvent_from ever o h = by_state (state_of o.effects) refl
  where
    by_state : (x : Option State) → state_of o.effects ≡ x → IsSolvent (replay o.settings (option_map_or (λ (s : State). s) (state_of o.effects) empty) h)
    by_state (Some s) is = subst (λ (y : Option State). IsSolvent (replay o.settings (option_map_or (λ (z : State). z) y empty) h)) (sym is) (ever o.settings o.effects s h is)
    by_state None is = subst (λ (y : Option State). IsSolvent (replay o.settings (option_map_or (λ (z : State). z) y empty) h)) (sym is) (ever o.settings [] empty h refl)

pub solvent_at : ((settings : Settings) (begun : List Effect) (s : State) (calls : List Call) → state_of begun ≡ Some s → IsSolvent (replay settings s calls)) → (o : Origin) (h : List Call) → IsSolvent (state_after o h)
unfolding opening state_after
solvent_at ever o h = solvent_from ever o h
