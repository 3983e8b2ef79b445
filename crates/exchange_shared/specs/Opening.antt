-- What an exchange is opened with.
use Rattle.std.specs.Prelude.{◌≡◌, ℕ, Some, length, true}
use Rattle.exchange_state.specs.declared.entries.Origin.{Origin}
use Rattle.exchange_state.specs.Tickets.{opening}
use Rattle.plain_exchange.specs.Effects.{state_of}
use Rattle.plain_exchange.specs.declared.settings.Settings.{Settings}
use Rattle.recovery.specs.Texts.{HasText}
use Rattle.rtb_disk.specs.Stores.{Store, settled}

-- The origin has the effects that the disk says, where it tells what it has; each of them fits behind those before it, and
-- they lead to the state that the exchange was opened with; it has the settings, the count of calls of the disk that had failed, and
-- that of moments before.
pub record IsOriginOver (store : Store) (faults : ℕ) (settings : Settings) (o : Origin) : Type 0 where
  pub says : store.told ≡ true → HasText store.reads o.effects
  pub fits : state_of o.effects ≡ Some (opening o)
  pub told_is : o.told ≡ store.told
  pub settings_is : o.settings ≡ settings
  pub faults_are : o.faults ≡ faults
  -- its first moment is that of a sync, which comes first
  pub moments_are : store.told ≡ true → o.moments ≡ length (settled store).past
