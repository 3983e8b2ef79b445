-- What an exchange is opened with.
use Rattle.std.proofs.Common.{◌≡◌, ℕ, List, length, true, refl, sym, ◌∙◌, ap, subst, Result, Ok, Err, IfErr}
use Rattle.exchange_shared.specs.Opening.{IsOriginOver}
use Rattle.exchange_state.specs.declared.state.ExchangeState.{ExchangeState}
use Rattle.exchange_state.specs.Settling.{IsOpened, opened_with}
use Rattle.exchange_state.specs.Standing.{store_in}
use Rattle.journal_file.specs.Readings.{faults_read, reads_of, store_read}
use Rattle.journal_file.specs.declared.reading.Reading.{Reading}
use Rattle.plain_exchange.specs.declared.changes.Effect.{Effect}
use Rattle.plain_exchange.specs.declared.settings.Settings.{Settings}
use Rattle.recovery.specs.Texts.{HasText}
use Rattle.rtb_disk.specs.Stores.{Always, Store, settled}
use Rattle.rtb_disk.specs.declared.disk.Disk.{Ghosts}

pub if_err_then : {T E : Type 0} (P Q : E → Type 0) (r : Result T E) → ((e : E) → P e → Q e) → IfErr r P → IfErr r Q
if_err_then P Q (Ok x) f h = tt
if_err_then P Q (Err e) f h = f e h

module _ {D : Type 0} {G : Ghosts D} where
  -- a state stands for what it was opened with, so its effects fit
  pub originates : (store : Store) (faults : ℕ) (settings : Settings) (reading : Reading D G) (x : ExchangeState D G) (e : IsOpened settings reading x) → (store.told ≡ true → store_read reading ≡ settled store) → (store_read reading).told ≡ store.told → faults_read reading ≡ faults
      → IsOriginOver store faults settings (opened_with e.effects settings reading)
  originates store faults settings reading x e synced told_is same = record {
    says = λ told. subst (λ (s : Store). HasText s.reads e.effects) (synced told) (e.says (told_is ∙ told));
    fits = e.stands.opened;
    told_is = told_is;
    settings_is = refl;
    faults_are = same;
    moments_are = λ told. ap (λ (s : Store). length s.past) (synced told);
  }

  -- a crash while it was opened leaves a file that says the same
  pub said : (store new : Store) (reading : Reading D G) (x : ExchangeState D G) → store_read reading ≡ settled store → new ≡ store_in x → (effects : List Effect) → HasText store.reads effects
      → ((more : List Effect) → HasText (reads_of reading) more → Always (λ image. HasText image more) (store_read reading) (store_in x)) → Always (λ image. HasText image effects) (settled store) new
  said store new reading x synced same effects text always =
      subst (λ (s : Store). Always (λ image. HasText image effects) s new) synced (subst (λ (s : Store). Always (λ image. HasText image effects) (store_read reading) s) (sym same)
      (always effects (subst (λ (s : Store). HasText s.reads effects) (sym synced) text)))
