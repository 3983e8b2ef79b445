-- The effect of a command leads to the state after it.
use Rattle.std.proofs.Common.{◌≡◌, ℕ, ◌≤◌, ◌∙◌, sym, ap, subst, true, refl, arith, None, Option, Some, Result, Ok, Err}
use Rattle.std.specs.Prelude.{IfOk, IfSome, IsTrue, OnOk, is_some}
use Rattle.auction_core.specs.Core.{CoreState}
use Rattle.auction_core.specs.Draft.{CanPut, IsDraftOf, IsReady, answered}
use Rattle.auction_core.specs.Putting.{HasRoom, Leads, memory_of, sales_in}
use Rattle.auction_core.specs.declared.draft.Answer.{Answer}
use Rattle.auction_core.specs.declared.draft.Draft.{Draft}
use Rattle.auction_core.specs.declared.draft.Memory.{Memory}
use Rattle.plain_exchange.specs.declared.settings.Settings.{Settings}
use Rattle.plain_exchange.specs.declared.changes.Change.{Change}
use Rattle.plain_exchange.specs.declared.changes.Change.TheVariants as change
use Rattle.plain_exchange.specs.declared.changes.Effect.{Effect}
use Rattle.plain_exchange.specs.declared.commands.Command.{Command}
use Rattle.plain_exchange.specs.Effects.{change_applied, edits_in, fits}
use Rattle.plain_exchange.specs.State.{State, most_sales, swept}
use Rattle.plain_exchange.specs.Step.{effect_of, step}
use Rattle.plain_exchange.proofs.Applying.{EffectLeads, step_leads}
use Rattle.plain_exchange.proofs.Each.{At, some_same}
use Rattle.auction_core.proofs.Editing.{one_edit}
use Rattle.auction_core.proofs.Fitting.{items_few_at_all, some_of}

-- an effect leads to one state
one_end : (o : Option Effect) (s t u : State) → Leads o s t → EffectLeads s u o → t ≡ u
one_end None s t u e f = e ∙ sym f
one_end (Some x) s t u e f = some_same t u (sym e ∙ f)

-- and that of a command to the one after it
pub stepped : (settings : Settings) (m : ℕ) (s t : State) (c : Command) (o : Option Effect) → o ≡ effect_of settings m s c → Leads o s t → t ≡ (step settings m s c).after
stepped settings m s t c o e h = one_end o s t (step settings m s c).after h (subst (EffectLeads s (step settings m s c).after) (sym e) (step_leads settings m s c))

fit_by : (o : Option Effect) (s u : State) → EffectLeads s u o → IfSome o (λ x. IsTrue (fits x s))
fit_by None s u e = tt
fit_by (Some x) s u e = ap is_some e

-- so it fits
pub fitting : (settings : Settings) (m : ℕ) (s : State) (c : Command) (o : Option Effect) → o ≡ effect_of settings m s c → IfSome o (λ x. IsTrue (fits x s))
fitting settings m s c o e = fit_by o s (step settings m s c).after (subst (EffectLeads s (step settings m s c).after) (sym e) (step_leads settings m s c))

one_by : (o : Option Effect) → At (λ (x : Effect). edits_in x.change ≤ 1) o → IfSome o (λ x. edits_in x.change ≤ 1)
one_by None h = tt
one_by (Some x) h = h

-- and is one edit at most
pub edited_once : (settings : Settings) (m : ℕ) (s : State) (c : Command) (o : Option Effect) → o ≡ effect_of settings m s c → IfSome o (λ x. edits_in x.change ≤ 1)
edited_once settings m s c o e = one_by o (subst (At (λ (x : Effect). edits_in x.change ≤ 1)) (sym e) (one_edit settings m s c))

-- what fits adds no more sales than there can be
few_sales : (c : Change) (m : ℕ) (s u : State) → change_applied c m s ≡ Some u → sales_in c ≤ most_sales
few_sales change.Swept m s u e = omega arith
few_sales (change.Sold items) m s u e = items_few_at_all m None items (swept m s) u e
few_sales (change.SoldTo user items) m s u e = items_few_at_all m (Some user) items (swept m s) u e
few_sales (change.Added facts expr) m s u e = omega arith
few_sales (change.Changed n facts expr) m s u e = omega arith
few_sales (change.Paused n) m s u e = omega arith
few_sales (change.Resumed n) m s u e = omega arith
few_sales (change.Billed n) m s u e = omega arith
few_sales (change.Lost n) m s u e = omega arith
few_sales (change.Forgot n) m s u e = omega arith
few_sales (change.Kept k) m s u e = omega arith
few_sales (change.KeptSale sale) m s u e = omega arith

pub few_in_fit : (x : Effect) (s : State) → fits x s ≡ true → sales_in x.change ≤ 67108864
few_in_fit x s e = let (u, is) = some_of (change_applied x.change x.moment s) e in few_sales x.change x.moment s u is

-- what was made ready can be carried out
pub can_put : {E : Type 0} → (x : Effect) (old new : CoreState) (r : Result Memory E) → fits x old.state ≡ true → new.state ≡ old.state → edits_in x.change ≤ 1 → IfOk r (λ m. m ≡ memory_of x.change) → OnOk r (HasRoom x.change new) → IfOk r (λ m. CanPut x m new)
can_put x old new (Ok m) fit same few is room = record { fit = ap (fits x) same ∙ fit; memory_is = is; room = room; few = few }
can_put x old new (Err e) fit same few is room = tt

-- ---- the draft

abbrev pub IsMadeOf : {E : Type 0} → Answer → Option Effect → Result Memory E → Draft → Type 0
IsMadeOf a o r d = (d.answer ≡ a) × (d.effect ≡ o) × (r ≡ Ok d.memory)

pub drafted_is : {E : Type 0} → (settings : Settings) (m : ℕ) (s : State) (c : Command) (a : Answer) (o : Option Effect) (r : Result Memory E) (res : Result Draft E) → IfOk res (IsMadeOf a o r) → o ≡ effect_of settings m s c → answered a (step settings m s c).after ≡ (step settings m s c).reply
    → IfOk res (λ d. IsDraftOf settings s c m d)
drafted_is settings m s c a o r (Ok d) made e told =
    let (answer, effect, memory) = made in
    record { reply = ap (λ x. answered x (step settings m s c).after) answer ∙ told; effect = effect ∙ e; edits_are = refl }
drafted_is settings m s c a o r (Err x) made e told = tt

pub drafted_ready : {E : Type 0} → (core : CoreState) (a : Answer) (o p : Option Effect) (r : Result Memory E) (res : Result Draft E) → IfOk res (IsMadeOf a o r) → p ≡ o → IfOk r (λ x. IfSome p (λ e. CanPut e x core)) → IfOk res (λ d. IsReady d core)
drafted_ready core a o p r (Ok d) made same ready =
    let (answer, effect, memory) = made in
    subst (λ q. IfSome q (λ e. CanPut e d.memory core)) (same ∙ sym effect) (subst (λ k. IfOk k (λ x. IfSome p (λ e. CanPut e x core))) memory ready)
drafted_ready core a o p r (Err x) made same ready = tt
