-- Effects in turn.
use Rattle.std.proofs.Common.{◌≡◌, ◌<◌, ◌≤◌, ◌+◌, ◌-◌, ℕ, List, [], ◌∷◌, length, take, drop, get_or, refl, sym, ◌∙◌, ap, arith, subst, take-append-drop, Some, None}
use Rattle.std.specs.Prelude.{Ok, Err, Result, option_and_then}
use Rattle.std.proofs.Math.ListN.{drop_of_length-le}
use Rattle.std.proofs.lemmas.List.{drop_more, length-take-le}
use Rattle.auction_core.specs.declared.fault.ApplyFault.{ApplyFault}
use Rattle.auction_core.specs.declared.fault.ApplyFault.TheVariants as apply
use Rattle.effects.specs.Bytes.{IsDecoded}
use Rattle.follower.specs.Following.{Lead}
use Rattle.follower.specs.Passing.{Applies, Carries, Stops}
use Rattle.plain_exchange.specs.declared.changes.Effect.{Effect}
use Rattle.plain_exchange.specs.Effects.{all_applied, applied}
use Rattle.plain_exchange.specs.State.{State}
use Rattle.recovery.proofs.Joining.{applied_more}

pub none_led : (s : State) (n : ℕ) → Lead s s n n []
none_led s n = record { applied = refl; counted = omega arith }

pub one_more : (effects : List Effect) (i : ℕ) (e : Effect) (s t u : State) (before now next : ℕ) → i < length effects → e ≡ get_or effects i e → Lead s t before now (take i effects) → applied e t ≡ Some u → next ≡ now + 1 → Lead s u before next (take (i + 1) effects)
one_more effects i e s t u before now next lt is lead one count = record {
  applied = applied_more effects i e s t u lt is lead.applied one;
  counted = omega (arith, lead.counted, count, length-take-le i effects (omega (arith, lt)), length-take-le (i + 1) effects (omega (arith, lt)));
}

pub all_led : (effects : List Effect) (i : ℕ) (s t : State) (before now : ℕ) → length effects ≤ i → Lead s t before now (take i effects) → Applies effects s t before now (Ok tt)
all_led effects i s t before now le lead = record { more = take i effects; left = drop i effects; split = sym (take-append-drop i effects); lead = lead; stops = drop_of_length-le effects le }

no_more : (effects : List Effect) (i : ℕ) (e : Effect) (t : State) (fault : ApplyFault) → i < length effects → e ≡ get_or effects i e → (fault ≡ apply.Unfit → applied e t ≡ None) → Stops (drop i effects) t (Err fault)
no_more effects i e t apply.Unfit lt is unfit =
    ap (λ (l : List Effect). all_applied l t) (drop_more effects i e lt)
    ∙ ap (λ (x : Effect). all_applied (x ∷ drop (i + 1) effects) t) (sym is)
    ∙ ap (option_and_then (all_applied (drop (i + 1) effects))) (unfit refl)
no_more effects i e t apply.Memory lt is unfit = tt

pub stopped : (effects : List Effect) (i : ℕ) (e : Effect) (s t u : State) (before now next : ℕ) (fault : ApplyFault) → i < length effects → e ≡ get_or effects i e → Lead s t before now (take i effects) → (fault ≡ apply.Unfit → applied e t ≡ None) → u ≡ t → next ≡ now → Applies effects s u before next (Err fault)
stopped effects i e s t u before now next fault lt is lead unfit same count = record {
  more = take i effects;
  left = drop i effects;
  split = sym (take-append-drop i effects);
  lead = record { applied = lead.applied ∙ ap (λ (x : State). Some x) (sym same); counted = count ∙ lead.counted };
  stops = subst (λ (x : State). Stops (drop i effects) x (Err fault)) (sym same) (no_more effects i e t fault lt is unfit);
}

-- those behind the first so many
pub rest_applied : (effects rest : List Effect) (done : ℕ) (s t : State) (before now : ℕ) (r : Result Unit ApplyFault) → rest ≡ drop done effects → Applies rest s t before now r → (a : Applies (drop done effects) s t before now r) × (done + (now - before) ≡ done + length a.more)
rest_applied effects rest done s t before now r is a =
    (record { more = a.more; left = a.left; split = sym is ∙ a.split; lead = a.lead; stops = a.stops }, omega (arith, a.lead.counted))

pub carried : (payload : List ℕ) (block effects : List Effect) (done done' : ℕ) (s t : State) (before now : ℕ) (r : Result Unit ApplyFault) → block ≡ effects → IsDecoded payload (Ok effects) → (a : Applies (drop done block) s t before now r) × (done' ≡ done + length a.more) → Carries payload done done' s t before now r
carried payload block effects done done' s t before now r is d a =
    record { block = effects; decoded = d; applies = record { more = a.0.more; left = a.0.left; split = ap (drop done) (sym is) ∙ a.0.split; lead = a.0.lead; stops = a.0.stops }; place = a.1 }
