-- Texts with one block more, and where their effects lead.
use Rattle.std.proofs.Common.{◌≡◌, ℕ, ◌+◌, ◌<◌, ◌≤◌, ◌^◌, List, [], ◌∷◌, ◌++◌, All, length, map, take, drop, get_or, refl, sym, ◌∙◌, ap, arith, Some, None, take-append-drop}
use Rattle.std.specs.List.{flat_map}
use Rattle.std.specs.Prelude.{Ok, option_and_then}
use Rattle.std.proofs.lemmas.List.{append-nil, drop_more, map-append, take_more}
use Rattle.std.proofs.lemmas.List.Concat.{flat_map-append}
use Rattle.std.proofs.lemmas.List.Elements.{All-append, All-nil, All-push}
use Rattle.std.proofs.lemmas.List.Sums.{sum_by-append, sum_by_more}
use Rattle.effects.specs.Bytes.{IsDecoded, IsEncodable, effects_bytes}
use Rattle.plain_exchange.specs.declared.changes.Effect.{Effect}
use Rattle.plain_exchange.specs.Effects.{all_applied, applied, edits, edits_in, state_of}
use Rattle.plain_exchange.specs.State.{State, empty}
use Rattle.plain_exchange.proofs.Applying.{all_applied_both}
use Rattle.auction_core.specs.Core.{CoreState}
use Rattle.recovery.specs.Openings.{IsLed}
use Rattle.recovery.specs.Texts.{IsTextOf}

pub no_text : IsTextOf [] []
no_text = record { blocks = []; encodable = All-nil (All IsEncodable); payloads_are = refl; effects_are = refl }

pub text_more : (payloads : List (List ℕ)) (payload : List ℕ) (es fs : List Effect) → IsTextOf payloads es → IsDecoded payload (Ok fs) → IsTextOf (payloads ++ payload ∷ []) (es ++ fs)
text_more payloads payload es fs t d = record {
  blocks = t.blocks ++ fs ∷ [];
  encodable = All-push (All IsEncodable) t.blocks fs t.encodable d.0;
  payloads_are = ap (λ l. l ++ payload ∷ []) t.payloads_are ∙ ap (λ p. map effects_bytes t.blocks ++ p ∷ []) d.1 ∙ sym (map-append effects_bytes t.blocks (fs ∷ []));
  effects_are = ap (λ l. l ++ fs) t.effects_are
      ∙ ap (λ l. flat_map (λ (block : List Effect). block) t.blocks ++ l) (sym (append-nil fs))
      ∙ sym (flat_map-append (λ (block : List Effect). block) t.blocks (fs ∷ []));
}

pub leads_more : (es fs : List Effect) (s t : State) → state_of es ≡ Some s → all_applied fs s ≡ Some t → state_of (es ++ fs) ≡ Some t
leads_more es fs s t e f = all_applied_both es fs empty ∙ ap (option_and_then (all_applied fs)) e ∙ f

pub edits_more : (es fs : List Effect) → edits (es ++ fs) ≡ edits es + edits fs
edits_more es fs = sum_by-append (λ (e : Effect). edits_in e.change) es fs

-- ---- effects in turn

pub applied_more : (effects : List Effect) (i : ℕ) (e : Effect) (s t u : State) → i < length effects → e ≡ get_or effects i e → all_applied (take i effects) s ≡ Some t → applied e t ≡ Some u → all_applied (take (i + 1) effects) s ≡ Some u
applied_more effects i e s t u lt is before one =
    ap (λ l. all_applied l s) (take_more effects i e lt)
    ∙ ap (λ x. all_applied (take i effects ++ x ∷ []) s) (sym is)
    ∙ all_applied_both (take i effects) (e ∷ []) s
    ∙ ap (option_and_then (all_applied (e ∷ []))) before
    ∙ ap (option_and_then (all_applied [])) one

pub applied_stops : (effects : List Effect) (i : ℕ) (e : Effect) (s t : State) → i < length effects → e ≡ get_or effects i e → all_applied (take i effects) s ≡ Some t → applied e t ≡ None → all_applied effects s ≡ None
applied_stops effects i e s t lt is before one =
    ap (λ l. all_applied l s) (sym (take-append-drop i effects) ∙ ap (λ l. take i effects ++ l) (drop_more effects i e lt))
    ∙ ap (λ x. all_applied (take i effects ++ x ∷ drop (i + 1) effects) s) (sym is)
    ∙ all_applied_both (take i effects) (e ∷ drop (i + 1) effects) s
    ∙ ap (option_and_then (all_applied (e ∷ drop (i + 1) effects))) before
    ∙ ap (option_and_then (all_applied (drop (i + 1) effects))) one

pub edits_so_far : (effects : List Effect) (i : ℕ) (e : Effect) (first before now : ℕ) → i < length effects → e ≡ get_or effects i e → before ≡ first + edits (take i effects) → now ≡ before + edits_in e.change → now ≡ first + edits (take (i + 1) effects)
edits_so_far effects i e first before now lt is a b =
    let same : edits_in e.change ≡ edits_in (get_or effects i e).change = ap (λ (x : Effect). edits_in x.change) is in
    omega (arith, a, b, same, sum_by_more (λ (x : Effect). edits_in x.change) effects i e lt)

-- ---- what some effects lead to

pub led_more : (es : List Effect) (old new : CoreState) → All IsEncodable es → all_applied es old.state ≡ Some new.state → new.edits ≡ old.edits + edits es → (old.edits ≤ 2 ^ 61 → new.edits ≤ 2 ^ 61) → IsLed old → IsLed new
led_more es old new each after more few led = record {
  effects = led.effects ++ es;
  encodable = All-append IsEncodable led.effects es led.encodable each;
  leads = leads_more led.effects es old.state new.state led.leads after;
  edits_are = more ∙ ap (λ n. n + edits es) led.edits_are ∙ sym (edits_more led.effects es);
  few = few led.few;
}

pub led_empty : (core : CoreState) → core.state ≡ empty → core.edits ≡ 0 → IsLed core
led_empty core state none = record { effects = []; encodable = All-nil IsEncodable; leads = ap (λ (s : State). Some s) (sym state); edits_are = none; few = omega (arith, none) }
