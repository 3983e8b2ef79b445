-- An image is not neither: it gives a state, or it is damaged.
use Rattle.std.proofs.Common.{◌≡◌, inl, inr, ℕ, zero, suc, ◌≤◌, List, [], ◌∷◌, ◌++◌, length, refl, ◌∙◌, ap, arith, length-append, Option, Some, None}
use Rattle.std.specs.Prelude.{Ok}
use Rattle.std.proofs.lemmas.Bool.Decides.{eqb_tells}
use Rattle.effects.specs.Bytes.{IsDecoded}
use Rattle.journal_file.specs.Blocks.{IsName, IsTornCreation, block_bytes, end_of, front_of, journal_names}
use Rattle.journal_file.specs.Damage.{HasBlock}
use Rattle.journal_file.proofs.GateLemmas.{first_front}
use Rattle.journal_file.proofs.Writing.{front_push}
use Rattle.plain_exchange.specs.declared.changes.Effect.{Effect}
use Rattle.plain_exchange.specs.Effects.{all_applied, state_of}
use Rattle.plain_exchange.specs.State.{State, empty}
use Rattle.recovery.specs.Damage.{IsBadBlock, IsDamagedAt, IsUnfit}
use Rattle.recovery.specs.Texts.{GivesState, IsTextOf}
use Rattle.recovery.proofs.Joining.{leads_more, no_text, text_more}

-- what cannot be where A holds, and cannot be where it does not, cannot be
cases : {A : Type 0} → ((A → ⊥) → ⊥) → (A → ⊥) → ⊥
cases else_so if_so = else_so if_so

-- the effects of a payload, where they fit
abbrev Fit : List ℕ → State → Type 0
Fit payload s = (fs : List Effect) × (t : State) × IsDecoded payload (Ok fs) × (all_applied fs s ≡ Some t)

unfit : (payload : List ℕ) (s : State) → (Fit payload s → ⊥) → IsUnfit payload s
unfit payload s none fs d = by_end (all_applied fs s) refl
  where
    by_end : (o : Option State) → all_applied fs s ≡ o → all_applied fs s ≡ None
    by_end None e = e
    by_end (Some t) e = absurd (none (fs, t, d, e))

module _ (image name : List ℕ) (named : IsName journal_names name) (no_state : (s : State) → GivesState image s → ⊥) (no_damage : (at : ℕ) → IsDamagedAt image at → ⊥) where
  damage : (payloads : List (List ℕ)) (effects : List Effect) (s : State) (rest : List ℕ) → IsTextOf payloads effects → state_of effects ≡ Some s → image ≡ front_of name payloads ++ rest → IsBadBlock rest s → ⊥
  damage payloads effects s rest text leads file bad = no_damage (end_of payloads) (inr (record {
    name = name;
    named = named;
    payloads = payloads;
    effects = effects;
    text = text;
    state = s;
    leads = leads;
    rest = rest;
    file = file;
    place = refl;
    bad = bad;
  }))

  walk : (n : ℕ) (payloads : List (List ℕ)) (effects : List Effect) (s : State) (rest : List ℕ) → length rest ≤ n → 1 ≤ length rest → IsTextOf payloads effects → state_of effects ≡ Some s → image ≡ front_of name payloads ++ rest → ⊥
  walk zero payloads effects s rest le some text leads file = omega (arith, le, some)
  walk (suc n) payloads effects s [] le some text leads file = omega (arith, some)
  walk (suc n) payloads effects s (g ∷ more) le some text leads file = elim (eqb_tells g 1) [
    | inr (e, closed) ↦ no_state s (record {
      effects = effects;
      has = record { payloads = payloads; stands = inl (record { name = name; named = named; gate = g; rest = more; closed = closed; file = file }); text = text };
      leads = leads;
    })
    | inl (e, is) ↦ cases {A = (payload : List ℕ) × HasBlock payload (g ∷ more)}
        (λ none. damage payloads effects s (g ∷ more) text leads file (inl (record { rest = more; there = ap (λ b. b ∷ more) is; none = λ payload has. none (payload, has) })))
        (λ (p : (payload : List ℕ) × HasBlock payload (g ∷ more)).
        let has = p.1 in
        cases {A = Fit p.0 s}
        (λ none. damage payloads effects s (g ∷ more) text leads file (inr (p.0, has, unfit p.0 s none)))
        (λ (f : Fit p.0 s).
        let behind = has.gate ∷ has.rest in
        let shorter : length behind ≤ n = omega (arith, le, ap length has.there, length-append (block_bytes p.0) behind) in
        walk n (payloads ++ p.0 ∷ []) (effects ++ f.0) f.1 behind shorter (omega arith) (text_more payloads p.0 effects f.0 text f.2) (leads_more effects f.0 s f.1 leads f.3)
        (file ∙ ap (λ l. front_of name payloads ++ l) has.there ∙ front_push name payloads p.0 behind)))
  ]

pub not_neither : (image : List ℕ) → ((s : State) → GivesState image s → ⊥) → ((at : ℕ) → IsDamagedAt image at → ⊥) → ⊥
not_neither image no_state no_damage = cases {A = IsTornCreation image}
    (λ whole. cases {A = (name : List ℕ) × (rest : List ℕ) × IsName journal_names name × (image ≡ 1 ∷ name ++ rest)}
    (λ none. no_damage 0 (inl (refl, record { whole = whole; none = λ name rest named e. none (name, rest, named, e) })))
    (λ (p : (name : List ℕ) × (rest : List ℕ) × IsName journal_names name × (image ≡ 1 ∷ name ++ rest)). begun image p.0 p.1 p.2 p.3 whole no_state no_damage))
    (λ torn. no_state empty (record { effects = []; has = record { payloads = []; stands = inr (refl, torn); text = no_text }; leads = refl }))
  where
    begun : (image name rest : List ℕ) → IsName journal_names name → image ≡ 1 ∷ name ++ rest → (IsTornCreation image → ⊥) → ((s : State) → GivesState image s → ⊥) → ((at : ℕ) → IsDamagedAt image at → ⊥) → ⊥
    begun image name [] named e whole no_state no_damage = whole (inl (omega (arith, ap length e, length-append name [], named.seven)))
    begun image name (g ∷ rest) named e whole no_state no_damage =
        walk image name named no_state no_damage (length (g ∷ rest)) [] [] empty (g ∷ rest) (omega arith) (omega arith) no_text refl (e ∙ ap (λ l. l ++ g ∷ rest) (first_front name))
