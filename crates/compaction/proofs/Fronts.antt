-- What a journal begins with, and what its blocks say.
use Rattle.std.proofs.Common.{◌≡◌, inl, inr, ℕ, ◌<◌, All, List, [], ◌∷◌, ◌++◌, length, map, drop, get_or, refl, sym, ◌∙◌, ap, subst, arith, append_assoc, length-append}
use Rattle.std.specs.Prelude.{Ok, Some}
use Rattle.std.specs.List.{flat_map}
use Rattle.std.proofs.lemmas.List.Elements.{All-head, All-tail}
use Rattle.compaction.specs.Beside.{BeginsWith, HasFront, Says}
use Rattle.compaction.proofs.Walking.{text_then}
use Rattle.effects.specs.Bytes.{IsEncodable, effects_bytes}
use Rattle.effects.proofs.Sequences.{only_these}
use Rattle.journal_file.specs.Blocks.{HasBlocks, IsTornCreation, StandsFor, end_of, front_of, journal_names, open_blocks}
use Rattle.journal_file.specs.Damage.{IsShut}
use Rattle.journal_file.specs.Openings.{HasHeader}
use Rattle.journal_file.proofs.GateLemmas.{at_shut, behind, first_front}
use Rattle.journal_file.proofs.Writing.{front_long}
use Rattle.plain_exchange.specs.declared.changes.Effect.{Effect}
use Rattle.plain_exchange.specs.Effects.{all_applied}
use Rattle.plain_exchange.specs.State.{State}
use Rattle.recovery.specs.Damage.{IsBadBlock, IsDamagedAt}
use Rattle.recovery.specs.Texts.{IsTextOf}
use Rattle.recovery.proofs.Joining.{leads_more}

-- ---- fronts

not_torn : (payloads : List (List ℕ)) (image : List ℕ) → BeginsWith payloads image → IsTornCreation image → ⊥
unfolding front_of
not_torn payloads image b torn = by_torn torn
  where
    whole : image ≡ 1 ∷ (b.name ++ (open_blocks payloads ++ b.next ∷ b.rest))
    whole = b.file ∙ append_assoc (1 ∷ b.name) (open_blocks payloads) (b.next ∷ b.rest)

    by_torn : IsTornCreation image → ⊥
    by_torn (inl lt) = omega (arith, lt, ap length whole, length-append b.name (open_blocks payloads ++ b.next ∷ b.rest), length-append (open_blocks payloads) (b.next ∷ b.rest), b.named.seven)
    by_torn (inr (nine, shut)) = shut (ap (λ l. get_or l 0 0) whole)

pub head_begins : (image : List ℕ) → HasHeader journal_names image → 8 < length image → BeginsWith [] image
head_begins image has long = some has.rest refl
  where
    some : (rest : List ℕ) → has.rest ≡ rest → BeginsWith [] image
    some [] split = absurd (omega (arith, long, ap length has.file, length-append has.name has.rest, ap length split, has.named.seven))
    some (next ∷ rest) split = record {
      name = has.name;
      named = has.named;
      next = next;
      rest = rest;
      file = has.file ∙ ap (λ l. 1 ∷ has.name ++ l) split ∙ ap (λ l. l ++ next ∷ rest) (first_front has.name);
    }

pub front_begins : (payloads : List (List ℕ)) (image : List ℕ) → HasHeader journal_names image × (8 < length image) → HasFront payloads image → BeginsWith payloads image
front_begins payloads image head (inl b) = b
front_begins payloads image head (inr (none, torn)) = subst (λ l. BeginsWith l image) (sym none) (head_begins image head.0 head.1)

pub whole_front : (payloads : List (List ℕ)) (image : List ℕ) (gate : ℕ) → gate ≡ end_of payloads → BeginsWith payloads image → IsShut (drop gate image) → HasBlocks journal_names payloads image
whole_front payloads image gate is b shut =
    let inside : gate < length image = omega (arith, ap length b.file, length-append (front_of b.name payloads) (b.next ∷ b.rest), front_long b.name payloads b.named.seven, is) in
    at_shut journal_names b.name payloads image (b.next ∷ b.rest) gate b.named is b.file inside shut

pub torn_stands : (payloads : List (List ℕ)) (image : List ℕ) → IsTornCreation image → HasFront payloads image → StandsFor journal_names (payloads ++ []) image
torn_stands payloads image torn (inl b) = absurd (not_torn payloads image b torn)
torn_stands payloads image torn (inr (none, same)) = inr (ap (λ l. l ++ []) none, torn)

pub stands_front : (payloads : List (List ℕ)) (image : List ℕ) → StandsFor journal_names payloads image → HasFront payloads image
stands_front payloads image (inl h) = inl (record { name = h.name; named = h.named; next = h.gate; rest = h.rest; file = h.file })
stands_front payloads image (inr torn) = inr torn

pub bad_damages : (payloads : List (List ℕ)) (image : List ℕ) (at : ℕ) (s : State) → Says payloads s → at ≡ end_of payloads → BeginsWith payloads image → IsBadBlock (drop at image) s → IsDamagedAt image at
bad_damages payloads image at s says is b bad = inr (record {
  name = b.name;
  named = b.named;
  payloads = payloads;
  effects = says.effects;
  text = says.text;
  state = s;
  leads = says.leads;
  rest = b.next ∷ b.rest;
  file = b.file;
  place = is;
  bad = subst (λ l. IsBadBlock l s) (behind journal_names b.name payloads image (b.next ∷ b.rest) at b.named is b.file) bad;
})

-- ---- texts

pub says_then : (ps qs : List (List ℕ)) (s t : State) (gained : List Effect) → Says ps s → IsTextOf qs gained → all_applied gained s ≡ Some t → Says (ps ++ qs) t
says_then ps qs s t gained says text applied = record {
  effects = says.effects ++ gained;
  text = text_then ps qs says.effects gained says.text text;
  leads = leads_more says.effects gained s t says.leads applied;
}

same_effects : (b c : List Effect) → All IsEncodable b → All IsEncodable c → effects_bytes b ≡ effects_bytes c → b ≡ c
same_effects b c v w e = only_these c (Ok b) w (v, sym e)

same_blocks : (bs cs : List (List Effect)) → All (All IsEncodable) bs → All (All IsEncodable) cs → map effects_bytes bs ≡ map effects_bytes cs → bs ≡ cs
same_blocks [] [] eb ec e = refl
same_blocks [] (c ∷ cs) eb ec e = absurd (omega (arith, ap length e))
same_blocks (b ∷ bs) [] eb ec e = absurd (omega (arith, ap length e))
same_blocks (b ∷ bs) (c ∷ cs) eb ec e =
    let one = same_effects b c (All-head (All IsEncodable) b bs eb) (All-head (All IsEncodable) c cs ec) (ap (λ l. get_or l 0 []) e) in
    let more = same_blocks bs cs (All-tail (All IsEncodable) b bs eb) (All-tail (All IsEncodable) c cs ec) (ap (drop 1) e) in
    ap (λ (x : List Effect). x ∷ bs) one ∙ ap (λ l. c ∷ l) more

abbrev flat : List (List Effect) → List Effect
flat blocks = flat_map (λ (block : List Effect). block) blocks

pub same_text : (payloads : List (List ℕ)) (es fs : List Effect) → IsTextOf payloads es → IsTextOf payloads fs → es ≡ fs
same_text payloads es fs t u = t.effects_are ∙ ap flat (same_blocks t.blocks u.blocks t.encodable u.encodable (sym t.payloads_are ∙ u.payloads_are)) ∙ sym u.effects_are
