-- An image has one reading: where it stops is known, and so are the blocks before.
use Rattle.std.proofs.Common.{◌≡◌, ◌≢◌, ◌⊎◌, inl, inr, ℕ, ◌+◌, ◌<◌, ◌≤◌, ◌^◌, List, [], ◌∷◌, ◌++◌, All, length, map, take, drop, get_or, refl, sym, ◌∙◌, ap, subst, arith, append_assoc, length-append, length-drop, Some, None}
use Rattle.std.specs.List.{flat_map}
use Rattle.std.specs.Prelude.{Ok}
use Rattle.std.proofs.lemmas.List.{take_at, drop_at}
use Rattle.std.proofs.lemmas.List.Elements.{All-head, All-tail}
use Rattle.std.proofs.lemmas.Option.{option_and_then_some}
use Rattle.byte_fields.specs.Encodings.{FitsEight, eight_bytes}
use Rattle.byte_fields.proofs.Numbers.{eight_code, length-eight}
use Rattle.effects.specs.Bytes.{IsDecoded, IsEncodable, effects_bytes}
use Rattle.effects.proofs.Sequences.{only_these}
use Rattle.journal_file.specs.Blocks.{HasBlocks, IsTornCreation, block_bytes, end_of, front_of, journal_names, open_blocks}
use Rattle.journal_file.specs.Damage.{HasBlock, IsForeign}
use Rattle.journal_file.proofs.OneText.{one_text}
use Rattle.plain_exchange.specs.declared.changes.Effect.{Effect}
use Rattle.plain_exchange.specs.Effects.{all_applied, state_of}
use Rattle.plain_exchange.specs.State.{State, empty}
use Rattle.plain_exchange.proofs.Applying.{all_applied_both}
use Rattle.recovery.specs.Damage.{IsBadBlock, IsDamagedAt, IsDamagedBehind}
use Rattle.recovery.specs.Texts.{GivesState, IsTextOf}

first : (g h : ℕ) (r s : List ℕ) → g ∷ r ≡ h ∷ s → g ≡ h
first g h r s e = ap (λ l. get_or l 0 0) e

pub head_of : (xs : List ℕ) → 1 ≤ length xs → (g : ℕ) × (rest : List ℕ) × (xs ≡ g ∷ rest)
head_of [] le = absurd (omega (arith, le))
head_of (g ∷ rest) le = (g, rest, refl)

-- ---- blocks

same_block : (p q x y : List ℕ) → length (block_bytes p ++ x) < 2 ^ 64 → block_bytes p ++ x ≡ block_bytes q ++ y → (p ≡ q) × (x ≡ y)
unfolding block_bytes
same_block p q x y small e =
    let apart = append_assoc (eight_bytes (length p)) p x in
    let apart2 = append_assoc (eight_bytes (length q)) q y in
    let a : eight_bytes (length p) ++ (p ++ x) ≡ eight_bytes (length q) ++ (q ++ y) = sym apart ∙ e ∙ apart2 in
    let sizes : length (block_bytes p ++ x) ≡ 8 + (length p + length x) = omega (arith, ap length apart, length-append (eight_bytes (length p)) (p ++ x), length-append p x, length-eight (length p)) in
    let sizes2 : length (block_bytes q ++ y) ≡ 8 + (length q + length y) = omega (arith, ap length apart2, length-append (eight_bytes (length q)) (q ++ y), length-append q y, length-eight (length q)) in
    let fits : FitsEight (length p) = omega (arith, sizes, small) in
    let fits2 : FitsEight (length q) = omega (arith, sizes2, ap length e, small) in
    let same = eight_code.unique (length p) (length q) (p ++ x) (q ++ y) fits fits2 a in (
      sym (take_at p x (length p) refl) ∙ ap (take (length p)) same.1 ∙ take_at q y (length p) (sym same.0),
      sym (drop_at p x (length p) refl) ∙ ap (drop (length p)) same.1 ∙ drop_at q y (length p) (sym same.0),
    )

same_effects : (b c : List Effect) → All IsEncodable b → All IsEncodable c → effects_bytes b ≡ effects_bytes c → b ≡ c
same_effects b c v w e = only_these c (Ok b) w (v, sym e)

same_blocks : (bs cs : List (List Effect)) → All (All IsEncodable) bs → All (All IsEncodable) cs → map effects_bytes bs ≡ map effects_bytes cs → bs ≡ cs
same_blocks [] [] v w e = refl
same_blocks [] (c ∷ cs) v w e = absurd (cc e)
same_blocks (b ∷ bs) [] v w e = absurd (cc e)
same_blocks (b ∷ bs) (c ∷ cs) v w e =
    let head : effects_bytes b ≡ effects_bytes c = cc in
    let tail : map effects_bytes bs ≡ map effects_bytes cs = cc in
    let one = same_effects b c (All-head (All IsEncodable) b bs v) (All-head (All IsEncodable) c cs w) head in
    let more = same_blocks bs cs (All-tail (All IsEncodable) b bs v) (All-tail (All IsEncodable) c cs w) tail in
    cc (one, more)

abbrev flat : List (List Effect) → List Effect
flat blocks = flat_map (λ (block : List Effect). block) blocks

-- ---- where a reading stops: no block behind goes on

record IsStop (rest : List ℕ) (s : State) : Type 0 where
  some : 1 ≤ length rest
  none : (payload : List ℕ) (fs : List Effect) (t : State) → HasBlock payload rest → IsDecoded payload (Ok fs) → all_applied fs s ≡ Some t → ⊥

shut_stops : (g : ℕ) (more : List ℕ) (s : State) → g ≢ 1 → IsStop (g ∷ more) s
shut_stops g more s closed = record { some = omega arith; none = λ payload fs t has d a. closed (first g 1 more _ has.there) }

bad_stops : (rest : List ℕ) (s : State) → length rest < 2 ^ 64 → IsBadBlock rest s → IsStop rest s
bad_stops rest s small (inl cut) = record { some = omega (arith, ap length cut.there); none = λ payload fs t has d a. cut.none payload has }
bad_stops rest s small (inr (p, has, unfit)) = record {
  some = omega (arith, ap length has.there);
  none = λ payload fs t other d a.
      let e : block_bytes p ++ has.gate ∷ has.rest ≡ block_bytes payload ++ other.gate ∷ other.rest = ap (drop 1) (sym has.there ∙ other.there) in
      let same = same_block p payload _ _ (omega (arith, ap length has.there, small)) e in
      let none : all_applied fs s ≡ None = unfit fs (subst (λ l. IsDecoded l (Ok fs)) (sym same.0) d) in
      absurd (cc (none, a));
}

bad_open : (rest : List ℕ) (s : State) → IsBadBlock rest s → (more : List ℕ) × (rest ≡ 1 ∷ more)
bad_open rest s (inl cut) = (cut.rest, cut.there)
bad_open rest s (inr (p, has, unfit)) = (block_bytes p ++ has.gate ∷ has.rest, has.there)

split_applied : (es fs : List Effect) (s u : State) → all_applied (es ++ fs) s ≡ Some u → (t : State) × (all_applied es s ≡ Some t) × (all_applied fs t ≡ Some u)
split_applied es fs s u e = option_and_then_some (all_applied fs) (all_applied es s) u (sym (all_applied_both es fs s) ∙ e) (λ t one rest. (t, one, rest))

-- a block that goes on where a reading stops
goes_on : (c : List Effect) (more x y : List ℕ) (s t : State) → All IsEncodable c → x ≡ (1 ∷ block_bytes (effects_bytes c) ++ more) ++ y → 1 ≤ length y → all_applied c s ≡ Some t → IsStop x s → ⊥
goes_on c more x y s t v e some a stop =
    let (g, behind, split) = head_of (more ++ y) (omega (arith, length-append more y, some)) in
    let there : x ≡ 1 ∷ (block_bytes (effects_bytes c) ++ g ∷ behind) = e ∙ ap (λ l. 1 ∷ l) (append_assoc (block_bytes (effects_bytes c)) more y ∙ ap (λ l. block_bytes (effects_bytes c) ++ l) split) in
    stop.none (effects_bytes c) c t (record { gate = g; rest = behind; there = there }) (v, refl) a

same_walk : (bs cs : List (List Effect)) (s u v : State) (x y : List ℕ) → All (All IsEncodable) bs → All (All IsEncodable) cs → length (open_blocks (map effects_bytes bs) ++ x) < 2 ^ 64
    → open_blocks (map effects_bytes bs) ++ x ≡ open_blocks (map effects_bytes cs) ++ y → all_applied (flat bs) s ≡ Some u → all_applied (flat cs) s ≡ Some v → IsStop x u → IsStop y v → (bs ≡ cs) × (x ≡ y)
unfolding open_blocks
same_walk [] [] s u v x y eb ec small e a b stop stop2 = (refl, e)
same_walk [] (c ∷ cs) s u v x y eb ec small e a b stop stop2 =
    let (t, one, rest) = split_applied c (flat cs) s v b in
    let here : s ≡ u = cc (a) in
    absurd (goes_on c (open_blocks (map effects_bytes cs)) x y s t (All-head (All IsEncodable) c cs ec) e stop2.some one (subst (IsStop x) (sym here) stop))
same_walk (b ∷ bs) [] s u v x y eb ec small e a a2 stop stop2 =
    let (t, one, rest) = split_applied b (flat bs) s u a in
    let here : s ≡ v = cc (a2) in
    absurd (goes_on b (open_blocks (map effects_bytes bs)) y x s t (All-head (All IsEncodable) b bs eb) (sym e) stop.some one (subst (IsStop y) (sym here) stop2))
same_walk (b ∷ bs) (c ∷ cs) s u v x y eb ec small e a a2 stop stop2 =
    let p = effects_bytes b in
    let q = effects_bytes c in
    let ps = open_blocks (map effects_bytes bs) in
    let qs = open_blocks (map effects_bytes cs) in
    let apart = append_assoc (block_bytes p) ps x in
    let behind : block_bytes p ++ (ps ++ x) ≡ block_bytes q ++ (qs ++ y) = sym apart ∙ ap (drop 1) e ∙ append_assoc (block_bytes q) qs y in
    let long : length (block_bytes p ++ (ps ++ x)) < 2 ^ 64 = omega (arith, ap length apart, small) in
    let same = same_block p q (ps ++ x) (qs ++ y) long behind in
    let one = same_effects b c (All-head (All IsEncodable) b bs eb) (All-head (All IsEncodable) c cs ec) same.0 in
    let (t, first_b, rest_b) = split_applied b (flat bs) s u a in
    let (t2, first_c, rest_c) = split_applied c (flat cs) s v a2 in
    let reached : t2 ≡ t = cc (one, first_b, first_c) in
    let more = same_walk bs cs t u v x y (All-tail (All IsEncodable) b bs eb) (All-tail (All IsEncodable) c cs ec) (omega (arith, long, length-append (block_bytes p) (ps ++ x))) same.1 rest_b (subst (λ k. all_applied (flat cs) k ≡ Some v) reached rest_c) stop stop2 in
    let blocks = more.0 in
    (cc (one, blocks), more.1)

-- ---- one state

same_text : (payloads : List (List ℕ)) (es fs : List Effect) → IsTextOf payloads es → IsTextOf payloads fs → es ≡ fs
same_text payloads es fs t u = t.effects_are ∙ ap flat (same_blocks t.blocks u.blocks t.encodable u.encodable (sym t.payloads_are ∙ u.payloads_are)) ∙ sym u.effects_are

pub one_state : (image : List ℕ) (s t : State) → length image < 2 ^ 64 → GivesState image s → GivesState image t → s ≡ t
one_state image s t small g h =
    let payloads : h.has.payloads ≡ g.has.payloads = one_text journal_names h.has.payloads g.has.payloads image small h.has.stands g.has.stands in
    let same = same_text g.has.payloads g.effects h.effects g.has.text (subst (λ ps. IsTextOf ps h.effects) payloads h.has.text) in
    let e : Some s ≡ Some t = sym g.leads ∙ ap state_of same ∙ h.leads in
    cc (e)

-- ---- one place

-- a file gate, a name and blocks of payloads in which effects stand, up to some rest
record Front (image : List ℕ) (rest : List ℕ) (payloads : List (List ℕ)) (s : State) : Type 0 where
  name : List ℕ
  seven : length name ≡ 7
  effects : List Effect
  text : IsTextOf payloads effects
  leads : state_of effects ≡ Some s
  file : image ≡ front_of name payloads ++ rest

whole_file : (name : List ℕ) (payloads : List (List ℕ)) (rest image : List ℕ) → image ≡ front_of name payloads ++ rest → image ≡ 1 ∷ name ++ (open_blocks payloads ++ rest)
unfolding front_of
whole_file name payloads rest image e = e ∙ append_assoc (1 ∷ name) (open_blocks payloads) rest

behind_name : (image rest : List ℕ) (payloads : List (List ℕ)) (s : State) → Front image rest payloads s → drop 8 image ≡ open_blocks payloads ++ rest
behind_name image rest payloads s f = ap (drop 8) (whole_file f.name payloads rest image f.file) ∙ drop_at (1 ∷ f.name) (open_blocks payloads ++ rest) 8 (omega (arith, f.seven))

same_front : (image x y : List ℕ) (ps qs : List (List ℕ)) (s t : State) → length image < 2 ^ 64 → Front image x ps s → Front image y qs t → IsStop x s → IsStop y t → (ps ≡ qs) × (x ≡ y)
same_front image x y ps qs s t small f h stop stop2 =
    let e = sym (behind_name image x ps s f) ∙ behind_name image y qs t h in
    let a : open_blocks ps ++ x ≡ open_blocks (map effects_bytes f.text.blocks) ++ x = ap (λ l. open_blocks l ++ x) f.text.payloads_are in
    let b : open_blocks qs ++ y ≡ open_blocks (map effects_bytes h.text.blocks) ++ y = ap (λ l. open_blocks l ++ y) h.text.payloads_are in
    let long : length (open_blocks (map effects_bytes f.text.blocks) ++ x) < 2 ^ 64 = omega (arith, ap length a, ap length (behind_name image x ps s f), length-drop 8 image, small) in
    let same = same_walk f.text.blocks h.text.blocks empty s t x y f.text.encodable h.text.encodable long (sym a ∙ e ∙ b) (ap (λ l. all_applied l empty) (sym f.text.effects_are) ∙ f.leads) (ap (λ l. all_applied l empty) (sym h.text.effects_are) ∙ h.leads) stop stop2 in
    (f.text.payloads_are ∙ ap (map effects_bytes) same.0 ∙ sym h.text.payloads_are, same.1)

damaged_front : (image : List ℕ) (at : ℕ) (d : IsDamagedBehind image at) → Front image d.rest d.payloads d.state
damaged_front image at d = record { name = d.name; seven = d.named.seven; effects = d.effects; text = d.text; leads = d.leads; file = d.file }

rest_small : (image : List ℕ) (at : ℕ) (d : IsDamagedBehind image at) → length image < 2 ^ 64 → length d.rest < 2 ^ 64
rest_small image at d small = omega (arith, ap length d.file, length-append (front_of d.name d.payloads) d.rest, small)

damaged_stops : (image : List ℕ) (at : ℕ) (d : IsDamagedBehind image at) → length image < 2 ^ 64 → IsStop d.rest d.state
damaged_stops image at d small = bad_stops d.rest d.state (rest_small image at d small) d.bad

not_foreign : (image : List ℕ) (at : ℕ) → IsForeign journal_names image → IsDamagedBehind image at → ⊥
not_foreign image at foreign d = foreign.none d.name (open_blocks d.payloads ++ d.rest) d.named (whole_file d.name d.payloads d.rest image d.file)

pub one_place : (image : List ℕ) (a b : ℕ) → length image < 2 ^ 64 → IsDamagedAt image a → IsDamagedAt image b → a ≡ b
one_place image a b small (inl f) (inl h) = f.0 ∙ sym h.0
one_place image a b small (inl f) (inr d) = absurd (not_foreign image b f.1 d)
one_place image a b small (inr d) (inl f) = absurd (not_foreign image a f.1 d)
one_place image a b small (inr d) (inr e) =
    let same = same_front image d.rest e.rest d.payloads e.payloads d.state e.state small (damaged_front image a d) (damaged_front image b e) (damaged_stops image a d small) (damaged_stops image b e small) in
    d.place ∙ ap end_of same.0 ∙ sym e.place

-- ---- not both

not_torn : (image : List ℕ) (at : ℕ) → IsTornCreation image → IsDamagedBehind image at → ⊥
not_torn image at torn d =
    let whole = whole_file d.name d.payloads d.rest image d.file in
    let some = bad_open d.rest d.state d.bad in
    let long : 9 ≤ length image = omega (arith, ap length whole, length-append d.name (open_blocks d.payloads ++ d.rest), length-append (open_blocks d.payloads) d.rest, d.named.seven, ap length some.1) in
    by_torn torn whole long
  where
    by_torn : {image more : List ℕ} → IsTornCreation image → image ≡ 1 ∷ more → 9 ≤ length image → ⊥
    by_torn (inl lt) e long = omega (arith, lt, long)
    by_torn (inr (nine, shut)) e long = shut (ap (λ l. get_or l 0 0) e)

not_blocks : (image : List ℕ) (s : State) (at : ℕ) (payloads : List (List ℕ)) (effects : List Effect) → length image < 2 ^ 64 → HasBlocks journal_names payloads image → IsTextOf payloads effects → state_of effects ≡ Some s → IsDamagedBehind image at → ⊥
not_blocks image s at payloads effects small has text leads d =
    let front : Front image (has.gate ∷ has.rest) payloads s = record { name = has.name; seven = has.named.seven; effects = effects; text = text; leads = leads; file = has.file } in
    let same = same_front image (has.gate ∷ has.rest) d.rest payloads d.payloads s d.state small front (damaged_front image at d) (shut_stops has.gate has.rest s has.closed) (damaged_stops image at d small) in
    let some = bad_open d.rest d.state d.bad in
    has.closed (first has.gate 1 has.rest some.0 (same.1 ∙ some.1))

by_kind : (image : List ℕ) (s : State) (at : ℕ) (payloads : List (List ℕ)) (effects : List Effect) → length image < 2 ^ 64 → HasBlocks journal_names payloads image ⊎ ((payloads ≡ []) × IsTornCreation image) → IsTextOf payloads effects → state_of effects ≡ Some s → IsDamagedAt image at → ⊥
by_kind image s at payloads effects small (inl has) text leads (inl f) = f.1.none has.name (open_blocks payloads ++ has.gate ∷ has.rest) has.named (whole_file has.name payloads (has.gate ∷ has.rest) image has.file)
by_kind image s at payloads effects small (inl has) text leads (inr d) = not_blocks image s at payloads effects small has text leads d
by_kind image s at payloads effects small (inr torn) text leads (inl f) = f.1.whole torn.1
by_kind image s at payloads effects small (inr torn) text leads (inr d) = not_torn image at torn.1 d

pub not_both : (image : List ℕ) (s : State) (at : ℕ) → length image < 2 ^ 64 → GivesState image s → IsDamagedAt image at → ⊥
not_both image s at small g d = by_kind image s at g.has.payloads g.effects small g.has.stands g.has.text g.leads d
