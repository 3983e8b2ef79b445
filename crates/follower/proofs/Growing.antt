-- What stays where whole blocks are appended.
use Rattle.std.proofs.Common.{◌≡◌, ◌≢◌, inl, inr, ℕ, ◌<◌, ◌^◌, List, [], ◌∷◌, ◌++◌, All, length, take, drop, get_or, refl, sym, ◌∙◌, ap, arith, append_assoc, length-append, length-drop, map}
use Rattle.std.specs.List.{flat_map}
use Rattle.std.proofs.lemmas.List.{take_at, drop_at}
use Rattle.std.proofs.lemmas.List.Elements.{All-head, All-tail}
use Rattle.effects.specs.Bytes.{IsEncodable, effects_bytes}
use Rattle.follower.specs.Following.{IsBehind, IsPart, IsUpTo, StandsIn}
use Rattle.follower.specs.Growing.{Appends, Grows}
use Rattle.follower.proofs.Standing.{same_block, same_effects}
use Rattle.journal_file.specs.Blocks.{IsTornCreation, block_bytes, front_of, journal_names, open_blocks}
use Rattle.journal_file.proofs.OneText.{one_text}
use Rattle.plain_exchange.specs.declared.changes.Effect.{Effect}
use Rattle.plain_exchange.specs.State.{State}
use Rattle.recovery.specs.Texts.{HasText}

abbrev Block : Type 0
Block = List ℕ

-- ---- bytes that begin with blocks

-- two blocks at the front are one, and so is what stands behind them
one_front : (p q x y : List ℕ) → length (block_bytes p ++ x) < 2 ^ 64 → block_bytes p ++ x ≡ block_bytes q ++ y → (p ≡ q) × (x ≡ y)
one_front p q x y small e =
    let same = same_block p q x y small e in
    (same, sym (drop_at (block_bytes p) x (length (block_bytes p)) refl) ∙ ap (drop (length (block_bytes p))) e ∙ drop_at (block_bytes q) y (length (block_bytes p)) (ap (λ l. length (block_bytes l)) (sym same)))

blocks_both : (ps qs : List Block) → open_blocks (ps ++ qs) ≡ open_blocks ps ++ open_blocks qs
unfolding open_blocks
blocks_both [] qs = refl
blocks_both (p ∷ ps) qs = ap (λ l. 1 ∷ block_bytes p ++ l) (blocks_both ps qs) ∙ sym (append_assoc (1 ∷ block_bytes p) (open_blocks ps) (open_blocks qs))

one_more : (p : Block) (ps : List Block) (x : List ℕ) → open_blocks (p ∷ ps) ++ x ≡ 1 ∷ (block_bytes p ++ (open_blocks ps ++ x))
unfolding open_blocks
one_more p ps x = ap (λ l. 1 ∷ l) (append_assoc (block_bytes p) (open_blocks ps) x)

none_more : (x : List ℕ) → open_blocks [] ++ x ≡ x
unfolding open_blocks
none_more x = refl

-- blocks up to a closed gate begin with any blocks that stand at their front
record Begins (ps qs : List Block) (behind rest : List ℕ) : Type 0 where
  more : List Block
  split : ps ≡ qs ++ more
  there : open_blocks more ++ behind ≡ rest

begins : (ps qs : List Block) (g : ℕ) (r s : List ℕ) → g ≢ 1 → length (open_blocks ps ++ g ∷ r) < 2 ^ 64 → open_blocks ps ++ g ∷ r ≡ open_blocks qs ++ s → Begins ps qs (g ∷ r) s
begins ps [] g r s shut small e = record { more = ps; split = refl; there = e ∙ none_more s }
begins [] (q ∷ qs) g r s shut small e = absurd (shut (ap (λ l. get_or l 0 0) (sym (none_more (g ∷ r)) ∙ e ∙ one_more q qs s)))
begins (p ∷ ps) (q ∷ qs) g r s shut small e =
    let x = open_blocks ps ++ g ∷ r in
    let y = open_blocks qs ++ s in
    let whole = one_more p ps (g ∷ r) in
    let behind : block_bytes p ++ x ≡ block_bytes q ++ y = ap (drop 1) (sym whole ∙ e ∙ one_more q qs s) in
    let long : length (block_bytes p ++ x) < 2 ^ 64 = omega (arith, small, ap length whole) in
    let same = one_front p q x y long behind in
    let rest = begins ps qs g r s shut (omega (arith, long, length-append (block_bytes p) x)) same.1 in
    record { more = rest.more; split = ap (λ l. l ∷ ps) same.0 ∙ ap (λ l. q ∷ l) rest.split; there = rest.there }

-- something stands there
some_byte : (ps : List Block) (g : ℕ) (r : List ℕ) → (next : ℕ) × (rest : List ℕ) × (open_blocks ps ++ g ∷ r ≡ next ∷ rest)
some_byte [] g r = (g, r, none_more (g ∷ r))
some_byte (p ∷ ps) g r = (1, block_bytes p ++ (open_blocks ps ++ g ∷ r), one_more p ps (g ∷ r))

-- ---- the front of a file

named_there : (name : List ℕ) (ps : List Block) (x image : List ℕ) → length name ≡ 7 → image ≡ front_of name ps ++ x → take 7 (drop 1 image) ≡ name
unfolding front_of
named_there name ps x image seven e = ap (λ l. take 7 (drop 1 l)) (e ∙ append_assoc (1 ∷ name) (open_blocks ps) x) ∙ take_at name (open_blocks ps ++ x) 7 seven

behind_name : (name : List ℕ) (ps : List Block) (x image : List ℕ) → length name ≡ 7 → image ≡ front_of name ps ++ x → drop 8 image ≡ open_blocks ps ++ x
unfolding front_of
behind_name name ps x image seven e = ap (drop 8) (e ∙ append_assoc (1 ∷ name) (open_blocks ps) x) ∙ drop_at (1 ∷ name) (open_blocks ps ++ x) 8 (omega (arith, seven))

front_both : (name : List ℕ) (ps qs : List Block) (x : List ℕ) → front_of name (ps ++ qs) ++ x ≡ front_of name ps ++ (open_blocks qs ++ x)
unfolding front_of
front_both name ps qs x =
    ap (λ l. (1 ∷ name ++ l) ++ x) (blocks_both ps qs) ∙ ap (λ l. l ++ x) (sym (append_assoc (1 ∷ name) (open_blocks ps) (open_blocks qs))) ∙ append_assoc (1 ∷ name ++ open_blocks ps) (open_blocks qs) x

-- ---- where a follower stands

-- a part of a block that is whole stays one
part_stays : (done : ℕ) (part : List Effect) (ps more : List Block) (g g' next next' : ℕ) (r r' rest rest' : List ℕ) → g ≢ 1 → length (next ∷ rest) < 2 ^ 64
    → open_blocks ps ++ g ∷ r ≡ next ∷ rest → open_blocks (ps ++ more) ++ g' ∷ r' ≡ next' ∷ rest' → IsPart done (next ∷ rest) part → IsPart done (next' ∷ rest') part
part_stays done part ps more g g' next next' r r' rest rest' shut small was now (inl none) = inl none
part_stays done part [] more g g' next next' r r' rest rest' shut small was now (inr (block, n, tail, encodable, there, le, is)) =
    absurd (shut (ap (λ l. get_or l 0 0) (sym (none_more (g ∷ r)) ∙ was ∙ there)))
part_stays done part (p ∷ ps) more g g' next next' r r' rest rest' shut small was now (inr (block, n, tail, encodable, there, le, is)) =
    let whole = one_more p ps (g ∷ r) in
    let behind : block_bytes p ++ (open_blocks ps ++ g ∷ r) ≡ block_bytes (effects_bytes block) ++ n ∷ tail = ap (drop 1) (sym whole ∙ was ∙ there) in
    let long : length (block_bytes p ++ (open_blocks ps ++ g ∷ r)) < 2 ^ 64 = omega (arith, small, ap length (sym whole ∙ was)) in
    let same = one_front p (effects_bytes block) (open_blocks ps ++ g ∷ r) (n ∷ tail) long behind in
    let (n', tail', e) = some_byte (ps ++ more) g' r' in
    let there' : next' ∷ rest' ≡ 1 ∷ (block_bytes (effects_bytes block) ++ n' ∷ tail') =
    sym now ∙ one_more p (ps ++ more) (g' ∷ r') ∙ ap (λ l. 1 ∷ (block_bytes p ++ l)) e ∙ ap (λ q. 1 ∷ (block_bytes q ++ n' ∷ tail')) same.0 in
    inr (block, n', tail', encodable, there', le, is)

behind_stays : (image image' : List ℕ) (gate done : ℕ) (effects : List Effect) → length image < 2 ^ 64 → Appends image image' → IsBehind image gate done effects → IsBehind image' gate done effects
behind_stays image image' gate done effects small a b =
    let old = a.before in
    let new = a.after in
    let x = behind_name old.name a.payloads (old.gate ∷ old.rest) image old.named.seven old.file in
    let y = behind_name b.name b.payloads (b.next ∷ b.rest) image b.named.seven b.file in
    let s = begins a.payloads b.payloads old.gate old.rest (b.next ∷ b.rest) old.closed (omega (arith, ap length (sym x), length-drop 8 image, small)) (sym x ∙ y) in
    let named : new.name ≡ b.name =
    a.named ∙ sym (named_there old.name a.payloads (old.gate ∷ old.rest) image old.named.seven old.file) ∙ named_there b.name b.payloads (b.next ∷ b.rest) image b.named.seven b.file in
    let payloads : a.payloads ++ a.more ≡ b.payloads ++ (s.more ++ a.more) = ap (λ l. l ++ a.more) s.split ∙ append_assoc b.payloads s.more a.more in
    let tail = new.gate ∷ new.rest in
    let (next, rest, e) = some_byte (s.more ++ a.more) new.gate new.rest in
    record {
      name = b.name;
      named = b.named;
      payloads = b.payloads;
      before = b.before;
      text = b.text;
      part = b.part;
      next = next;
      rest = rest;
      file = new.file
          ∙ ap (λ n. front_of n (a.payloads ++ a.more) ++ tail) named
          ∙ ap (λ l. front_of b.name l ++ tail) payloads
          ∙ front_both b.name b.payloads (s.more ++ a.more) tail
          ∙ ap (λ l. front_of b.name b.payloads ++ l) e;
      place = b.place;
      part_is = part_stays done b.part s.more a.more old.gate new.gate b.next next old.rest new.rest b.rest rest old.closed
          (omega (arith, ap length y, length-append (open_blocks b.payloads) (b.next ∷ b.rest), length-drop 8 image, small)) s.there e b.part_is;
      effects_are = b.effects_are;
    }

-- a creation that was not finished has no block
not_behind : (image : List ℕ) (gate done : ℕ) (effects : List Effect) → IsTornCreation image → IsBehind image gate done effects → ⊥
unfolding front_of
not_behind image gate done effects torn b = by_torn torn
  where
    whole : image ≡ 1 ∷ (b.name ++ (open_blocks b.payloads ++ b.next ∷ b.rest))
    whole = b.file ∙ append_assoc (1 ∷ b.name) (open_blocks b.payloads) (b.next ∷ b.rest)

    by_torn : IsTornCreation image → ⊥
    by_torn (inl lt) = omega (arith, lt, ap length whole, length-append b.name (open_blocks b.payloads ++ b.next ∷ b.rest), length-append (open_blocks b.payloads) (b.next ∷ b.rest), b.named.seven)
    by_torn (inr (nine, shut)) = shut (ap (λ l. get_or l 0 0) whole)

up_to_stays : (image image' : List ℕ) (gate done : ℕ) (effects : List Effect) → length image < 2 ^ 64 → Grows image image' → IsUpTo image gate done effects → IsUpTo image' gate done effects
up_to_stays image image' gate done effects small grows (inl none) = inl none
up_to_stays image image' gate done effects small (inl torn) (inr b) = absurd (not_behind image gate done effects torn b)
up_to_stays image image' gate done effects small (inr a) (inr b) = inr (behind_stays image image' gate done effects small a b)

pub stands_then : (image image' : List ℕ) → length image < 2 ^ 64 → Grows image image' → (s : State) (n gate done : ℕ) → StandsIn image s n gate done → StandsIn image' s n gate done
stands_then image image' small grows s n gate done at = record {
  effects = at.effects;
  leads = at.leads;
  counted = at.counted;
  up_to = up_to_stays image image' gate done at.effects small grows at.up_to;
}

-- ---- what an image says

abbrev flat : List (List Effect) → List Effect
flat blocks = flat_map (λ (block : List Effect). block) blocks

front_blocks : (bs cs : List (List Effect)) (more : List Block) → All (All IsEncodable) bs → All (All IsEncodable) cs → map effects_bytes cs ≡ map effects_bytes bs ++ more
    → (rest : List Effect) × (flat cs ≡ flat bs ++ rest)
front_blocks [] cs more eb ec e = (flat cs, refl)
front_blocks (b ∷ bs) [] more eb ec e = absurd (cc e)
front_blocks (b ∷ bs) (c ∷ cs) more eb ec e =
    let same : c ≡ b = same_effects c b (All-head (All IsEncodable) c cs ec) (All-head (All IsEncodable) b bs eb) (ap (λ l. get_or l 0 []) e) in
    let (rest, is) = front_blocks bs cs more (All-tail (All IsEncodable) b bs eb) (All-tail (All IsEncodable) c cs ec) (ap (drop 1) e) in
    (rest, ap (λ (l : List Effect). l ++ flat cs) same ∙ ap (λ (l : List Effect). b ++ l) is ∙ sym (append_assoc b (flat bs) rest))

no_blocks : (blocks : List (List Effect)) → map effects_bytes blocks ≡ [] → flat blocks ≡ []
no_blocks [] e = refl
no_blocks (b ∷ bs) e = absurd (cc e)

pub says_more : (image image' : List ℕ) → length image < 2 ^ 64 → length image' < 2 ^ 64 → Grows image image' → (es fs : List Effect) → HasText image es → HasText image' fs
    → (more : List Effect) × (fs ≡ es ++ more)
says_more image image' small small' (inl torn) es fs one two =
    let none : one.payloads ≡ [] = one_text journal_names one.payloads [] image small one.stands (inr (refl, torn)) in
    let empty : es ≡ [] = one.text.effects_are ∙ no_blocks one.text.blocks (sym one.text.payloads_are ∙ none) in
    (fs, ap (λ (l : List Effect). l ++ fs) (sym empty))
says_more image image' small small' (inr a) es fs one two =
    let was : one.payloads ≡ a.payloads = one_text journal_names one.payloads a.payloads image small one.stands (inl a.before) in
    let now : two.payloads ≡ a.payloads ++ a.more = one_text journal_names two.payloads (a.payloads ++ a.more) image' small' two.stands (inl a.after) in
    let t = one.text in
    let u = two.text in
    let (rest, is) = front_blocks t.blocks u.blocks a.more t.encodable u.encodable (sym u.payloads_are ∙ now ∙ ap (λ l. l ++ a.more) (sym was ∙ t.payloads_are)) in
    (rest, u.effects_are ∙ is ∙ ap (λ (l : List Effect). l ++ rest) (sym t.effects_are))
