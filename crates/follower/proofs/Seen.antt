-- Steps of a catching up, by what the disk showed in them.
use Rattle.std.proofs.Common.{◌≡◌, inl, inr, ℕ, ◌+◌, ◌-◌, ◌<◌, ◌≤◌, List, [], ◌∷◌, ◌++◌, length, take, drop, Bool, true, false, Some, None, refl, sym, ◌∙◌, ap, subst, arith, append_assoc, length-append, length-drop, take-append-drop}
use Rattle.std.specs.Prelude.{◌⊎◌, Option, Result, Ok, Err, not, option_and_then}
use Rattle.std.proofs.lemmas.List.{append-nil, drop-drop, drop_at, length-take-le, take_all}
use Rattle.auction_core.specs.declared.fault.ApplyFault.{ApplyFault}
use Rattle.auction_core.specs.declared.fault.ApplyFault.TheVariants as apply
use Rattle.effects.specs.Bytes.{IsDecoded}
use Rattle.follower.specs.Following.{IsShownBy, Lead}
use Rattle.follower.specs.Moving.{AreWhole, IsBegun, IsBlockAlone, IsOpenAlone, IsRefused, IsTurn, Moves, Passes, Spot, spot}
use Rattle.follower.specs.Passing.{IsCarried, begins_shut, at_gate}
use Rattle.follower.specs.Seen.{AreCarried, AreFrom, AreOfBlock, IsSeen, SeesBadBlock, SeesEnd, SeesHead, Since, StartsAt}
use Rattle.follower.specs.declared.follower.Follower.{Follower}
use Rattle.follower.proofs.Effects.{none_led}
use Rattle.follower.proofs.Standing.{same_effects}
use Rattle.journal_file.proofs.Shown.{at_behind, end_behind, none_short, shows_at, shows_before, was_before, was_behind, was_first}
use Rattle.journal_file.specs.Blocks.{block_bytes}
use Rattle.journal_file.specs.Damage.{HasBlock}
use Rattle.journal_file.specs.Shows.{IsBlockShown, IsShownAt, ShowsBlock, ShowsCut, ShowsMore, ShowsShort, ShowsShut, TellsCut, WasShown}
use Rattle.journal_file.specs.declared.faults.JournalFault.{JournalFault}
use Rattle.journal_file.specs.declared.faults.JournalFault.TheVariants as fault
use Rattle.plain_exchange.specs.declared.changes.Effect.{Effect}
use Rattle.plain_exchange.specs.Effects.{all_applied}
use Rattle.plain_exchange.specs.State.{State}
use Rattle.plain_exchange.proofs.Applying.{all_applied_both}
use Rattle.rtb_disk.specs.Showing.{Shown, bytes_from, length_was}

-- ---- more calls show no less

pub since_behind : {P : List Shown → Type 0} (t s : List Shown) → Since P s → Since P (t ++ s)
since_behind t s (earlier, since, split, p) = (t ++ earlier, since, ap (λ l. t ++ l) split ∙ sym (append_assoc t earlier since), p)

block_before : (gate : ℕ) (payload : List ℕ) (s t : List Shown) → ShowsBlock gate payload s → ShowsBlock gate payload (s ++ t)
block_before gate payload s t b = record {
  gate_open = record { first = b.gate_open.first; later = b.gate_open.later ++ t; begins = ap (λ l. l ++ t) b.gate_open.begins; is_open = b.gate_open.is_open };
  block = shows_before s t gate (1 ∷ block_bytes payload) b.block;
}

seen_before : (s t : List Shown) (gate : ℕ) (payload : List ℕ) (block : List Effect) → IsSeen s gate payload block → IsSeen (s ++ t) gate payload block
seen_before s t gate payload block ((earlier, since, split, b), d) =
    ((earlier, since ++ t, ap (λ l. l ++ t) split ∙ append_assoc earlier since t, block_before gate payload since t b), d)

seen_behind : (t s : List Shown) (gate : ℕ) (payload : List ℕ) (block : List Effect) → IsSeen s gate payload block → IsSeen (t ++ s) gate payload block
seen_behind t s gate payload block (b, d) = (since_behind t s b, d)

head_before : (P : List ℕ → Type 0) (s t : List Shown) → SeesHead P s → SeesHead P (s ++ t)
head_before P s t (head, was, p) = (head, was_before s t (bytes_from 0 10 head) was, p)

pub head_behind : (P : List ℕ → Type 0) (t s : List Shown) → SeesHead P s → SeesHead P (t ++ s)
head_behind P t s (head, was, p) = (head, was_behind t s (bytes_from 0 10 head) was, p)

shut_behind : (t s : List Shown) (gate : ℕ) → ShowsShut gate s → ShowsShut gate (t ++ s)
shut_behind t s gate (inl e) = inl (end_behind t s gate e)
shut_behind t s gate (inr (byte, not_one, a)) = inr (byte, not_one, at_behind t s gate (byte ∷ []) a)

bad_behind : (t s : List Shown) (gate done : ℕ) (state : State) → SeesBadBlock s gate done state → SeesBadBlock (t ++ s) gate done state
bad_behind t s gate done state (inl cut) = inl (since_behind t s cut)
bad_behind t s gate done state (inr (payload, b, unfit)) = inr (payload, since_behind t s b, unfit)

-- ---- effects of blocks, one behind the other

whole_before : (s t : List Shown) (gate done : ℕ) (blocks : List (List Effect)) (es : List Effect) (gate' done' : ℕ) → AreWhole s gate done blocks es gate' done' → AreWhole (s ++ t) gate done blocks es gate' done'
whole_before s t gate done [] es gate' done' a = a
whole_before s t gate done (block ∷ blocks) es gate' done' (payload, more, seen, e, a) =
    (payload, more, seen_before s t gate payload block seen, e, whole_before s t (gate + 9 + length payload) 0 blocks more gate' done' a)

whole_behind : (t s : List Shown) (gate done : ℕ) (blocks : List (List Effect)) (es : List Effect) (gate' done' : ℕ) → AreWhole s gate done blocks es gate' done' → AreWhole (t ++ s) gate done blocks es gate' done'
whole_behind t s gate done [] es gate' done' a = a
whole_behind t s gate done (block ∷ blocks) es gate' done' (payload, more, seen, e, a) =
    (payload, more, seen_behind t s gate payload block seen, e, whole_behind t s (gate + 9 + length payload) 0 blocks more gate' done' a)

of_block_behind : (t s : List Shown) (gate done : ℕ) (es : List Effect) (done' : ℕ) → AreOfBlock s gate done es done' → AreOfBlock (t ++ s) gate done es done'
of_block_behind t s gate done es done' (place, inl none) = (place, inl none)
of_block_behind t s gate done es done' (place, inr (payload, block, left, seen, e)) = (place, inr (payload, block, left, seen_behind t s gate payload block seen, e))

from_behind : (t s : List Shown) (gate done : ℕ) (blocks : List (List Effect)) (es : List Effect) (gate' done' : ℕ) → AreFrom s gate done blocks es gate' done' → AreFrom (t ++ s) gate done blocks es gate' done'
from_behind t s gate done [] es gate' done' (place, a) = (place, of_block_behind t s gate done es done' a)
from_behind t s gate done (block ∷ blocks) es gate' done' (payload, more, seen, e, a) =
    (payload, more, seen_behind t s gate payload block seen, e, from_behind t s (gate + 9 + length payload) 0 blocks more gate' done' a)

whole_from : (s : List Shown) (gate done : ℕ) (blocks : List (List Effect)) (es : List Effect) (gate' done' : ℕ) → AreWhole s gate done blocks es gate' done' → AreFrom s gate done blocks es gate' done'
whole_from s gate done [] es gate' done' (place, same, none) = (place, (omega (arith, same, ap length none), inl none))
whole_from s gate done (block ∷ blocks) es gate' done' (payload, more, seen, e, a) = (payload, more, seen, e, whole_from s (gate + 9 + length payload) 0 blocks more gate' done' a)

whole_then : (s : List Shown) (gate done : ℕ) (blocks behind : List (List Effect)) (es fs : List Effect) (gate' done' gate'' done'' : ℕ) → AreWhole s gate done blocks es gate' done' → AreWhole s gate' done' behind fs gate'' done'' → AreWhole s gate done (blocks ++ behind) (es ++ fs) gate'' done''
whole_then s gate done [] behind es fs gate' done' gate'' done'' (place, same, none) b =
    subst (λ (l : List Effect). AreWhole s gate done behind (l ++ fs) gate'' done'') (sym none) (subst (λ d. AreWhole s gate d behind fs gate'' done'') same (subst (λ g. AreWhole s g done' behind fs gate'' done'') place b))
whole_then s gate done (block ∷ blocks) behind es fs gate' done' gate'' done'' (payload, more, seen, e, a) b = (
  payload,
  more ++ fs,
  seen,
  ap (λ (l : List Effect). l ++ fs) e ∙ append_assoc (drop done block) more fs,
  whole_then s (gate + 9 + length payload) 0 blocks behind more fs gate' done' gate'' done'' a b,
)

from_then : (s : List Shown) (gate done : ℕ) (blocks behind : List (List Effect)) (es fs : List Effect) (gate' done' gate'' done'' : ℕ) → AreWhole s gate done blocks es gate' done' → AreFrom s gate' done' behind fs gate'' done'' → AreFrom s gate done (blocks ++ behind) (es ++ fs) gate'' done''
from_then s gate done [] behind es fs gate' done' gate'' done'' (place, same, none) b =
    subst (λ (l : List Effect). AreFrom s gate done behind (l ++ fs) gate'' done'') (sym none) (subst (λ d. AreFrom s gate d behind fs gate'' done'') same (subst (λ g. AreFrom s g done' behind fs gate'' done'') place b))
from_then s gate done (block ∷ blocks) behind es fs gate' done' gate'' done'' (payload, more, seen, e, a) b = (
  payload,
  more ++ fs,
  seen,
  ap (λ (l : List Effect). l ++ fs) e ∙ append_assoc (drop done block) more fs,
  from_then s (gate + 9 + length payload) 0 blocks behind more fs gate' done' gate'' done'' a b,
)

lead_then : (s t u : State) (n m k : ℕ) (es fs : List Effect) → Lead s t n m es → Lead t u m k fs → Lead s u n k (es ++ fs)
lead_then s t u n m k es fs a b = record {
  applied = all_applied_both es fs s ∙ ap (option_and_then (all_applied fs)) a.applied ∙ b.applied;
  counted = b.counted ∙ omega (arith, a.counted, length-append es fs);
}

-- ---- steps

pub passes_none : (s : List Shown) (f : Spot) → Passes s f f
passes_none s f = record { blocks = []; effects = []; lead = none_led f.state f.count; are = (refl, refl, refl) }

pub moves_none : (s : List Shown) (f : Spot) → Moves s f f
moves_none s f = record { blocks = []; effects = []; lead = none_led f.state f.count; are = (refl, (omega arith, inl refl)) }

pub moves_passed : (s : List Shown) (f g : Spot) → Passes s f g → Moves s f g
moves_passed s f g a = record { blocks = a.blocks; effects = a.effects; lead = a.lead; are = whole_from s f.gate f.done a.blocks a.effects g.gate g.done a.are }

passes_before : (s t : List Shown) (f g : Spot) → Passes s f g → Passes (s ++ t) f g
passes_before s t f g a = record { blocks = a.blocks; effects = a.effects; lead = a.lead; are = whole_before s t f.gate f.done a.blocks a.effects g.gate g.done a.are }

passes_behind : (t s : List Shown) (f g : Spot) → Passes s f g → Passes (t ++ s) f g
passes_behind t s f g a = record { blocks = a.blocks; effects = a.effects; lead = a.lead; are = whole_behind t s f.gate f.done a.blocks a.effects g.gate g.done a.are }

moves_behind : (t s : List Shown) (f g : Spot) → Moves s f g → Moves (t ++ s) f g
moves_behind t s f g a = record { blocks = a.blocks; effects = a.effects; lead = a.lead; are = from_behind t s f.gate f.done a.blocks a.effects g.gate g.done a.are }

pub passes_more : (s : List Shown) (f g h : Spot) → Passes s f g → Passes s g h → Passes s f h
passes_more s f g h a b = record {
  blocks = a.blocks ++ b.blocks;
  effects = a.effects ++ b.effects;
  lead = lead_then f.state g.state h.state f.count g.count h.count a.effects b.effects a.lead b.lead;
  are = whole_then s f.gate f.done a.blocks b.blocks a.effects b.effects g.gate g.done h.gate h.done a.are b.are;
}

moves_more : (s : List Shown) (f g h : Spot) → Passes s f g → Moves s g h → Moves s f h
moves_more s f g h a b = record {
  blocks = a.blocks ++ b.blocks;
  effects = a.effects ++ b.effects;
  lead = lead_then f.state g.state h.state f.count g.count h.count a.effects b.effects a.lead b.lead;
  are = from_then s f.gate f.done a.blocks b.blocks a.effects b.effects g.gate g.done h.gate h.done a.are b.are;
}

pub refused_more : (s : List Shown) (f g h : Spot) (e : JournalFault) → Passes s f g → IsRefused s g h e → IsRefused s f h e
refused_more s f g h (fault.Damaged at) a (b, place, bad) = (moves_more s f g h a b, place, bad)
refused_more s f g h fault.DiskFailed a b = moves_more s f g h a b
refused_more s f g h fault.Memory a (b, alone) = (moves_more s f g h a b, alone)

refused_behind : (t s : List Shown) (f g : Spot) (e : JournalFault) → IsRefused s f g e → IsRefused (t ++ s) f g e
refused_behind t s f g (fault.Damaged at) (b, place, bad) = (moves_behind t s f g b, place, bad_behind t s g.gate g.done g.state bad)
refused_behind t s f g fault.DiskFailed b = moves_behind t s f g b
refused_behind t s f g fault.Memory (b, alone) = (moves_behind t s f g b, since_behind t s alone)

pub passes_then : (s t : List Shown) (f g h : Spot) → Passes s f g → Passes t g h → Passes (s ++ t) f h
passes_then s t f g h a b = passes_more (s ++ t) f g h (passes_before s t f g a) (passes_behind s t g h b)

pub refused_then : (s t : List Shown) (f g h : Spot) (e : JournalFault) → Passes s f g → IsRefused t g h e → IsRefused (s ++ t) f h e
refused_then s t f g h e a b = refused_more (s ++ t) f g h e (passes_before s t f g a) (refused_behind s t g h e b)

pub turn_then : (s t : List Shown) (f g h : Spot) (r : Result Bool JournalFault) → Passes s f g → IsTurn t g h r → IsTurn (s ++ t) f h r
turn_then s t f g h (Ok true) a b = passes_then s t f g h a b
turn_then s t f g h (Ok false) a (b, shut) = (passes_then s t f g h a b, shut_behind s t h.gate shut)
turn_then s t f g h (Err e) a b = refused_then s t f g h e a b

-- ---- a block

module _ (s : List Shown) (f g : Spot) (payload : List ℕ) (w : Since (IsBlockAlone f.gate payload) s) where
  b : Since (ShowsBlock f.gate payload) s
  b = (w.0, w.1, w.2, w.3.0)

  pub payload_passed : (done : ℕ) (r : Result Unit ApplyFault) → IsCarried payload f.done done f.state g.state f.count g.count r → Ok tt ≡ at_gate f.gate r → g.gate ≡ f.gate + 9 + length payload → g.done ≡ 0 → Passes s f g
  payload_passed done (Ok u) (inl c) e place zero =
      let m = c.applies.more in
      let rest = drop f.done c.block in
      record {
        blocks = c.block ∷ [];
        effects = m;
        lead = c.applies.lead;
        are = (payload, [], (b, c.decoded), sym (append-nil rest ∙ c.applies.split ∙ ap (λ (l : List Effect). m ++ l) c.applies.stops ∙ append-nil m), (place, zero, refl));
      }
  payload_passed done (Ok u) (inr (unread, state, count, same)) e place zero = absurd unread
  payload_passed done (Err apply.Unfit) c e place zero = absurd (cc e)
  payload_passed done (Err apply.Memory) c e place zero = absurd (cc e)

  moved : (r : Result Unit ApplyFault) → IsCarried payload f.done g.done f.state g.state f.count g.count r → g.gate ≡ f.gate → Moves s f g
  moved r (inl c) same = record {
    blocks = [];
    effects = c.applies.more;
    lead = c.applies.lead;
    are = (same, (c.place, inr (payload, c.block, c.applies.left, (b, c.decoded), c.applies.split)));
  }
  moved r (inr (unread, state, count, done)) same = record {
    blocks = [];
    effects = [];
    lead = record { applied = ap (λ (x : State). Some x) (sym state); counted = omega (arith, count) };
    are = (same, (omega (arith, done), inl refl));
  }

  unfit : IsCarried payload f.done g.done f.state g.state f.count g.count (Err apply.Unfit) → (block : List Effect) → IsDecoded payload (Ok block) → all_applied (drop g.done block) g.state ≡ None
  unfit (inl c) block d =
      let m = c.applies.more in
      let one : block ≡ c.block = same_effects block c.block d.0 c.decoded.0 (sym d.1 ∙ c.decoded.1) in
      let behind : drop g.done c.block ≡ c.applies.left =
      ap (λ n. drop n c.block) c.place ∙ sym (drop-drop (length m) f.done c.block) ∙ ap (drop (length m)) c.applies.split ∙ drop_at m c.applies.left (length m) refl in
      ap (λ (l : List Effect). all_applied (drop g.done l) g.state) one ∙ ap (λ (l : List Effect). all_applied l g.state) behind ∙ c.applies.stops
  unfit (inr (unread, state, count, done)) block d = absurd (unread block d)

  pub payload_refused : (r : Result Unit ApplyFault) (e : JournalFault) → IsCarried payload f.done g.done f.state g.state f.count g.count r → Err e ≡ at_gate f.gate r → g.gate ≡ f.gate → IsRefused s f g e
  payload_refused (Ok u) e c is same = absurd (cc is)
  payload_refused (Err apply.Unfit) e c is same =
      let what : e ≡ fault.Damaged f.gate = cc is in
      subst (IsRefused s f g) (sym what) (moved (Err apply.Unfit) c same, sym same, inr (payload, subst (λ n. Since (ShowsBlock n payload) s) (sym same) b, unfit c))
  payload_refused (Err apply.Memory) e c is same =
      let what : e ≡ fault.Memory = cc is in
      let alone : Since (IsOpenAlone f.gate) s = (w.0, w.1, w.2, (w.3.0.gate_open, w.3.1)) in
      subst (IsRefused s f g) (sym what) (moved (Err apply.Memory) c same, subst (λ n. Since (IsOpenAlone n) s) (sym same) alone)

-- ---- blocks in bytes that one call showed

module _ (first asked gate : ℕ) (read front rest : List ℕ) (is : read ≡ front ++ rest) (place : gate ≡ first + length front) where
  shown_in : (bytes after : List ℕ) → rest ≡ bytes ++ after → IsShownAt (bytes_from first asked read ∷ []) gate bytes
  shown_in bytes after e = record {
    from = first;
    asked = asked;
    before = front;
    after = after;
    there = subst (λ l. WasShown (bytes_from first asked read ∷ []) (bytes_from first asked l)) (is ∙ ap (λ l. front ++ l) e ∙ sym (append_assoc front bytes after)) (was_first (bytes_from first asked read) []);
    place_is = place;
  }

  -- no call came behind that one, so none showed that a block is not whole
  not_cut : ShowsCut gate (bytes_from first asked read ∷ []) → ⊥
  not_cut cut = none_short gate (subst (ShowsShort gate) (sym (ap (drop 1) cut.gate_open.begins)) cut.short)

  pub block_in : (payload : List ℕ) → HasBlock payload rest → Since (IsBlockAlone gate payload) (bytes_from first asked read ∷ [])
  block_in payload has =
      let b : ShowsBlock gate payload (bytes_from first asked read ∷ []) = record {
        gate_open = record { first = bytes_from first asked read; later = []; begins = refl; is_open = shown_in (1 ∷ []) (block_bytes payload ++ has.gate ∷ has.rest) has.there };
        block = shows_at (bytes_from first asked read ∷ []) gate (1 ∷ block_bytes payload) (shown_in (1 ∷ block_bytes payload) (has.gate ∷ has.rest) has.there);
      } in
      ([], bytes_from first asked read ∷ [], refl, (b, not_cut))

  -- behind a block
  pub next_in : (next : ℕ) (payload : List ℕ) → next ≡ gate + 9 + length payload → 9 + length payload < length rest → (front' : List ℕ) × (read ≡ front' ++ take (length rest - (9 + length payload)) (drop (9 + length payload) rest)) × (next ≡ first + length front')
  next_in next payload behind lt =
      let n = 9 + length payload in
      let left = take (length rest - n) (drop n rest) in
      let same : left ≡ drop n rest = take_all (length rest - n) (drop n rest) (omega (arith, length-drop n rest)) in (
        front ++ take n rest,
        is ∙ ap (λ l. front ++ l) (sym (take-append-drop n rest) ∙ ap (λ l. take n rest ++ l) (sym same)) ∙ sym (append_assoc front (take n rest) left),
        omega (arith, behind, place, length-append front (take n rest), length-take-le n rest (omega (arith, lt))),
      )

pub shut_in : (first asked gate : ℕ) (read front rest : List ℕ) → read ≡ front ++ rest → gate ≡ first + length front → begins_shut rest ≡ true → ShowsShut gate (bytes_from first asked read ∷ [])
shut_in first asked gate read front [] is place e = absurd (cc e)
shut_in first asked gate read front (byte ∷ rest) is place e = inr (byte, (λ one. cc (one, e)), shown_in first asked gate read front (byte ∷ rest) is place (byte ∷ []) rest refl)

pub read_turn : (first asked : ℕ) (read front rest : List ℕ) (f g : Spot) (b : Bool) → read ≡ front ++ rest → g.gate ≡ first + length front → b ≡ begins_shut rest → Passes (bytes_from first asked read ∷ []) f g → IsTurn (bytes_from first asked read ∷ []) f g (Ok (not b))
read_turn first asked read front rest f g false is place e a = a
read_turn first asked read front rest f g true is place e a = (a, shut_in first asked g.gate read front rest is place (sym e))

-- ---- a block that was read by itself

-- two facts of what one call showed
pub shown_both : {P Q : List Shown → Type 0} (old new : Option (List Shown)) → ShowsMore old new P → ShowsMore old new Q → ShowsMore old new (λ s. P s × Q s)
shown_both {P} {Q} old new p q = λ before e.
    let a = p before e in
    let b = q before e in
    let same : before ++ b.0 ≡ before ++ a.0 = cc (a.1, b.1) in
    let is : b.0 ≡ a.0 = sym (drop_at before b.0 (length before) refl) ∙ ap (drop (length before)) same ∙ drop_at before a.0 (length before) refl in
    (a.0, a.1, (a.2, subst Q is b.2))

pub found_shown : (gate next : ℕ) (s : List Shown) (before out : List ℕ) → before ≡ [] → IsBlockShown gate s before out (Ok (Some next)) → TellsCut gate s (Ok (Some next)) → Since (IsBlockAlone gate out) s
found_shown gate next s before out none (payload, b, is, all) tells =
    let whole = subst (λ p. ShowsBlock gate p s) (sym (all ∙ ap (λ l. l ++ payload) none)) b in
    ([], s, refl, (whole, λ cut. cc (tells cut)))

pub not_found_shown : (f : Spot) (s : List Shown) (before out : List ℕ) (e : JournalFault) → IsBlockShown f.gate s before out (Err e) → TellsCut f.gate s (Err e) → IsRefused s f f e
not_found_shown f s before out (fault.Damaged at) (cut, is, same) tells = (moves_none s f, is, inl ([], s, refl, cut))
not_found_shown f s before out fault.DiskFailed same tells = moves_none s f
not_found_shown f s before out fault.Memory (opens, same) tells = (moves_none s f, ([], s, refl, (opens, λ cut. cc (tells cut))))

-- ---- a catching up

starts_behind : (t s : List Shown) (gate first : ℕ) → StartsAt s gate first → StartsAt (t ++ s) gate first
starts_behind t s gate first (inl a) = inl a
starts_behind t s gate first (inr (zero, place, head)) = inr (zero, place, head_behind _ t s head)

starts_before : (s t : List Shown) (gate first : ℕ) → StartsAt s gate first → StartsAt (s ++ t) gate first
starts_before s t gate first (inl a) = inl a
starts_before s t gate first (inr (zero, place, head)) = inr (zero, place, head_before _ s t head)

from_rises : (s : List Shown) (gate done : ℕ) (blocks : List (List Effect)) (es : List Effect) (gate' done' : ℕ) → AreFrom s gate done blocks es gate' done' → gate ≤ gate'
from_rises s gate done [] es gate' done' (place, a) = omega (arith, place)
from_rises s gate done (block ∷ blocks) es gate' done' (payload, more, seen, e, a) = omega (arith, from_rises s (gate + 9 + length payload) 0 blocks more gate' done' a)

pub failed_at_once : {D : Type 0} (old new : Follower D) → spot new ≡ spot old → IsShownBy [] old new (Err fault.DiskFailed)
failed_at_once old new same = record {
  effects = [];
  lead = record { applied = ap (λ (x : Spot). Some x.state) (sym same); counted = omega (arith, ap (λ (x : Spot). x.count) same) };
  are = inl (refl, ap (λ (x : Spot). x.gate) same, ap (λ (x : Spot). x.done) same);
  why = tt;
}

-- What was shown of the head, behind the length; nothing was carried out then.
module _ {D : Type 0} (size : ℕ) (s : List Shown) (old new : Follower D) (state : new.core.state ≡ old.core.state) (count : new.count ≡ old.count) (done : new.done ≡ old.done) where
  lead_none : Lead old.core.state new.core.state old.count new.count []
  lead_none = record { applied = ap (λ (x : State). Some x) (sym state); counted = omega (arith, count) }

  pub begun_short : (n : ℕ) → IsBegun s (spot old) (spot new) (Ok false) → IsShownBy (length_was size ∷ s) old new (Ok n)
  begun_short n (zero, same, head) = record {
    effects = [];
    lead = lead_none;
    are = inl (refl, same, done);
    why = inr (inr (same ∙ zero, head_behind _ (length_was size ∷ []) s head));
  }

  pub begun_refused : (e : JournalFault) → IsBegun s (spot old) (spot new) (Err e) → IsShownBy (length_was size ∷ s) old new (Err e)
  begun_refused (fault.Damaged at) (zero, same, place, head) = record {
    effects = [];
    lead = lead_none;
    are = inl (refl, same, done);
    why = inr (same ∙ zero, place, head_behind _ (length_was size ∷ []) s head);
  }
  begun_refused fault.DiskFailed same = record { effects = []; lead = lead_none; are = inl (refl, same, done); why = tt }
  begun_refused fault.Memory none = absurd none

  -- and what was shown of blocks behind that
  module _ (t : List Shown) (last : Follower D) (starts : StartsAt s old.gate new.gate) (begun : 0 < new.gate) where
    abbrev all : List Shown
    all = length_was size ∷ s ++ t

    carried_then : (m : Moves t (spot new) (spot last)) → AreCarried all old.gate old.done m.effects last.gate last.done
    carried_then m = inr (
      new.gate,
      m.blocks,
      starts_before (length_was size ∷ s) t old.gate new.gate (starts_behind (length_was size ∷ []) s old.gate new.gate starts),
      subst (λ d. AreFrom all new.gate d m.blocks m.effects last.gate last.done) done (from_behind (length_was size ∷ s) t new.gate new.done m.blocks m.effects last.gate last.done m.are),
    )

    lead_since : (m : Moves t (spot new) (spot last)) → Lead old.core.state last.core.state old.count last.count m.effects
    lead_since m = lead_then old.core.state new.core.state last.core.state old.count new.count last.count [] m.effects lead_none m.lead

    rises : (m : Moves t (spot new) (spot last)) → 0 < last.gate
    rises m = omega (arith, begun, from_rises t new.gate new.done m.blocks m.effects last.gate last.done m.are)

    pub passed_to_end : (n : ℕ) → Passes t (spot new) (spot last) × (ShowsShut last.gate t ⊎ (size ≤ last.gate)) → IsShownBy all old last (Ok n)
    passed_to_end n (a, end) =
        let m = moves_passed t (spot new) (spot last) a in
        record { effects = m.effects; lead = lead_since m; are = carried_then m; why = by_end end }
      where
        by_end : ShowsShut last.gate t ⊎ (size ≤ last.gate) → SeesEnd all last.gate
        by_end (inl shut) = inl (shut_behind (length_was size ∷ s) t last.gate shut)
        by_end (inr le) = inr (inl (size, le, was_first (length_was size) (s ++ t)))

    pub passed_to_refusal : (e : JournalFault) → IsRefused t (spot new) (spot last) e → IsShownBy all old last (Err e)
    passed_to_refusal (fault.Damaged at) (m, place, bad) = record {
      effects = m.effects;
      lead = lead_since m;
      are = carried_then m;
      why = inl (rises m, place, bad_behind (length_was size ∷ s) t last.gate last.done last.core.state bad);
    }
    passed_to_refusal fault.DiskFailed m = record { effects = m.effects; lead = lead_since m; are = carried_then m; why = tt }
    passed_to_refusal fault.Memory (m, alone) = record { effects = m.effects; lead = lead_since m; are = carried_then m; why = (rises m, since_behind (length_was size ∷ s) t alone) }
