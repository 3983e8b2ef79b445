-- What was shown, put together.
use Rattle.std.proofs.Common.{◌≡◌, inl, inr, ℕ, ◌+◌, ◌<◌, ◌≤◌, nat_eq, get_or, List, [], ◌∷◌, ◌++◌, length, take, drop, Bool, true, false, Option, Some, None, Result, Ok, Err, refl, sym, ◌∙◌, ap, subst, arith, append_assoc, length-append}
use Rattle.std.proofs.lemmas.Bool.{eq-eqb, eqb-true}
use Rattle.std.proofs.lemmas.List.{append-nil, take_at}
use Rattle.std.proofs.lemmas.List.Folds.{concat-append}
use Rattle.std.specs.List.{concat}
use Rattle.std.specs.Prelude.{◌⊎◌, IsErr}
use Rattle.byte_fields.proofs.Numbers.{eight_code, length-eight}
use Rattle.byte_fields.specs.Encodings.{FitsEight, eight_bytes}
use Rattle.journal_file.specs.Blocks.{block_bytes}
use Rattle.journal_file.specs.Damage.{IsShut}
use Rattle.journal_file.specs.Gates.{begins_open}
use Rattle.journal_file.specs.Showing.{ArePayloadShown, AreSome, IsBehindShown, IsGateSeen, IsGateShown, IsNotShort, IsNumberSeen, IsNumberShown, IsRestShown, IsRoomShown, IsSizeShown}
use Rattle.journal_file.specs.Shows.{AreShownAt, IsBlockShown, IsEndShown, IsShownAt, Shows, ShowsCut, ShowsMore, ShowsOpen, ShowsShort, ShowsShut, TellsCut, WasShown, no_room, no_size, too_long, ended}
use Rattle.journal_file.specs.Sizes.{IsSizeAt}
use Rattle.journal_file.specs.declared.faults.JournalFault.{JournalFault}
use Rattle.journal_file.specs.declared.faults.JournalFault.TheVariants as fault
use Rattle.journal_file.specs.declared.payloads.ReadFault.{ReadFault}
use Rattle.rtb_disk.specs.Showing.{Shown, bytes_from, length_was, one_more_shown}
use Rattle.rtb_num.specs.declared.streams.Failed.{Failed}

-- ---- calls, one after the other

pub shown_none : {P : List Shown → Type 0} (old new : Option (List Shown)) → new ≡ old → P [] → ShowsMore old new P
shown_none old new is p = λ before e. ([], is ∙ e ∙ ap Some (sym (append-nil before)), p)

pub shown_one : {P : List Shown → Type 0} (old new : Option (List Shown)) (one : Shown) → new ≡ one_more_shown one old → P (one ∷ []) → ShowsMore old new P
shown_one old new one is p = λ before e. (one ∷ [], is ∙ ap (one_more_shown one) e, p)

pub shown_then : {P Q R : List Shown → Type 0} (first second third : Option (List Shown)) → ShowsMore first second P → ShowsMore second third Q → ((more back : List Shown) → P more → Q back → R (more ++ back)) → ShowsMore first third R
shown_then first second third f s join = λ before e.
    let a = f before e in
    let b = s (before ++ a.0) a.1 in
    (a.0 ++ b.0, b.1 ∙ ap Some (append_assoc before a.0 b.0), join a.0 b.0 a.2 b.2)

pub shown_so : {P R : List Shown → Type 0} (old new : Option (List Shown)) → ShowsMore old new P → ((more : List Shown) → P more → R more) → ShowsMore old new R
shown_so old new f so = λ before e. let a = f before e in (a.0, a.1, so a.0 a.2)

-- a call, and what came behind it
pub shown_behind : {Q R : List Shown → Type 0} (first second third : Option (List Shown)) (one : Shown) → second ≡ one_more_shown one first → ShowsMore second third Q → ((back : List Shown) → Q back → R (one ∷ back)) → ShowsMore first third R
shown_behind first second third one is s so = λ before e.
    let b = s (before ++ one ∷ []) (is ∙ ap (one_more_shown one) e) in
    (one ∷ b.0, b.1 ∙ ap Some (append_assoc before (one ∷ []) b.0), so b.0 b.2)

pub shown_up_to : {P R : List Shown → Type 0} (first second third : Option (List Shown)) (one : Shown) → ShowsMore first second P → third ≡ one_more_shown one second → ((more : List Shown) → P more → R (more ++ one ∷ [])) → ShowsMore first third R
shown_up_to first second third one f is so = λ before e.
    let a = f before e in
    (a.0 ++ one ∷ [], is ∙ ap (one_more_shown one) a.1 ∙ ap Some (append_assoc before a.0 (one ∷ [])), so a.0 a.2)

-- and a call that showed nothing
pub shown_still : {P R : List Shown → Type 0} (first second third : Option (List Shown)) → ShowsMore first second P → third ≡ second → ((more : List Shown) → P more → R more) → ShowsMore first third R
shown_still first second third f is so = λ before e. let a = f before e in (a.0, is ∙ a.1, so a.0 a.2)

-- ---- more calls show no less

pub was_first : (one : Shown) (later : List Shown) → WasShown (one ∷ later) one
was_first one later = record { earlier = []; later = later; among = refl }

pub was_behind : (t s : List Shown) (one : Shown) → WasShown s one → WasShown (t ++ s) one
was_behind t s one w = record { earlier = t ++ w.earlier; later = w.later; among = ap (λ l. t ++ l) w.among ∙ sym (append_assoc t w.earlier (one ∷ w.later)) }

pub was_before : (s t : List Shown) (one : Shown) → WasShown s one → WasShown (s ++ t) one
was_before s t one w = record { earlier = w.earlier; later = w.later ++ t; among = ap (λ l. l ++ t) w.among ∙ append_assoc w.earlier (one ∷ w.later) t }

pub at_first : (place asked : ℕ) (bytes : List ℕ) (later : List Shown) → IsShownAt (bytes_from place asked bytes ∷ later) place bytes
at_first place asked bytes later = record {
  from = place;
  asked = asked;
  before = [];
  after = [];
  there = subst (λ b. WasShown (bytes_from place asked bytes ∷ later) (bytes_from place asked b)) (sym (append-nil bytes)) (was_first (bytes_from place asked bytes) later);
  place_is = omega arith;
}

pub end_behind : (t s : List Shown) (place : ℕ) → IsEndShown s place → IsEndShown (t ++ s) place
end_behind t s place e = record { asked = e.asked; some = e.some; there = was_behind t s _ e.there }

pub at_behind : (t s : List Shown) (place : ℕ) (bytes : List ℕ) → IsShownAt s place bytes → IsShownAt (t ++ s) place bytes
at_behind t s place bytes a = record { from = a.from; asked = a.asked; before = a.before; after = a.after; there = was_behind t s _ a.there; place_is = a.place_is }

pub at_before : (s t : List Shown) (place : ℕ) (bytes : List ℕ) → IsShownAt s place bytes → IsShownAt (s ++ t) place bytes
at_before s t place bytes a = record { from = a.from; asked = a.asked; before = a.before; after = a.after; there = was_before s t _ a.there; place_is = a.place_is }

are_behind : (t s : List Shown) (place : ℕ) (pieces : List (List ℕ)) → AreShownAt s place pieces → AreShownAt (t ++ s) place pieces
are_behind t s place [] a = a
are_behind t s place (piece ∷ pieces) a = (at_behind t s place piece a.0, are_behind t s (place + length piece) pieces a.1)

are_before : (s t : List Shown) (place : ℕ) (pieces : List (List ℕ)) → AreShownAt s place pieces → AreShownAt (s ++ t) place pieces
are_before s t place [] a = a
are_before s t place (piece ∷ pieces) a = (at_before s t place piece a.0, are_before s t (place + length piece) pieces a.1)

pub shows_behind : (t s : List Shown) (place : ℕ) (bytes : List ℕ) → Shows s place bytes → Shows (t ++ s) place bytes
shows_behind t s place bytes a = record { pieces = a.pieces; are = are_behind t s place a.pieces a.are; whole = a.whole }

pub shows_before : (s t : List Shown) (place : ℕ) (bytes : List ℕ) → Shows s place bytes → Shows (s ++ t) place bytes
shows_before s t place bytes a = record { pieces = a.pieces; are = are_before s t place a.pieces a.are; whole = a.whole }

-- ---- bytes behind bytes

pub shows_none : (s : List Shown) (place : ℕ) → Shows s place []
shows_none s place = record { pieces = []; are = tt; whole = refl }

pub shows_at : (s : List Shown) (place : ℕ) (bytes : List ℕ) → IsShownAt s place bytes → Shows s place bytes
shows_at s place bytes a = record { pieces = bytes ∷ []; are = (a, tt); whole = sym (append-nil bytes) }

are_joined : (s : List Shown) (place : ℕ) (ps qs : List (List ℕ)) → AreShownAt s place ps → AreShownAt s (place + length (concat ps)) qs → AreShownAt s place (ps ++ qs)
are_joined s place [] qs a b = subst (λ n. AreShownAt s n qs) (omega arith) b
are_joined s place (p ∷ ps) qs a b =
    let is : place + length (p ++ concat ps) ≡ place + length p + length (concat ps) = omega (arith, length-append p (concat ps)) in
    (a.0, are_joined s (place + length p) ps qs a.1 (subst (λ n. AreShownAt s n qs) is b))

pub shows_both : (s : List Shown) (place next : ℕ) (front back : List ℕ) → next ≡ place + length front → Shows s place front → Shows s next back → Shows s place (front ++ back)
shows_both s place next front back is a b =
    let there : next ≡ place + length (concat a.pieces) = omega (arith, is, ap length a.whole) in
    record {
      pieces = a.pieces ++ b.pieces;
      are = are_joined s place a.pieces b.pieces a.are (subst (λ n. AreShownAt s n b.pieces) there b.are);
      whole = ap (λ l. l ++ back) a.whole ∙ ap (λ l. concat a.pieces ++ l) b.whole ∙ sym (concat-append a.pieces b.pieces);
    }

-- one piece more of a payload
pub piece_more : (more : List Shown) (place at now asked : ℕ) (old out out' piece : List ℕ) → (bytes : List ℕ) × Shows more place bytes × (out ≡ old ++ bytes) × (at ≡ place + length bytes) → out' ≡ out ++ piece → now ≡ at + length piece
    → (bytes : List ℕ) × Shows (more ++ bytes_from at asked piece ∷ []) place bytes × (out' ≡ old ++ bytes) × (now ≡ place + length bytes)
piece_more more place at now asked old out out' piece (bytes, s, o, a) e n =
    let last = bytes_from at asked piece ∷ [] in
    let behind = shows_behind more last at piece (shows_at last at piece (at_first at asked piece [])) in
    (bytes ++ piece, shows_both (more ++ last) place at bytes piece a (shows_before more last place bytes s) behind, e ∙ ap (λ l. l ++ piece) o ∙ append_assoc old bytes piece, omega (arith, n, a, length-append bytes piece))

-- and where none is left
pub was_last : (more : List Shown) (at asked n : ℕ) (read : List ℕ) → 0 < asked → n ≡ 0 → IsEndShown (more ++ bytes_from at asked (take n read) ∷ []) at
was_last more at asked n read some e = record {
  asked = asked;
  some = some;
  there = record { earlier = more; later = []; among = ap (λ k. more ++ bytes_from at asked (take k read) ∷ []) e };
}

-- what was appended is cut off again
pub cut_back : (old more out new : List ℕ) (n : ℕ) → out ≡ old ++ more → n ≡ length old → new ≡ take n out → new ≡ old
cut_back old more out new n e is cut = cut ∙ ap (take n) e ∙ take_at old more n (sym is)

-- ---- a gate

by_open : (gate byte : ℕ) (test : Bool) → test ≡ nat_eq byte 1 → IsGateShown gate (bytes_from gate 1 (byte ∷ []) ∷ []) test
by_open gate byte true e = ap (λ b. bytes_from gate 1 (b ∷ []) ∷ []) (eqb-true byte 1 (sym e))
by_open gate byte false e = (byte ∷ [], inr (byte, [], (λ one. cc (eq-eqb byte 1 one, e)), refl), refl)

pub gate_shown : (gate : ℕ) (front : List ℕ) (test : Bool) → test ≡ begins_open front → length front ≤ 1 → IsGateShown gate (bytes_from gate 1 front ∷ []) test
gate_shown gate [] test e le = subst (λ o. IsGateShown gate (bytes_from gate 1 [] ∷ []) o) (sym e) ([], inl refl, refl)
gate_shown gate (byte ∷ []) test e le = by_open gate byte test e
gate_shown gate (byte ∷ more ∷ rest) test e le = absurd (omega (arith, le))

-- ---- a size

none_left : (rest : List ℕ) → length rest ≡ 0 → rest ≡ []
none_left [] e = refl
none_left (b ∷ rest) e = absurd (omega (arith, e))

pub number_shown : (place : ℕ) (word : List ℕ) (found : Option ℕ) → length word ≤ 8 → IsSizeAt word found → IsNumberShown place (bytes_from place 8 word ∷ []) found
number_shown place word (Some n) le (rest, fits, e) =
    let none : rest ≡ [] = none_left rest (omega (arith, le, ap length e, length-append (eight_bytes n) rest, length-eight n)) in
    (fits, ap (λ w. bytes_from place 8 w ∷ []) (e ∙ ap (λ r. eight_bytes n ++ r) none ∙ append-nil (eight_bytes n)))
number_shown place word None le none = (word, none, refl)

module _ (gate end : ℕ) (back : List Shown) where
  abbrev pub behind_length : List Shown
  behind_length = length_was end ∷ back

  pub length_shown : end < gate + 10 → IsSizeShown gate (length_was end ∷ []) (Ok None)
  length_shown lt = no_room end lt (was_first (length_was end) [])

  pub size_lacks : IsNumberShown (gate + 1) back None → IsSizeShown gate behind_length (Ok None)
  size_lacks (word, none, is) =
      no_size word none (was_behind (length_was end ∷ []) back (bytes_from (gate + 1) 8 word) (subst (λ l. WasShown l (bytes_from (gate + 1) 8 word)) (sym is) (was_first (bytes_from (gate + 1) 8 word) [])))

  there : (size : ℕ) → back ≡ bytes_from (gate + 1) 8 (eight_bytes size) ∷ [] → IsShownAt behind_length (gate + 1) (eight_bytes size)
  there size is = at_behind (length_was end ∷ []) back (gate + 1) (eight_bytes size) (subst (λ l. IsShownAt l (gate + 1) (eight_bytes size)) (sym is) (at_first (gate + 1) 8 (eight_bytes size) []))

  pub size_is : (size : ℕ) → gate + 10 + size ≤ end → IsNumberShown (gate + 1) back (Some size) → IsSizeShown gate behind_length (Ok (Some size))
  size_is size le (fits, is) = (end, le, fits, ap (λ l. length_was end ∷ l) is)

  pub size_too_long : (size : ℕ) → end < gate + 10 + size → IsNumberShown (gate + 1) back (Some size) → IsSizeShown gate behind_length (Ok None)
  size_too_long size lt (fits, is) = too_long size end fits (there size is) lt (was_first (length_was end) back)

-- ---- where nothing shows that a block is not all there

-- what was shown is the first of these, or one of the others
was_one : (one : Shown) (more : List Shown) (x : Shown) → WasShown (one ∷ more) x → (x ≡ one) ⊎ WasShown more x
was_one one more x w = by_front w.earlier w.among
  where
    by_front : (earlier : List Shown) → one ∷ more ≡ earlier ++ x ∷ w.later → (x ≡ one) ⊎ WasShown more x
    by_front [] e = inl (sym (ap (λ (l : List Shown). get_or l 0 x) e))
    by_front (first ∷ earlier) e = inr (record { earlier = earlier; later = w.later; among = ap (drop 1) e })

was_none : (x : Shown) → WasShown [] x → ⊥
was_none x w = omega (arith, ap length w.among, length-append w.earlier (x ∷ w.later))

was_only : (one x : Shown) → WasShown (one ∷ []) x → x ≡ one
was_only one x w = by_call (was_one one [] x w)
  where
    by_call : (x ≡ one) ⊎ WasShown [] x → x ≡ one
    by_call (inl e) = e
    by_call (inr v) = absurd (was_none x v)

pub some_more : (place at asked : ℕ) (bytes : List ℕ) (more : List Shown) → place ≤ at → 0 < length bytes → AreSome place more → AreSome place (more ++ bytes_from at asked bytes ∷ [])
some_more place at asked bytes [] le lt a = (le, lt, tt)
some_more place at asked bytes (bytes_from f k l ∷ more) le lt (x, y, a) = (x, y, some_more place at asked bytes more le lt a)
some_more place at asked bytes (length_was n ∷ more) le lt a = absurd a

some_no_length : (place n : ℕ) (more : List Shown) → AreSome place more → WasShown more (length_was n) → ⊥
some_no_length place n [] a w = was_none (length_was n) w
some_no_length place n (length_was k ∷ more) a w = a
some_no_length place n (bytes_from f k l ∷ more) (x, y, a) w = by_call (was_one (bytes_from f k l) more (length_was n) w) (λ v. some_no_length place n more a v)
  where
    by_call : (length_was n ≡ bytes_from f k l) ⊎ WasShown more (length_was n) → (WasShown more (length_was n) → ⊥) → ⊥
    by_call (inl e) behind = cc e
    by_call (inr v) behind = behind v

some_bytes : (place from asked : ℕ) (bytes : List ℕ) (more : List Shown) → AreSome place more → WasShown more (bytes_from from asked bytes) → (place ≤ from) × (0 < length bytes)
some_bytes place from asked bytes [] a w = absurd (was_none (bytes_from from asked bytes) w)
some_bytes place from asked bytes (length_was k ∷ more) a w = absurd a
some_bytes place from asked bytes (bytes_from f k l ∷ more) (x, y, a) w = by_call (was_one (bytes_from f k l) more (bytes_from from asked bytes) w) (λ v. some_bytes place from asked bytes more a v)
  where
    by_call : (bytes_from from asked bytes ≡ bytes_from f k l) ⊎ WasShown more (bytes_from from asked bytes) → (WasShown more (bytes_from from asked bytes) → (place ≤ from) × (0 < length bytes)) → (place ≤ from) × (0 < length bytes)
    by_call (inl e) behind =
        let same : from ≡ f = cc e in
        let all : bytes ≡ l = cc e in
        (omega (arith, x, same), omega (arith, y, ap length all))
    by_call (inr v) behind = behind v

-- no call, and a length that has room for a block without bytes
pub none_short : (gate : ℕ) → ShowsShort gate [] → ⊥
none_short gate (no_room n lt w) = was_none _ w
none_short gate (no_size word none w) = was_none _ w
none_short gate (too_long n end fits a lt w) = was_none _ w
none_short gate (ended n at fits a lt e) = was_none _ e.there

pub length_not_short : (gate end : ℕ) → gate + 10 ≤ end → ShowsShort gate (length_was end ∷ []) → ⊥
length_not_short gate end le (no_room n lt w) =
    let is : length_was n ≡ length_was end = was_only (length_was end) (length_was n) w in
    let same : n ≡ end = cc is in
    omega (arith, lt, same, le)
length_not_short gate end le (no_size word none w) =
    let is : bytes_from (gate + 1) 8 word ≡ length_was end = was_only (length_was end) (bytes_from (gate + 1) 8 word) w in
    cc is
length_not_short gate end le (too_long n k fits a lt w) =
    let is : bytes_from a.from a.asked (a.before ++ eight_bytes n ++ a.after) ≡ length_was end = was_only (length_was end) (bytes_from a.from a.asked (a.before ++ eight_bytes n ++ a.after)) a.there in
    cc is
length_not_short gate end le (ended n at fits a lt e) =
    let is : bytes_from at e.asked [] ≡ length_was end = was_only (length_was end) (bytes_from at e.asked []) e.there in
    cc is

-- a length that has room for the block, its size, and some bytes in each call behind
module _ (gate size end : ℕ) (back : List Shown) (room : gate + 10 + size ≤ end) (fits : FitsEight size) (some : AreSome (gate + 9) back) where
  abbrev sized : Shown
  sized = bytes_from (gate + 1) 8 (eight_bytes size)

  abbrev pub all_shown : List Shown
  all_shown = length_was end ∷ sized ∷ back

  was_length : (n : ℕ) → WasShown all_shown (length_was n) → n ≡ end
  was_length n w = by_first (was_one (length_was end) (sized ∷ back) (length_was n) w)
    where
      by_second : (length_was n ≡ sized) ⊎ WasShown back (length_was n) → n ≡ end
      by_second (inl e) = absurd (cc e)
      by_second (inr v) = absurd (some_no_length (gate + 9) n back some v)

      by_first : (length_was n ≡ length_was end) ⊎ WasShown (sized ∷ back) (length_was n) → n ≡ end
      by_first (inl e) = cc e
      by_first (inr v) = by_second (was_one sized back (length_was n) v)

  was_bytes : (from asked : ℕ) (bytes : List ℕ) → WasShown all_shown (bytes_from from asked bytes) → ((from ≡ gate + 1) × (bytes ≡ eight_bytes size)) ⊎ ((gate + 9 ≤ from) × (0 < length bytes))
  was_bytes from asked bytes w = by_first (was_one (length_was end) (sized ∷ back) (bytes_from from asked bytes) w)
    where
      by_second : (bytes_from from asked bytes ≡ sized) ⊎ WasShown back (bytes_from from asked bytes) → ((from ≡ gate + 1) × (bytes ≡ eight_bytes size)) ⊎ ((gate + 9 ≤ from) × (0 < length bytes))
      by_second (inl e) = inl (cc e, cc e)
      by_second (inr v) = inr (some_bytes (gate + 9) from asked bytes back some v)

      by_first : (bytes_from from asked bytes ≡ length_was end) ⊎ WasShown (sized ∷ back) (bytes_from from asked bytes) → ((from ≡ gate + 1) × (bytes ≡ eight_bytes size)) ⊎ ((gate + 9 ≤ from) × (0 < length bytes))
      by_first (inl e) = absurd (cc e)
      by_first (inr v) = by_second (was_one sized back (bytes_from from asked bytes) v)

  one_size : (n : ℕ) → FitsEight n → IsShownAt all_shown (gate + 1) (eight_bytes n) → n ≡ size
  one_size n f a = by_call (was_bytes a.from a.asked (a.before ++ eight_bytes n ++ a.after) a.there)
    where
      by_call : ((a.from ≡ gate + 1) × (a.before ++ eight_bytes n ++ a.after ≡ eight_bytes size)) ⊎ ((gate + 9 ≤ a.from) × (0 < length (a.before ++ eight_bytes n ++ a.after))) → n ≡ size
      by_call (inl (place, e)) =
          let none : a.before ≡ [] = none_left a.before (omega (arith, place, a.place_is)) in
          let front : eight_bytes n ++ a.after ≡ a.before ++ eight_bytes n ++ a.after = ap (λ l. l ++ (eight_bytes n ++ a.after)) (sym none) ∙ sym (append_assoc a.before (eight_bytes n) a.after) in
          let same = eight_code.unique n size a.after [] f fits (front ∙ e ∙ sym (append-nil (eight_bytes size))) in
          same.0
      by_call (inr (le, lt)) = absurd (omega (arith, le, a.place_is))

  no_end : (at : ℕ) → IsEndShown all_shown at → ⊥
  no_end at e = by_call (was_bytes at e.asked [] e.there)
    where
      by_call : ((at ≡ gate + 1) × ([] ≡ eight_bytes size)) ⊎ ((gate + 9 ≤ at) × (0 < length {A = ℕ} [])) → ⊥
      by_call (inl (place, e)) = omega (arith, ap length e, length-eight size)
      by_call (inr (le, lt)) = omega (arith, lt)

  no_word : (word : List ℕ) → ((n : ℕ) (rest : List ℕ) → FitsEight n → word ≡ eight_bytes n ++ rest → ⊥) → WasShown all_shown (bytes_from (gate + 1) 8 word) → ⊥
  no_word word none w = by_call (was_bytes (gate + 1) 8 word w)
    where
      by_call : ((gate + 1 ≡ gate + 1) × (word ≡ eight_bytes size)) ⊎ ((gate + 9 ≤ gate + 1) × (0 < length word)) → ⊥
      by_call (inl (place, e)) = none size [] fits (e ∙ sym (append-nil (eight_bytes size)))
      by_call (inr (le, lt)) = omega (arith, le)

  pub not_short : ShowsShort gate all_shown → ⊥
  not_short (no_room n lt w) = omega (arith, lt, was_length n w, room)
  not_short (no_size word none w) = no_word word none w
  not_short (too_long n k f a lt w) = omega (arith, lt, was_length k w, one_size n f a, room)
  not_short (ended n at f a lt e) = no_end at e

-- ---- where a disk failed, or memory was refused

pub gate_failed : (gate : ℕ) (result : Result Bool Failed) → IsErr result → IsGateSeen gate [] result
gate_failed gate (Ok test) e = absurd (cc e)
gate_failed gate (Err fault) e = refl

pub number_failed : (place : ℕ) (result : Result (Option ℕ) Failed) → IsErr result → IsNumberSeen place [] result
number_failed place (Ok found) e = absurd (cc e)
number_failed place (Err fault) e = refl

pub size_failed : (gate : ℕ) (shown : List Shown) (result : Result (Option ℕ) Failed) → IsErr result → IsNotShort gate shown → IsSizeShown gate shown result
size_failed gate shown (Ok found) e whole = absurd (cc e)
size_failed gate shown (Err fault) e whole = whole

pub payload_failed : (place count : ℕ) (shown : List Shown) (before out : List ℕ) (result : Result Bool ReadFault) → IsErr result → AreSome place shown → ArePayloadShown place count shown before out result
payload_failed place count shown before out (Ok all) e some = absurd (cc e)
payload_failed place count shown before out (Err fault) e some = some

-- ---- a block

-- the payload behind its size
room_at : (gate size : ℕ) (more : List Shown) → IsRoomShown gate size more → IsShownAt more (gate + 1) (eight_bytes size)
room_at gate size more (end, le, fits, is) =
    let one = bytes_from (gate + 1) 8 (eight_bytes size) ∷ [] in
    subst (λ l. IsShownAt l (gate + 1) (eight_bytes size)) (sym is) (at_behind (length_was end ∷ []) one (gate + 1) (eight_bytes size) (at_first (gate + 1) 8 (eight_bytes size) []))

room_not_short : (gate size : ℕ) (more back : List Shown) → IsRoomShown gate size more → AreSome (gate + 9) back → ShowsShort gate (more ++ back) → ⊥
room_not_short gate size more back (end, le, fits, is) some = subst (λ l. ShowsShort gate (l ++ back) → ⊥) (sym is) (not_short gate size end back le fits some)

pub behind_shown : (gate size : ℕ) (more back : List Shown) (before out : List ℕ) (result : Result (Option ℕ) JournalFault) → IsRoomShown gate size more → IsRestShown gate size back before out result → IsBehindShown gate (more ++ back) before out result
unfolding block_bytes
behind_shown gate size more back before out (Ok (Some next)) room (payload, s, long, is, all, some) =
    let size_there = shows_before more back (gate + 1) (eight_bytes size) (shows_at more (gate + 1) (eight_bytes size) (room_at gate size more room)) in
    let both = shows_both (more ++ back) (gate + 1) (gate + 9) (eight_bytes size) payload (omega (arith, length-eight size)) size_there (shows_behind more back (gate + 9) payload s) in
    (payload, subst (λ n. Shows (more ++ back) (gate + 1) (eight_bytes n ++ payload)) (sym long) both, is, all, room_not_short gate size more back room some)
behind_shown gate size more back before out (Ok None) room rest = rest
behind_shown gate size more back before out (Err (fault.Damaged at)) room ((end, lt, none), is, same) =
    (ended size end room.2 (at_before more back (gate + 1) (eight_bytes size) (room_at gate size more room)) lt (end_behind more back end none), is, same)
behind_shown gate size more back before out (Err fault.DiskFailed) room (some, same) = (room_not_short gate size more back room some, same)
behind_shown gate size more back before out (Err fault.Memory) room (some, same) = (room_not_short gate size more back room some, same)

-- the block behind its gate
abbrev gate_opens : (gate : ℕ) (more back : List Shown) → IsGateShown gate more true → ShowsOpen gate (more ++ back)
gate_opens gate more back is = record { first = bytes_from gate 1 (1 ∷ []); later = back; begins = ap (λ l. l ++ back) is; is_open = at_first gate 1 (1 ∷ []) [] }

pub block_shown : (gate : ℕ) (more back : List Shown) (before out : List ℕ) (result : Result (Option ℕ) JournalFault) → IsGateShown gate more true → IsBehindShown gate back before out result → IsBlockShown gate (more ++ back) before out result
block_shown gate more back before out (Ok (Some next)) is_one (payload, s, is, all, whole) =
    let first = shows_before more back gate (1 ∷ []) (shows_at more gate (1 ∷ []) (subst (λ l. IsShownAt l gate (1 ∷ [])) (sym is_one) (at_first gate 1 (1 ∷ []) []))) in
    let both = shows_both (more ++ back) gate (gate + 1) (1 ∷ []) (block_bytes payload) (omega arith) first (shows_behind more back (gate + 1) (block_bytes payload) s) in
    (payload, record { gate_open = gate_opens gate more back is_one; block = both }, is, all)
block_shown gate more back before out (Ok None) is_one behind = absurd behind
block_shown gate more back before out (Err (fault.Damaged at)) is_one (short, is, same) = (record { gate_open = gate_opens gate more back is_one; short = short }, is, same)
block_shown gate more back before out (Err fault.DiskFailed) is_one (whole, same) = same
block_shown gate more back before out (Err fault.Memory) is_one (whole, same) = (gate_opens gate more back is_one, same)

-- damage that was shown is told
module _ (gate : ℕ) (more back : List Shown) (is_one : IsGateShown gate more true) where
  short_behind : ShowsCut gate (more ++ back) → ShowsShort gate back
  short_behind cut =
      let e : back ≡ cut.gate_open.later = ap (drop 1) (sym (ap (λ l. l ++ back) is_one) ∙ cut.gate_open.begins) in
      subst (ShowsShort gate) (sym e) cut.short

  pub cut_told : (before out : List ℕ) (result : Result (Option ℕ) JournalFault) → IsBehindShown gate back before out result → TellsCut gate (more ++ back) result
  cut_told before out (Ok (Some next)) (payload, s, is, all, whole) = λ cut. absurd (whole (short_behind cut))
  cut_told before out (Ok None) behind = absurd behind
  cut_told before out (Err (fault.Damaged at)) (short, is, same) = λ cut. ap (λ n. Err (fault.Damaged n)) is
  cut_told before out (Err fault.DiskFailed) (whole, same) = λ cut. absurd (whole (short_behind cut))
  cut_told before out (Err fault.Memory) (whole, same) = λ cut. absurd (whole (short_behind cut))

-- and none was shown where no gate was, or one that is shut
pub none_cut : (gate : ℕ) (more : List Shown) → more ≡ [] → ShowsCut gate more → ⊥
none_cut gate more is cut = omega (arith, ap length is, ap length cut.gate_open.begins)

shut_not_open : (gate : ℕ) (front before after : List ℕ) → IsShut front → before ≡ [] → before ++ (1 ∷ []) ++ after ≡ front → ⊥
shut_not_open gate front before after shut none e = by_shut shut (ap (λ l. l ++ (1 ∷ []) ++ after) (sym none) ∙ e)
  where
    by_shut : IsShut front → 1 ∷ after ≡ front → ⊥
    by_shut (inl is) f = omega (arith, ap length f, ap length is)
    by_shut (inr (byte, rest, not_one, is)) f = not_one (sym (ap (λ (l : List ℕ). get_or l 0 0) (f ∙ is)))

pub shut_cut : (gate : ℕ) (more : List Shown) → IsGateShown gate more false → ShowsCut gate more → ⊥
shut_cut gate more (front, shut, is) cut =
    let o = cut.gate_open.is_open in
    let first : cut.gate_open.first ≡ bytes_from gate 1 front = sym (ap (λ (l : List Shown). get_or l 0 cut.gate_open.first) (sym is ∙ cut.gate_open.begins)) in
    let one : bytes_from o.from o.asked (o.before ++ (1 ∷ []) ++ o.after) ≡ bytes_from gate 1 front = was_only cut.gate_open.first (bytes_from o.from o.asked (o.before ++ (1 ∷ []) ++ o.after)) o.there ∙ first in
    let place : o.from ≡ gate = cc one in
    let bytes : o.before ++ (1 ∷ []) ++ o.after ≡ front = cc one in
    shut_not_open gate front o.before o.after shut (none_left o.before (omega (arith, place, o.place_is))) bytes

shut_front : (gate : ℕ) (front : List ℕ) → IsShut front → ShowsShut gate (bytes_from gate 1 front ∷ [])
shut_front gate front (inl e) = inl (record { asked = 1; some = omega arith; there = subst (λ f. WasShown (bytes_from gate 1 f ∷ []) (bytes_from gate 1 [])) (sym e) (was_first (bytes_from gate 1 []) []) })
shut_front gate front (inr (byte, rest, not_one, e)) = inr (
  byte,
  not_one,
  record {
    from = gate;
    asked = 1;
    before = [];
    after = rest;
    there = subst (λ f. WasShown (bytes_from gate 1 f ∷ []) (bytes_from gate 1 (byte ∷ rest))) (sym e) (was_first (bytes_from gate 1 (byte ∷ rest)) []);
    place_is = omega arith;
  },
)

pub shut_shown : (gate : ℕ) (more : List Shown) → IsGateShown gate more false → ShowsShut gate more
shut_shown gate more (front, shut, is) = subst (ShowsShut gate) (sym is) (shut_front gate front shut)
