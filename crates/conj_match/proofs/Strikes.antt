-- Entries that are counted as if they were plain, and then struck where they are negated.
use Rattle.std.proofs.Common.{◌≡◌, ◌≢◌, ℕ, ◌+◌, ◌-◌, ◌*◌, ◌/◌, ◌%◌, ◌^◌, ◌<◌, ◌≤◌, ◌==◌, ◌&&◌, ◌||◌, not, inl, inr, List, [], ◌∷◌, ◌++◌, Bool, true, false, cond, count_by, get_or, length, set, slice_index, take, take_all, refl, sym, ◌∙◌, ap, subst, arith, suc, zero, bit_and, w64}
use Rattle.std.specs.Int.{bit_at, bit_not, trailing_zeros}
use Rattle.std.specs.List.{list_any}
use Rattle.std.proofs.lemmas.Bool.{cases_lt, cases_eq}
use Rattle.std.proofs.lemmas.List.{get_or-set_same, get_or-set_other, take_more}
use Rattle.std.proofs.lemmas.List.Folds.{list_any-append}
use Rattle.std.proofs.lemmas.List.Sums.{sum_by-append, sum_by-cons, sum_by_push}
use Rattle.std.proofs.lemmas.Nat.Bits.{bit_at-zero, bit_at-trailing_zeros, bit_at_clear_same, bit_at_clear_other}
use Rattle.postings.specs.declared.entry.Entry.{Entry}
use Rattle.postings.specs.Order.{entry_at}
use Rattle.postings.specs.Packed.{is_marked, unpack, unpack_from}
use Rattle.postings.proofs.Unpacked.{unpacked_at, unpacked_length}
use Rattle.conj_match.specs.Strikes.{AreCounted, AreStruck, counted, struck}
use Rattle.conj_match.specs.Tally.{AreTallied, asks, excludes, is_of, tally_of}
use Rattle.conj_match.proofs.Marks.{count_more, other_is, same_is}
use Rattle.conj_match.proofs.Words.{word_is}

-- one mark changed
pub changed_at : (marks : List ℕ) (n i v : ℕ) → n < length marks → slice_index (set marks n v) i ≡ cond (i == n) v (slice_index marks i)
changed_at marks n i v within =
    elim (cases_eq i n) [
      | inl same ↦ ap (slice_index (set marks n v)) same ∙ get_or-set_same marks n v 0 within ∙ sym (ap (λ b. cond b v (slice_index marks i)) (same_is i n same))
      | inr other ↦ get_or-set_other marks n i v 0 other ∙ sym (ap (λ b. cond b v (slice_index marks i)) (other_is i n other))
    ]

pub kept_beyond : (marks : List ℕ) (n i v : ℕ) → length marks ≤ n → i < length marks → slice_index marks i ≡ cond (i == n) v (slice_index marks i)
kept_beyond marks n i v past h =
    let other : i ≢ n = omega arith in
    sym (ap (λ b. cond b v (slice_index marks i)) (other_is i n other))

-- the new value at the number itself
pub changed_here : (marks : List ℕ) (n i : ℕ) (f : ℕ → ℕ) → cond (i == n) (f (slice_index marks n)) (slice_index marks i) ≡ cond (i == n) (f (slice_index marks i)) (slice_index marks i)
changed_here marks n i f =
    elim (cases_eq i n) [
      | inl same ↦ ap (λ m. cond (i == n) (f (slice_index marks m)) (slice_index marks i)) (sym same)
      | inr other ↦ ap (λ b. cond b (f (slice_index marks n)) (slice_index marks i)) (other_is i n other) ∙ sym (ap (λ b. cond b (f (slice_index marks i)) (slice_index marks i)) (other_is i n other))
    ]

-- numbers that are counted, one by one
ids_more : (i : ℕ) (ids : List ℕ) (j : ℕ) → j < length ids → count_by (λ n. n == i) (take (j + 1) ids) ≡ count_by (λ n. n == i) (take j ids) + cond (get_or ids j 0 == i) 1 0
ids_more i ids j within =
    ap (count_by (λ n. n == i)) (take_more ids j 0 within)
    ∙ sum_by_push (λ n. cond (n == i) 1 0) (take j ids) (get_or ids j 0)

counted_step : (m n : ℕ) → (counted m n + 1) % 256 ≡ counted m (suc n)
counted_step m zero = omega arith
counted_step m (suc n) = omega arith

counted_here : (m c n i : ℕ) → cond (i == n) ((counted m c + 1) % 256) (counted m c) ≡ counted m (c + cond (n == i) 1 0)
counted_here m c n i =
    let one : suc c ≡ c + 1 = omega arith in
    let none : c ≡ c + 0 = omega arith in
    elim (cases_eq i n) [
      | inl same ↦
          ap (λ b. cond b ((counted m c + 1) % 256) (counted m c)) (same_is i n same)
          ∙ counted_step m c
          ∙ ap (counted m) one
          ∙ ap (λ b. counted m (c + cond b 1 0)) (sym (same_is n i (sym same)))
      | inr other ↦
          ap (λ b. cond b ((counted m c + 1) % 256) (counted m c)) (other_is i n other)
          ∙ ap (counted m) none
          ∙ ap (λ b. counted m (c + cond b 1 0)) (sym (other_is n i (λ q. other (sym q))))
    ]

pub counted_more : (first marks new ids : List ℕ) (j : ℕ) → j < length ids → length marks ≡ length first → AreCounted first (take j ids) marks
    → ((i : ℕ) → i < length marks → slice_index new i ≡ cond (i == get_or ids j 0) ((slice_index marks i + 1) % 256) (slice_index marks i))
    → AreCounted first (take (j + 1) ids) new
counted_more first marks new ids j within len before here i h =
    here i (omega arith)
    ∙ ap (λ m. cond (i == get_or ids j 0) ((m + 1) % 256) m) (before i h)
    ∙ counted_here (slice_index first i) (count_by (λ n. n == i) (take j ids)) (get_or ids j 0) i
    ∙ ap (counted (slice_index first i)) (sym (ids_more i ids j within))

counted_is : (m n : ℕ) → m < 256 → counted m n ≡ (m + n) % 256
counted_is m zero h = omega arith
counted_is m (suc n) h = refl

-- the negated entries of a number among the first ones
struck_step : (m n : ℕ) → (struck m n + 127) % 128 ≡ struck m (suc n)
struck_step m zero = omega arith
struck_step m (suc n) = omega arith

signs_more : (i : ℕ) (es : List Entry) (j : ℕ) → j < length es → count_by (excludes i) (take (j + 1) es) ≡ count_by (excludes i) (take j es) + cond (excludes i (entry_at es j)) 1 0
signs_more i es j within = ap (count_by (excludes i)) (take_more es j (record { id = 0; negated = true }) within) ∙ count_more (excludes i) (take j es) (entry_at es j)

signs_past : (i : ℕ) (es : List Entry) (m n : ℕ) → length es ≤ m → m ≤ n → count_by (excludes i) (take n es) ≡ count_by (excludes i) (take m es)
signs_past i es m n past le = ap (count_by (excludes i)) (take_all n es (omega arith) ∙ sym (take_all m es past))

and_false : (b : Bool) → (b && false) ≡ false
and_false true = refl
and_false false = refl

and_true : (b : Bool) → (b && true) ≡ b
and_true true = refl
and_true false = refl

signs_plain : (i : ℕ) (ids signs : List ℕ) (j : ℕ) → is_marked signs j ≡ false → count_by (excludes i) (take (j + 1) (unpack ids signs)) ≡ count_by (excludes i) (take j (unpack ids signs))
signs_plain i ids signs j plain =
    let es = unpack ids signs in
    let long = unpacked_length ids signs in
    elim (cases_lt j (length ids)) [
      | inl lt ↦
          signs_more i es j (omega arith)
          ∙ ap (λ (e : Entry). count_by (excludes i) (take j es) + cond (excludes i e) 1 0) (unpacked_at ids signs j lt)
          ∙ ap (λ b. count_by (excludes i) (take j es) + cond ((slice_index ids j == i) && b) 1 0) plain
          ∙ ap (λ b. count_by (excludes i) (take j es) + cond b 1 0) (and_false (slice_index ids j == i))
          ∙ omega arith
      | inr ge ↦ signs_past i es j (j + 1) (omega arith) (omega arith)
    ]

signs_skip : (i : ℕ) (ids signs : List ℕ) (m d : ℕ) → ((j : ℕ) → m ≤ j → j < m + d → is_marked signs j ≡ false) → count_by (excludes i) (take (m + d) (unpack ids signs)) ≡ count_by (excludes i) (take m (unpack ids signs))
signs_skip i ids signs m zero none = ap (λ n. count_by (excludes i) (take n (unpack ids signs))) (omega arith)
signs_skip i ids signs m (suc d) none =
    let same : m + suc d ≡ m + d + 1 = omega arith in
    ap (λ n. count_by (excludes i) (take n (unpack ids signs))) same
    ∙ signs_plain i ids signs (m + d) (none (m + d) (omega arith) (omega arith))
    ∙ signs_skip i ids signs m d (λ j from h. none j from (omega arith))

pub struck_skip : (first ids signs marks : List ℕ) (m n : ℕ) → m ≤ n → ((j : ℕ) → m ≤ j → j < n → is_marked signs j ≡ false) → AreStruck first (unpack ids signs) m marks → AreStruck first (unpack ids signs) n marks
struck_skip first ids signs marks m n le none before i h =
    let same : m + (n - m) ≡ n = omega arith in
    before i h
    ∙ ap (struck (slice_index first i)) (sym (signs_skip i ids signs m (n - m) (λ j from less. none j from (omega arith))) ∙ ap (λ k. count_by (excludes i) (take k (unpack ids signs))) same)

struck_here : (m c n i : ℕ) → cond (i == n) ((struck m c + 127) % 128) (struck m c) ≡ struck m (c + cond (n == i) 1 0)
struck_here m c n i =
    let one : suc c ≡ c + 1 = omega arith in
    let none : c ≡ c + 0 = omega arith in
    elim (cases_eq i n) [
      | inl same ↦
          ap (λ b. cond b ((struck m c + 127) % 128) (struck m c)) (same_is i n same)
          ∙ struck_step m c
          ∙ ap (struck m) one
          ∙ ap (λ b. struck m (c + cond b 1 0)) (sym (same_is n i (sym same)))
      | inr other ↦
          ap (λ b. cond b ((struck m c + 127) % 128) (struck m c)) (other_is i n other)
          ∙ ap (struck m) none
          ∙ ap (λ b. struck m (c + cond b 1 0)) (sym (other_is n i (λ q. other (sym q))))
    ]

-- one negated entry more is struck
pub struck_more : (first ids signs marks new : List ℕ) (j : ℕ) → is_marked signs j ≡ true → length marks ≡ length first → AreStruck first (unpack ids signs) j marks
    → (j < length ids → (i : ℕ) → i < length marks → slice_index new i ≡ cond (i == slice_index ids j) ((slice_index marks i + 127) % 128) (slice_index marks i)) → (length ids ≤ j → new ≡ marks)
    → AreStruck first (unpack ids signs) (j + 1) new
struck_more first ids signs marks new j negated len before there past i h =
    let es = unpack ids signs in
    let long = unpacked_length ids signs in
    elim (cases_lt j (length ids)) [
      | inl lt ↦
          there lt i (omega arith)
          ∙ ap (λ m. cond (i == slice_index ids j) ((m + 127) % 128) m) (before i h)
          ∙ struck_here (slice_index first i) (count_by (excludes i) (take j es)) (slice_index ids j) i
          ∙ ap (λ b. struck (slice_index first i) (count_by (excludes i) (take j es) + cond b 1 0)) (sym (ap (λ b. (slice_index ids j == i) && b) negated ∙ and_true (slice_index ids j == i)))
          ∙ ap (λ (e : Entry). struck (slice_index first i) (count_by (excludes i) (take j es) + cond (excludes i e) 1 0)) (sym (unpacked_at ids signs j lt))
          ∙ ap (struck (slice_index first i)) (sym (signs_more i es j (omega arith)))
      | inr ge ↦
          ap (λ l. slice_index l i) (past ge)
          ∙ before i h
          ∙ ap (struck (slice_index first i)) (sym (signs_past i es j (j + 1) (omega arith) (omega arith)))
    ]

-- of one word the bits below `m` are struck
pub record WordStruck (ids signs : List ℕ) (p : ℕ) (old : List ℕ) (rest m : ℕ) (marks : List ℕ) : Type 0 where
  pub within : m ≤ 64
  pub len : length marks ≡ length old
  pub done : (i : ℕ) → i < m → bit_at rest i ≡ 0
  pub left : (i : ℕ) → m ≤ i → i < 64 → bit_at rest i ≡ bit_at (slice_index signs p) i
  pub those : (first : List ℕ) → length first ≡ length old → AreStruck first (unpack ids signs) (64 * p) old → AreStruck first (unpack ids signs) (64 * p + m) marks

pub word_none : (ids signs : List ℕ) (p : ℕ) (old : List ℕ) (rest : ℕ) → rest ≡ slice_index signs p → WordStruck ids signs p old rest 0 old
word_none ids signs p old rest is = record {
  within = omega arith;
  len = refl;
  done = λ i h. absurd (omega arith);
  left = λ i from h. ap (λ w. bit_at w i) is;
  those = λ first long before. let same : 64 * p ≡ 64 * p + 0 = omega arith in subst (λ n. AreStruck first (unpack ids signs) n old) same before;
}

unset : (signs : List ℕ) (p m n : ℕ) → n ≤ 64 → ((i : ℕ) → m ≤ i → i < n → bit_at (slice_index signs p) i ≡ 0) → (j : ℕ) → 64 * p + m ≤ j → j < 64 * p + n → is_marked signs j ≡ false
unset signs p m n within none j from h =
    let same : 64 * p + (j - 64 * p) ≡ j = omega arith in
    ap (is_marked signs) (sym same) ∙ word_is signs p (j - 64 * p) (omega arith) ∙ ap (λ b. b == 1) (none (j - 64 * p) (omega arith) (omega arith))

pub word_more : (ids signs : List ℕ) (p : ℕ) (old : List ℕ) (rest m : ℕ) (marks new : List ℕ) (t : ℕ) → 0 < rest → rest < 2 ^ 64 → t ≡ trailing_zeros w64 rest → length new ≡ length marks
    → (64 * p + t < length ids → (i : ℕ) → i < length marks → slice_index new i ≡ cond (i == slice_index ids (64 * p + t)) ((slice_index marks i + 127) % 128) (slice_index marks i)) → (length ids ≤ 64 * p + t → new ≡ marks)
    → WordStruck ids signs p old rest m marks → WordStruck ids signs p old (bit_and rest (bit_not w64 (1 * 2 ^ t % 18446744073709551616))) (t + 1) new
word_more ids signs p old rest m marks new t some fits is kept there past h =
    let lowest = bit_at-trailing_zeros w64 rest some fits in
    let low : t < 64 = subst (λ n. n < 64) (sym is) lowest.0 in
    let one : bit_at rest t ≡ 1 = subst (λ n. bit_at rest n ≡ 1) (sym is) lowest.1 in
    let none : (i : ℕ) → i < t → bit_at rest i ≡ 0 = λ i less. lowest.2 i (subst (λ n. i < n) is less) in
    let from : m ≤ t = elim (cases_lt t m) [
      | inl lt ↦ let zero_there = h.done t lt in absurd (omega arith)
      | inr ge ↦ ge
    ] in
    record {
      within = omega arith;
      len = kept ∙ h.len;
      done = λ i less. elim (cases_lt i t) [
        | inl lt ↦
            let other : i ≢ t = omega arith in
            bit_at_clear_other w64 rest t low i (omega arith) other ∙ none i lt
        | inr ge ↦
            let same : t ≡ i = omega arith in
            subst (λ n. bit_at (bit_and rest (bit_not w64 (1 * 2 ^ t % 18446744073709551616))) n ≡ 0) same (bit_at_clear_same w64 rest t low)
      ];
      left = λ i after less. let other : i ≢ t = omega arith in bit_at_clear_other w64 rest t low i less other ∙ h.left i (omega arith) less;
      those = λ first long before.
          let up = struck_skip first ids signs marks (64 * p + m) (64 * p + t) (omega arith) (unset signs p m t (omega arith) (λ i at less. sym (h.left i at (omega arith)) ∙ none i less)) (h.those first long before) in
          let here : is_marked signs (64 * p + t) ≡ true = word_is signs p t low ∙ ap (λ n. n == 1) (sym (h.left t from low) ∙ one) in
          let next : 64 * p + t + 1 ≡ 64 * p + (t + 1) = omega arith in
          subst (λ n. AreStruck first (unpack ids signs) n new) next (struck_more first ids signs marks new (64 * p + t) here (h.len ∙ sym long) up there past);
    }

pub word_all : (ids signs : List ℕ) (p : ℕ) (old : List ℕ) (rest m : ℕ) (marks : List ℕ) → rest ≡ 0 → WordStruck ids signs p old rest m marks → (first : List ℕ) → length first ≡ length old → AreStruck first (unpack ids signs) (64 * p) old → AreStruck first (unpack ids signs) (64 * (p + 1)) marks
word_all ids signs p old rest m marks none h first long before =
    let within = h.within in
    let next : 64 * p + 64 ≡ 64 * (p + 1) = omega arith in
    subst (λ n. AreStruck first (unpack ids signs) n marks) next
    (struck_skip first ids signs marks (64 * p + m) (64 * p + 64) (omega arith)
    (unset signs p m 64 (omega arith) (λ i at less. sym (h.left i at less) ∙ ap (λ n. bit_at n i) none ∙ bit_at-zero i))
    (h.those first long before))

pub struck_none : (marks : List ℕ) (es : List Entry) → AreStruck marks es 0 marks
struck_none marks es i h = refl

-- past the last entry no more is struck
pub struck_end : (marks ids signs new : List ℕ) (n : ℕ) → length ids ≤ n → AreStruck marks (unpack ids signs) n new → AreStruck marks (unpack ids signs) (length ids) new
struck_end marks ids signs new n past before i h =
    let long = unpacked_length ids signs in
    before i h ∙ ap (struck (slice_index marks i)) (signs_past i (unpack ids signs) (length ids) n (omega arith) past)

-- the numbers that are counted are those of the entries, the plain and the negated ones
count_ids : (i : ℕ) (signs : List ℕ) (n : ℕ) (ids : List ℕ) → count_by (λ k. k == i) ids ≡ count_by (is_of i) (unpack_from signs n ids)
count_ids i signs n [] = refl
count_ids i signs n (id ∷ ids) =
    sum_by-cons (λ k. cond (k == i) 1 0) id ids
    ∙ ap (λ c. cond (id == i) 1 0 + c) (count_ids i signs (n + 1) ids)
    ∙ sym (sum_by-cons (λ (e : Entry). cond (is_of i e) 1 0) (record { id = id; negated = is_marked signs n }) (unpack_from signs (n + 1) ids))

either : (b s : Bool) (x y z : ℕ) → z ≡ x + y → cond b 1 0 + z ≡ (cond (b && not s) 1 0 + x) + (cond (b && s) 1 0 + y)
either true true x y z e = omega arith
either true false x y z e = omega arith
either false s x y z e = omega arith

count_parts : (i : ℕ) (es : List Entry) → count_by (is_of i) es ≡ count_by (asks i) es + count_by (excludes i) es
count_parts i [] = refl
count_parts i (e ∷ es) =
    sum_by-cons (λ x. cond (is_of i x) 1 0) e es
    ∙ either (e.id == i) e.negated (count_by (asks i) es) (count_by (excludes i) es) (count_by (is_of i) es) (count_parts i es)
    ∙ ap (λ n. n + (cond (excludes i e) 1 0 + count_by (excludes i) es)) (sym (sum_by-cons (λ x. cond (asks i x) 1 0) e es))
    ∙ ap (λ n. count_by (asks i) (e ∷ es) + n) (sym (sum_by-cons (λ x. cond (excludes i x) 1 0) e es))

any_step : (b x : Bool) (n c : ℕ) → c ≡ cond b 1 0 + n → (n ≡ 0 → x ≡ false) × (0 < n → x ≡ true) → (c ≡ 0 → (b || x) ≡ false) × (0 < c → (b || x) ≡ true)
any_step true x n c e h = (λ z. absurd (omega arith), λ z. refl)
any_step false x n c e h = (λ z. h.0 (omega arith), λ z. h.1 (omega arith))

any_counted : (p : Entry → Bool) (es : List Entry) → (count_by p es ≡ 0 → list_any p es ≡ false) × (0 < count_by p es → list_any p es ≡ true)
any_counted p [] = (λ z. refl, λ z. absurd (omega arith))
any_counted p (e ∷ es) = any_step (p e) (list_any p es) (count_by p es) (count_by p (e ∷ es)) (sum_by-cons (λ x. cond (p x) 1 0) e es) (any_counted p es)

mark_is : (x y : Bool) (a b n m : ℕ) → m ≡ cond x 0 128 + a → a + b < 128 → (n ≡ 0 → y ≡ false) × (0 < n → y ≡ true) → struck ((m + (b + n)) % 256) n ≡ cond (x || y) 0 128 + (a + b)
mark_is true y a b zero m is few any = omega arith
mark_is true y a b (suc n) m is few any = omega arith
mark_is false y a b zero m is few any =
    let same : (m + (b + zero)) % 256 ≡ 128 + (a + b) = omega arith in
    same ∙ ap (λ s. cond s 0 128 + (a + b)) (sym (any.0 refl))
mark_is false y a b (suc n) m is few any =
    let same : ((m + (b + suc n)) % 256 + 127 * suc n) % 128 ≡ 0 + (a + b) = omega arith in
    same ∙ ap (λ s. cond s 0 128 + (a + b)) (sym (any.1 (omega arith)))

mark_fits : (x : Bool) (a m : ℕ) → m ≡ cond x 0 128 + a → a < 128 → m < 256
mark_fits true a m is few = omega arith
mark_fits false a m is few = omega arith

-- so each mark is that of the entries before and of these
pub tallied_by : (first marks new ids signs : List ℕ) (before : List Entry) → length marks ≡ length first → length new ≡ length first → AreCounted first ids marks
    → AreStruck marks (unpack ids signs) (length ids) new → AreTallied first before → AreTallied new (before ++ unpack ids signs)
tallied_by first marks new ids signs before len kept counts struck_there tallied i h few =
    let es = unpack ids signs in
    let within : i < length first = omega arith in
    let all : take (length ids) es ≡ es = take_all (length ids) es (omega (arith, unpacked_length ids signs)) in
    let sum : count_by (asks i) (before ++ es) ≡ count_by (asks i) before + count_by (asks i) es = sum_by-append (λ x. cond (asks i x) 1 0) before es in
    let old : slice_index first i ≡ tally_of i before = tallied i within (omega arith) in
    let fits : slice_index first i < 256 = mark_fits (list_any (excludes i) before) (count_by (asks i) before) (slice_index first i) old (omega arith) in
    struck_there i (omega arith)
    ∙ ap (λ l. struck (slice_index marks i) (count_by (excludes i) l)) all
    ∙ ap (λ m. struck m (count_by (excludes i) es)) (counts i within ∙ ap (counted (slice_index first i)) (count_ids i signs 0 ids ∙ count_parts i es) ∙ counted_is (slice_index first i) (count_by (asks i) es + count_by (excludes i) es) fits)
    ∙ mark_is (list_any (excludes i) before) (list_any (excludes i) es) (count_by (asks i) before) (count_by (asks i) es) (count_by (excludes i) es) (slice_index first i) old (omega arith) (any_counted (excludes i) es)
    ∙ ap (λ s. cond s 0 128 + (count_by (asks i) before + count_by (asks i) es)) (sym (list_any-append (excludes i) before es))
    ∙ ap (λ n. cond (list_any (excludes i) (before ++ es)) 0 128 + n) (sym sum)
