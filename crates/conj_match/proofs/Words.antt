-- Numbers as bits of words.
use Rattle.std.proofs.Common.{◌≡◌, ◌≢◌, ℕ, ◌+◌, ◌-◌, ◌*◌, ◌/◌, ◌%◌, ◌^◌, ◌<◌, ◌≤◌, ◌==◌, ◌||◌, max, inl, inr, List, [], ◌∷◌, ◌++◌, Bool, true, false, cond, All, Contains, drop, get_or, length, nat_le, nat_lt, set, slice_index, take, refl, sym, ◌∙◌, ap, subst, arith, suc, zero, bit_and, bit_or, w64}
use Rattle.std.specs.Int.{bit_at, bit_not, trailing_zeros}
use Rattle.std.specs.List.{list_any}
use Rattle.std.specs.Cmp.Derive.{one_truth}
use Rattle.std.proofs.lemmas.Bool.{cases_lt, cases_eq, false≢true, le-leb, lt-leb}
use Rattle.std.proofs.lemmas.Nat.{and_le_l}
use Rattle.std.proofs.lemmas.List.{get_or-drop, get_or-set_same, get_or-set_other, get_or_default, take_more}
use Rattle.std.proofs.lemmas.List.Elements.{Contains-append_left, Contains-push, Contains-push_cases}
use Rattle.std.proofs.lemmas.List.Folds.{list_any-append}
use Rattle.std.proofs.lemmas.Nat.Bits.{bit_at-lt, bit_at-zero, bit_at_or, bit_at-trailing_zeros, bit_at_clear_same, bit_at_clear_other}
use Rattle.postings.specs.declared.entry.Entry.{Entry}
use Rattle.postings.specs.Packed.{is_marked}
use Rattle.postings.proofs.Marks.{set_here, set_other}
use Rattle.conj_match.specs.Bits.{AreSet, AreThose, IsWord}
use Rattle.conj_match.specs.Matching.{IsAnswer, is_match}
use Rattle.conj_match.specs.Tally.{IsBelow, is_hit}
use Rattle.conj_match.proofs.Marks.{beyond, or_false, or_true, other_is, same_is}
use Rattle.conj_match.proofs.Merge.{below_push, rising_push}

pub bit_set : (bits : List ℕ) (n : ℕ) → n / 64 < length bits → AreSet (λ i. i == n) bits (set bits (n / 64) (bit_or (slice_index bits (n / 64)) (1 * 2 ^ (n % 64) % 18446744073709551616)))
bit_set bits n room i h =
    let within : n < 64 * length bits = omega arith in
    let new = set bits (n / 64) (bit_or (slice_index bits (n / 64)) (1 * 2 ^ (n % 64) % 18446744073709551616)) in
    elim (cases_eq i n) [
      | inl same ↦ ap (is_marked new) same ∙ set_here bits n within ∙ sym (ap (λ b. is_marked bits i || b) (same_is i n same) ∙ or_true (is_marked bits i))
      | inr other ↦ set_other bits n i within other ∙ sym (ap (λ b. is_marked bits i || b) (other_is i n other) ∙ or_false (is_marked bits i))
    ]

pub bit_beyond : (bits : List ℕ) (n : ℕ) → length bits ≤ n / 64 → AreSet (λ i. i == n) bits bits
bit_beyond bits n past i h =
    let other : i ≢ n = omega arith in
    sym (ap (λ b. is_marked bits i || b) (other_is i n other) ∙ or_false (is_marked bits i))

or_assoc : (x y z : Bool) → ((x || y) || z) ≡ (x || (y || z))
or_assoc true y z = refl
or_assoc false y z = refl

any_push : (p : ℕ → Bool) (xs : List ℕ) (x : ℕ) → list_any p (xs ++ x ∷ []) ≡ (list_any p xs || p x)
any_push p xs x = list_any-append p xs (x ∷ []) ∙ ap (λ b. list_any p xs || b) (or_false (p x))

pub set_none : (bits : List ℕ) → AreSet (λ i. list_any (λ n. i == n) []) bits bits
set_none bits i h = sym (or_false (is_marked bits i))

pub set_more : (numbers : List ℕ) (j n : ℕ) (old bits new : List ℕ) → j < length numbers → n ≡ get_or numbers j 0 → length bits ≡ length old → AreSet (λ i. list_any (λ m. i == m) (take j numbers)) old bits → AreSet (λ i. i == n) bits new
    → AreSet (λ i. list_any (λ m. i == m) (take (j + 1) numbers)) old new
set_more numbers j n old bits new within is len before here i h =
    here i (omega arith)
    ∙ ap (λ b. b || (i == n)) (before i h)
    ∙ or_assoc (is_marked old i) (list_any (λ m. i == m) (take j numbers)) (i == n)
    ∙ ap (λ b. is_marked old i || b) (ap (λ m. list_any (λ x. i == x) (take j numbers) || (i == m)) is ∙ sym (any_push (λ m. i == m) (take j numbers) (get_or numbers j 0)) ∙ ap (list_any (λ m. i == m)) (sym (take_more numbers j 0 within)))

-- one word with further bits
or_test : (a b : ℕ) → a < 2 → b < 2 → (max a b == 1) ≡ ((a == 1) || (b == 1))
or_test a b la lb =
    elim (cases_eq a 1) [
      | inl one ↦ same_is (max a b) 1 (omega arith) ∙ sym (ap (λ x. x || (b == 1)) (same_is a 1 one))
      | inr none ↦
          let is : max a b ≡ b = omega arith in
          ap (λ n. n == 1) is ∙ sym (ap (λ x. x || (b == 1)) (other_is a 1 none))
    ]

word_here : (bits : List ℕ) (p v i : ℕ) → p < length bits → i / 64 ≡ p → is_marked (set bits p (bit_or (slice_index bits p) v)) i ≡ (is_marked bits i || (bit_at v (i % 64) == 1))
unfolding is_marked
word_here bits p v i within is =
    ap (λ n. bit_at (slice_index (set bits p (bit_or (slice_index bits p) v)) n) (i % 64) == 1) is
    ∙ ap (λ w. bit_at w (i % 64) == 1) (get_or-set_same bits p (bit_or (slice_index bits p) v) 0 within)
    ∙ ap (λ n. n == 1) (bit_at_or (slice_index bits p) v (i % 64))
    ∙ or_test (bit_at (slice_index bits p) (i % 64)) (bit_at v (i % 64)) (bit_at-lt (slice_index bits p) (i % 64)) (bit_at-lt v (i % 64))
    ∙ ap (λ n. (bit_at (slice_index bits n) (i % 64) == 1) || (bit_at v (i % 64) == 1)) (sym is)

word_other : (bits : List ℕ) (p v i : ℕ) → i / 64 ≢ p → is_marked (set bits p (bit_or (slice_index bits p) v)) i ≡ is_marked bits i
unfolding is_marked
word_other bits p v i other = ap (λ w. bit_at w (i % 64) == 1) (get_or-set_other bits p (i / 64) (bit_or (slice_index bits p) v) 0 other)

test_bit : (x : Bool) → (cond x 1 0 == 1) ≡ x
test_bit true = refl
test_bit false = refl

-- what a sweep has done up to a word
pub swept_done : (marks first bits : List ℕ) (k p v : ℕ) → p < length bits → ((i : ℕ) → i < 64 → bit_at v i ≡ cond (is_hit k (slice_index marks (64 * p + i))) 1 0)
    → ((i : ℕ) → i < 64 * p → is_marked bits i ≡ (is_marked first i || is_hit k (slice_index marks i))) → ((i : ℕ) → 64 * p ≤ i → is_marked bits i ≡ is_marked first i)
    → (i : ℕ) → i < 64 * (p + 1) → is_marked (set bits p (bit_or (slice_index bits p) v)) i ≡ (is_marked first i || is_hit k (slice_index marks i))
swept_done marks first bits k p v within word done ahead i h =
    elim (cases_lt i (64 * p)) [
      | inl lt ↦
          let other : i / 64 ≢ p = omega arith in
          word_other bits p v i other ∙ done i lt
      | inr ge ↦
          let here : i / 64 ≡ p = omega arith in
          let same : 64 * p + i % 64 ≡ i = omega arith in
          word_here bits p v i within here
          ∙ ap (λ b. b || (bit_at v (i % 64) == 1)) (ahead i ge)
          ∙ ap (λ n. is_marked first i || (n == 1)) (word (i % 64) (omega arith))
          ∙ ap (λ b. is_marked first i || b) (test_bit (is_hit k (slice_index marks (64 * p + i % 64))))
          ∙ ap (λ n. is_marked first i || is_hit k (slice_index marks n)) same
    ]

pub swept_ahead : (first bits : List ℕ) (p v : ℕ) → ((i : ℕ) → 64 * p ≤ i → is_marked bits i ≡ is_marked first i) → (i : ℕ) → 64 * (p + 1) ≤ i → is_marked (set bits p (bit_or (slice_index bits p) v)) i ≡ is_marked first i
swept_ahead first bits p v ahead i h =
    let other : i / 64 ≢ p = omega arith in
    word_other bits p v i other ∙ ahead i (omega arith)

-- the numbers that pass a test, up to a number
pub those_none : (p : ℕ → Bool) (ids : List ℕ) → length ids ≡ 0 → AreThose p 0 ids
those_none p ids none = record {
  rising = λ i h. absurd (omega arith);
  below = λ i h. absurd (omega arith);
  sound = λ id among. absurd (omega (arith, among.1));
  whole = λ id h is. absurd (omega arith);
}

pub those_yes : (p : ℕ → Bool) (n : ℕ) (ids : List ℕ) → p n ≡ true → AreThose p n ids → AreThose p (n + 1) (ids ++ n ∷ [])
those_yes p n ids is those = record {
  rising = rising_push ids n those.rising those.below;
  below = below_push ids n those.below;
  sound = λ id among. elim (Contains-push_cases ids n id among) [
    | inl old ↦ those.sound id old
    | inr e ↦ subst (λ x. p x ≡ true) e is
  ];
  whole = λ id h yes. elim (cases_lt id n) [
    | inl lt ↦ Contains-append_left ids (n ∷ []) id (those.whole id lt yes)
    | inr ge ↦
        let e : n ≡ id = omega arith in
        subst (Contains (ids ++ n ∷ [])) e (Contains-push ids n)
  ];
}

pub those_skip : (p : ℕ → Bool) (m n : ℕ) (ids : List ℕ) → m ≤ n → ((i : ℕ) → m ≤ i → i < n → p i ≡ false) → AreThose p m ids → AreThose p n ids
those_skip p m n ids le none those = record {
  rising = those.rising;
  below = λ i h. less (slice_index ids i) m n le (those.below i h);
  sound = those.sound;
  whole = λ id h yes. elim (cases_lt id m) [
    | inl lt ↦ those.whole id lt yes
    | inr ge ↦ absurd (false≢true (sym (none id ge h) ∙ yes))
  ];
}
  where
    less : (x m n : ℕ) → m ≤ n → x < m → x < n
    less x m n le h = omega arith

-- the bits of one word that are pushed so far: those below `m`
pub record ArePushed (word base : ℕ) (first : List ℕ) (rest m : ℕ) (ids : List ℕ) : Type 0 where
  pub within : m ≤ 64
  pub done : (i : ℕ) → i < m → bit_at rest i ≡ 0
  pub left : (i : ℕ) → m ≤ i → i < 64 → bit_at rest i ≡ bit_at word i
  pub those : (bits : List ℕ) → IsWord bits base word → AreThose (is_marked bits) base first → AreThose (is_marked bits) (base + m) ids

pub pushed_none : (word base : ℕ) (first : List ℕ) → ArePushed word base first word 0 first
pushed_none word base first = record {
  within = omega arith;
  done = λ i h. absurd (omega arith);
  left = λ i from h. refl;
  those = λ bits is those. let same : base ≡ base + 0 = omega arith in subst (λ n. AreThose (is_marked bits) n first) same those;
}

unmarked : (bits : List ℕ) (base word : ℕ) → IsWord bits base word → (m n : ℕ) → n ≤ 64 → ((i : ℕ) → m ≤ i → i < n → bit_at word i ≡ 0) → (j : ℕ) → base + m ≤ j → j < base + n → is_marked bits j ≡ false
unmarked bits base word is m n within none j from h =
    let same : base + (j - base) ≡ j = omega arith in
    ap (is_marked bits) (sym same) ∙ is (j - base) (omega arith) ∙ ap (λ b. b == 1) (none (j - base) (omega arith) (omega arith))

pub pushed_more : (word base : ℕ) (first : List ℕ) (rest m : ℕ) (ids : List ℕ) (t : ℕ) → 0 < rest → rest < 2 ^ 64 → t ≡ trailing_zeros w64 rest → ArePushed word base first rest m ids
    → ArePushed word base first (bit_and rest (bit_not w64 (1 * 2 ^ t % 18446744073709551616))) (t + 1) (ids ++ (base + t) ∷ [])
pushed_more word base first rest m ids t some fits is h =
    let lowest = bit_at-trailing_zeros w64 rest some fits in
    let low : t < 64 = subst (λ n. n < 64) (sym is) lowest.0 in
    let one : bit_at rest t ≡ 1 = subst (λ n. bit_at rest n ≡ 1) (sym is) lowest.1 in
    let none : (i : ℕ) → i < t → bit_at rest i ≡ 0 = λ i less. lowest.2 i (subst (λ n. i < n) is less) in
    let from : m ≤ t = elim (cases_lt t m) [
      | inl lt ↦ let zero_there = h.done t lt in absurd (omega arith)
      | inr ge ↦ ge
    ] in
    record {
      within = omega arith;
      done = λ i less. elim (cases_lt i t) [
        | inl lt ↦
            let other : i ≢ t = omega arith in
            bit_at_clear_other w64 rest t low i (omega arith) other ∙ none i lt
        | inr ge ↦
            let same : t ≡ i = omega arith in
            subst (λ n. bit_at (bit_and rest (bit_not w64 (1 * 2 ^ t % 18446744073709551616))) n ≡ 0) same (bit_at_clear_same w64 rest t low)
      ];
      left = λ i after less. let other : i ≢ t = omega arith in bit_at_clear_other w64 rest t low i less other ∙ h.left i (omega arith) less;
      those = λ bits word_is those_is.
          let before = h.those bits word_is those_is in
          let up = those_skip (is_marked bits) (base + m) (base + t) ids (omega arith) (unmarked bits base word word_is m t (omega arith) (λ i at less. sym (h.left i at (omega arith)) ∙ none i less)) before in
          let here : is_marked bits (base + t) ≡ true = word_is t low ∙ ap (λ n. n == 1) (sym (h.left t from low) ∙ one) in
          let next : base + t + 1 ≡ base + (t + 1) = omega arith in
          subst (λ n. AreThose (is_marked bits) n (ids ++ (base + t) ∷ [])) next (those_yes (is_marked bits) (base + t) ids here up);
    }

-- the word without its lowest bit is less
pub cleared_less : (rest t : ℕ) → 0 < rest → rest < 2 ^ 64 → t ≡ trailing_zeros w64 rest → bit_and rest (bit_not w64 (1 * 2 ^ t % 18446744073709551616)) < rest
cleared_less rest t some fits is =
    let lowest = bit_at-trailing_zeros w64 rest some fits in
    let low : t < 64 = subst (λ n. n < 64) (sym is) lowest.0 in
    let one : bit_at rest t ≡ 1 = subst (λ n. bit_at rest n ≡ 1) (sym is) lowest.1 in
    let cleared = bit_and rest (bit_not w64 (1 * 2 ^ t % 18446744073709551616)) in
    let most : cleared ≤ rest = and_le_l rest (bit_not w64 (1 * 2 ^ t % 18446744073709551616)) in
    elim (cases_lt cleared rest) [
      | inl lt ↦ lt
      | inr ge ↦
          let same : cleared ≡ rest = omega arith in
          let zero_there : bit_at cleared t ≡ 0 = bit_at_clear_same w64 rest t low in
          let one_there : bit_at cleared t ≡ 1 = ap (λ n. bit_at n t) same ∙ one in
          absurd (omega arith)
    ]

-- a comparison that is turned round
pub turned : (x y : ℕ) → 1 - cond (nat_lt x y) 1 0 ≡ cond (nat_le y x) 1 0
turned x y =
    elim (cases_lt x y) [
      | inl lt ↦ ap (λ b. 1 - cond b 1 0) (le-leb (suc x) y (omega arith)) ∙ sym (ap (λ b. cond b 1 0) (lt-leb y x lt))
      | inr ge ↦ ap (λ b. 1 - cond b 1 0) (lt-leb (suc x) y (omega arith)) ∙ sym (ap (λ b. cond b 1 0) (le-leb y x ge))
    ]

-- the word of the marks from a place on
pub word_from : (marks : List ℕ) (k p v : ℕ) → ((i : ℕ) → i < 64 → bit_at v i ≡ cond (is_hit k (slice_index (drop (64 * p) marks) i)) 1 0) → (i : ℕ) → i < 64 → bit_at v i ≡ cond (is_hit k (slice_index marks (64 * p + i))) 1 0
word_from marks k p v word i h = word i h ∙ ap (λ m. cond (is_hit k m) 1 0) (get_or-drop (64 * p) marks i 0)

pub pushed_all : (word base : ℕ) (first : List ℕ) (rest m : ℕ) (ids : List ℕ) → rest ≡ 0 → ArePushed word base first rest m ids → (bits : List ℕ) → IsWord bits base word → AreThose (is_marked bits) base first → AreThose (is_marked bits) (base + 64) ids
pushed_all word base first rest m ids none h bits word_is those_is =
    let within = h.within in
    those_skip (is_marked bits) (base + m) (base + 64) ids (omega arith)
    (unmarked bits base word word_is m 64 (omega arith) (λ i at less. sym (h.left i at less) ∙ ap (λ n. bit_at n i) none ∙ bit_at-zero i))
    (h.those bits word_is those_is)

pub word_is : (bits : List ℕ) (p : ℕ) → IsWord bits (64 * p) (slice_index bits p)
unfolding is_marked
word_is bits p i h =
    let word : (64 * p + i) / 64 ≡ p = omega arith in
    let bit : (64 * p + i) % 64 ≡ i = omega arith in
    ap (λ n. bit_at (slice_index bits n) ((64 * p + i) % 64) == 1) word ∙ ap (λ n. bit_at (slice_index bits p) n == 1) bit

pub those_below : (p : ℕ → Bool) (n : ℕ) (ids : List ℕ) (id : ℕ) → AreThose p n ids → Contains ids id → id < n
those_below p n ids id those (i, within, is) =
    let low = those.below i within in
    let same : slice_index ids i ≡ id = get_or_default ids i 0 id within ∙ is in
    omega arith

-- what is found is the answer, where the room is wide enough
pub answer_those : (lists : List (List Entry)) (k width : ℕ) (words ids : List ℕ) → 1 ≤ k → All (IsBelow width) lists → width ≤ 64 * length words → ((i : ℕ) → i < 64 * length words → is_marked words i ≡ is_match lists k i)
    → AreThose (is_marked words) (64 * length words) ids → IsAnswer lists k ids
answer_those lists k width words ids some below room agree those = record {
  rising = those.rising;
  exact = λ id. (
    λ among. sym (agree id (those_below (is_marked words) (64 * length words) ids id those among)) ∙ those.sound id among,
    λ is. elim (cases_lt id (64 * length words)) [
      | inl lt ↦ those.whole id lt (agree id lt ∙ is)
      | inr ge ↦ absurd (false≢true (sym (beyond lists k width id some below (omega arith)) ∙ is))
    ],
  );
}

-- the bits of an answer are those of the matches
any_of : (id : ℕ) (ids : List ℕ) (i : ℕ) → i < length ids → slice_index ids i ≡ id → list_any (λ n. id == n) ids ≡ true
any_of id [] i within is = absurd (omega arith)
any_of id (n ∷ ids) zero within is = ap (λ b. b || list_any (λ m. id == m) ids) (same_is id n (sym is))
any_of id (n ∷ ids) (suc i) within is = ap (λ b. (id == n) || b) (any_of id ids i (omega arith) is) ∙ or_true (id == n)

at_of : (id : ℕ) (ids : List ℕ) → list_any (λ n. id == n) ids ≡ true → Contains ids id
at_of id [] h = absurd (false≢true h)
at_of id (n ∷ ids) h =
    elim (cases_eq id n) [
      | inl same ↦ (0, omega arith, sym same)
      | inr other ↦
          let (i, within, is) = at_of id ids (sym (ap (λ b. b || list_any (λ m. id == m) ids) (other_is id n other)) ∙ h) in
          (suc i, omega arith, is)
    ]

pub answer_set : (lists : List (List Entry)) (k : ℕ) (ids old new : List ℕ) → IsAnswer lists k ids → AreSet (λ i. list_any (λ n. i == n) ids) old new → AreSet (is_match lists k) old new
answer_set lists k ids old new answer set i h =
    set i h
    ∙ ap (λ b. is_marked old i || b)
    (one_truth (list_any (λ n. i == n) ids) (is_match lists k i)
    (λ any. (answer.exact i).0 (at_of i ids any))
    (λ is. let (j, within, at) = (answer.exact i).1 is in any_of i ids j within (get_or_default ids j 0 i within ∙ at)))
