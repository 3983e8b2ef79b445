-- What the marks of a tally say of the lists.
use Rattle.std.proofs.Common.{◌≡◌, ◌≢◌, ℕ, ◌+◌, ◌-◌, ◌*◌, ◌<◌, ◌≤◌, ◌==◌, ◌&&◌, ◌||◌, not, nat_le, inl, inr, List, [], ◌∷◌, ◌++◌, Bool, true, false, cond, Some, None, Ok, Err, Result, IfOk, All, count_by, get_or, drop, drop_of_length-le, length, replicate, set, slice_get, slice_index, sum_by, take, take_all, refl, sym, ◌∙◌, ap, subst, arith, suc}
use Rattle.std.specs.List.{list_any}
use Rattle.std.proofs.lemmas.Bool.{cases_Bool, cases_lt, cases_eq, and_right, false≢true, lt-leb, le-leb}
use Rattle.std.proofs.lemmas.Bool.Decides.{nat_tests}
use Rattle.std.proofs.lemmas.Option.{slice_get-get_or}
use Rattle.std.proofs.lemmas.List.{append-nil, append_assoc, flat_map_more, get_or-map, get_or-replicate, get_or-set_other, get_or-set_same, get_or_default, length-replicate, length-set, map-append, take_more}
use Rattle.std.proofs.lemmas.List.Elements.{All-head, All-push, All-tail}
use Rattle.std.proofs.lemmas.List.Folds.{list_any-append, list_any_none}
use Rattle.std.proofs.lemmas.List.Sums.{count_by-le-length, sum_by-append, sum_by-cons, sum_by_push}
use Rattle.postings.specs.declared.entry.Entry.{Entry}
use Rattle.postings.specs.Order.{IsRising, entry_at, rank_of}
use Rattle.postings.specs.Packed.{is_marked}
use Rattle.conj_match.specs.Bits.{AreSet}
use Rattle.conj_match.specs.Matching.{lists_at, has_negated, has_plain, is_match}
use Rattle.conj_match.specs.Tally.{AreBlank, AreTaken, AreTallied, IsBelow, all_in, asks, excludes, is_hit, is_of}
use Rattle.conj_match.proofs.Lists.{ids_rise, rising_pairs}

other_sign : (a b : ℕ) (s : Bool) → a ≢ b → ((a == b) && s) ≡ false
other_sign a b true e = grind (arith, nat_tests)
other_sign a b false e = grind (arith, nat_tests)

pub or_false : (x : Bool) → (x || false) ≡ x
or_false true = refl
or_false false = refl

any_more : (p : Entry → Bool) (es : List Entry) (e : Entry) → list_any p (es ++ e ∷ []) ≡ (list_any p es || p e)
any_more p es e = list_any-append p es (e ∷ []) ∙ ap (λ b. list_any p es || b) (or_false (p e))

pub count_more : (p : Entry → Bool) (es : List Entry) (e : Entry) → count_by p (es ++ e ∷ []) ≡ count_by p es + cond (p e) 1 0
count_more p es e = sum_by_push (λ x. cond (p x) 1 0) es e

-- over all lists, as many entries ask as there are lists that do
any_in : (id : ℕ) (lists : List (List Entry)) → list_any (excludes id) (all_in lists) ≡ list_any (has_negated id) lists
any_in id [] = refl
any_in id (es ∷ lists) =
    list_any-append (excludes id) es (all_in lists)
    ∙ ap (λ b. has_negated id es || b) (any_in id lists)

count_none : (p : Entry → Bool) (es : List Entry) → All (λ e. p e ≡ false) es → count_by p es ≡ 0
count_none p [] h = refl
count_none p (e ∷ es) h =
    sum_by-cons (λ x. cond (p x) 1 0) e es
    ∙ ap (λ x. cond x 1 0 + count_by p es) (All-head (λ x. p x ≡ false) e es h)
    ∙ ap (λ n. 0 + n) (count_none p es (All-tail (λ x. p x ≡ false) e es h))

asks_parts : (id : ℕ) (e : Entry) → asks id e ≡ true → (e.id ≡ id) × (e.negated ≡ false)
asks_parts id e h = parts e.id id e.negated h
  where
    parts : (a b : ℕ) (s : Bool) → ((a == b) && not s) ≡ true → (a ≡ b) × (s ≡ false)
    parts a b true h = absurd (grind (arith, nat_tests))
    parts a b false h = (grind (arith, nat_tests), refl)

rising_tail : (e : Entry) (es : List Entry) → IsRising (e ∷ es) → IsRising es
rising_tail e es r i h =
    let same : suc i + 1 ≡ suc (i + 1) = omega arith in
    subst (λ n. rank_of (entry_at (e ∷ es) (suc i)) < rank_of (entry_at (e ∷ es) n)) same (r (suc i) (omega arith))

none_more : (n : ℕ) → 0 + n ≡ n
none_more n = omega arith

-- of a list that rises, one entry at most asks
asks_once : (id : ℕ) (e : Entry) (es : List Entry) → IsRising (e ∷ es) → asks id e ≡ true → (j : ℕ) (d : Entry) → j < length es → asks id (get_or es j d) ≡ false
asks_once id e es r here j d h =
    elim (cases_Bool (asks id (get_or es j d))) [
      | inl there ↦
          let up : rank_of e < rank_of (entry_at es j) = rising_pairs (e ∷ es) r 0 (suc j) (omega arith) (omega arith) in
          let same : entry_at es j ≡ get_or es j d = get_or_default es j (record { id = 0; negated = true }) d h in
          let high : rank_of e < rank_of (get_or es j d) = subst (λ (x : Entry). rank_of e < rank_of x) same up in
          absurd (apart e (get_or es j d) high (asks_parts id e here) (asks_parts id (get_or es j d) there))
      | inr lacks ↦ lacks
    ]
  where
    apart : (a b : Entry) → rank_of a < rank_of b → (a.id ≡ id) × (a.negated ≡ false) → (b.id ≡ id) × (b.negated ≡ false) → ⊥
    apart a b h (is, plain) (also, alike) =
        let left : rank_of a ≡ 2 * id + 1 = ap (λ n. 2 * n + cond a.negated 0 1) is ∙ ap (λ s. 2 * id + cond s 0 1) plain in
        let right : rank_of b ≡ 2 * id + 1 = ap (λ n. 2 * n + cond b.negated 0 1) also ∙ ap (λ s. 2 * id + cond s 0 1) alike in
        omega arith

one_in : (id : ℕ) (es : List Entry) → IsRising es → count_by (asks id) es ≡ cond (has_plain id es) 1 0
one_in id [] r = refl
one_in id (e ∷ es) r =
    elim (cases_Bool (asks id e)) [
      | inl here ↦
          sum_by-cons (λ x. cond (asks id x) 1 0) e es
          ∙ ap (λ n. cond (asks id e) 1 0 + n) (count_none (asks id) es (λ j d h. asks_once id e es r here j d h))
          ∙ ap (λ b. cond b 1 0 + 0) here
          ∙ sym (ap (λ b. cond (b || list_any (asks id) es) 1 0) here)
      | inr lacks ↦
          sum_by-cons (λ x. cond (asks id x) 1 0) e es
          ∙ ap (λ b. cond b 1 0 + count_by (asks id) es) lacks
          ∙ none_more (count_by (asks id) es)
          ∙ one_in id es (rising_tail e es r)
          ∙ sym (ap (λ b. cond (b || list_any (asks id) es) 1 0) lacks)
    ]

count_in : (id : ℕ) (lists : List (List Entry)) → All IsRising lists → count_by (asks id) (all_in lists) ≡ count_by (has_plain id) lists
count_in id [] r = refl
count_in id (es ∷ lists) r =
    sum_by-append (λ x. cond (asks id x) 1 0) es (all_in lists)
    ∙ ap (λ n. n + count_by (asks id) (all_in lists)) (one_in id es (All-head IsRising es lists r))
    ∙ ap (λ n. cond (has_plain id es) 1 0 + n) (count_in id lists (All-tail IsRising es lists r))
    ∙ sym (sum_by-cons (λ x. cond (has_plain id x) 1 0) es lists)

hit_is : (k n : ℕ) (a : Bool) → n < 128 → is_hit k (cond a 0 128 + n) ≡ (not a && nat_le k n)
hit_is k n true few = lt-leb (128 + k) (0 + n) (omega arith)
hit_is k n false few =
    elim (cases_lt n k) [
      | inl lt ↦ lt-leb (128 + k) (128 + n) (omega arith) ∙ sym (lt-leb k n lt)
      | inr ge ↦ le-leb (128 + k) (128 + n) (omega arith) ∙ sym (le-leb k n ge)
    ]

-- a mark of a match is the mark of a number that matches
pub hit_agrees : (marks : List ℕ) (lists : List (List Entry)) (k id : ℕ) → length lists < 128 → All IsRising lists → AreTallied marks (all_in lists) → id < length marks → is_hit k (slice_index marks id) ≡ is_match lists k id
hit_agrees marks lists k id few rising tallied within =
    let count = count_in id lists rising in
    let low : count_by (has_plain id) lists < 128 = omega (arith, count_by-le-length (has_plain id) lists) in
    ap (is_hit k) (tallied id within (omega arith))
    ∙ ap (λ b. is_hit k (cond b 0 128 + count_by (asks id) (all_in lists))) (any_in id lists)
    ∙ ap (λ n. is_hit k (cond (list_any (has_negated id) lists) 0 128 + n)) count
    ∙ hit_is k (count_by (has_plain id) lists) (list_any (has_negated id) lists) low

pub swept : (marks hits found : List ℕ) (lists : List (List Entry)) (k : ℕ) → length lists < 128 → All IsRising lists → AreTallied marks (all_in lists) → length marks ≡ 64 * length hits
    → AreSet (λ i. is_hit k (slice_index marks i)) hits found → AreSet (is_match lists k) hits found
swept marks hits found lists k few rising tallied len set i h =
    set i h ∙ ap (λ b. is_marked hits i || b) (hit_agrees marks lists k i few rising tallied (omega arith))

-- fewer lists than asked for match nothing
pub too_few : (old : List ℕ) (lists : List (List Entry)) (k : ℕ) → length lists < k → AreSet (is_match lists k) old old
too_few old lists k few i h =
    let low : count_by (has_plain i) lists < k = omega (arith, count_by-le-length (has_plain i) lists) in
    sym (ap (λ b. is_marked old i || (not (list_any (has_negated i) lists) && b)) (lt-leb k (count_by (has_plain i) lists) low)
    ∙ ap (λ b. is_marked old i || b) (and_right (not (list_any (has_negated i) lists)) false refl)
    ∙ or_false (is_marked old i))

-- the marks and bits while entries are taken
pub taken_none : (k : ℕ) (marks hits : List ℕ) → AreTaken k marks hits [] marks hits
taken_none k marks hits = record { blank = λ i h. refl; bits = λ i h. sym (or_false (is_marked hits i)) }

taken_step : (f any x : Bool) → ((f || (any && x)) || cond any false x) ≡ (f || (true && x))
taken_step true any x = refl
taken_step false true true = refl
taken_step false true false = refl
taken_step false false x = refl

blank_hit : (k m : ℕ) (any : Bool) → 1 ≤ k → is_hit k (cond any 128 m) ≡ cond any false (is_hit k m)
blank_hit k m true some = lt-leb (128 + k) 128 (omega arith)
blank_hit k m false some = refl

pub same_is : (a b : ℕ) → a ≡ b → (a == b) ≡ true
same_is a b h = grind (arith, nat_tests)

pub other_is : (a b : ℕ) → a ≢ b → (a == b) ≡ false
other_is a b h = grind (arith, nat_tests)

pub or_true : (x : Bool) → (x || true) ≡ true
or_true true = refl
or_true false = refl

pub taken_more : (k : ℕ) (first found : List ℕ) (before : List Entry) (e : Entry) (marks hits new more : List ℕ) → 1 ≤ k → length first ≡ length marks → length marks ≡ 64 * length hits → AreTaken k first found before marks hits
    → ((i : ℕ) → i < length marks → slice_index new i ≡ cond (i == e.id) 128 (slice_index marks i)) → AreSet (λ i. (i == e.id) && is_hit k (slice_index marks e.id)) hits more
    → AreTaken k first found (before ++ e ∷ []) new more
taken_more k first found before e marks hits new more some all len taken blank set = record {
  blank = λ i h. elim (cases_eq e.id i) [
    | inl same ↦
        blank i (omega arith)
        ∙ ap (λ b. cond b 128 (slice_index marks i)) (same_is i e.id (sym same))
        ∙ sym (ap (λ b. cond b 128 (slice_index first i)) (any_more (is_of i) before e ∙ ap (λ b. list_any (is_of i) before || b) (same_is e.id i same) ∙ or_true (list_any (is_of i) before)))
    | inr other ↦
        blank i (omega arith)
        ∙ ap (λ b. cond b 128 (slice_index marks i)) (other_is i e.id (λ q. other (sym q)))
        ∙ taken.blank i h
        ∙ sym (ap (λ b. cond b 128 (slice_index first i)) (any_more (is_of i) before e ∙ ap (λ b. list_any (is_of i) before || b) (other_is e.id i other) ∙ or_false (list_any (is_of i) before)))
  ];
  bits = λ i h. elim (cases_eq e.id i) [
    | inl same ↦
        let mark : slice_index marks e.id ≡ cond (list_any (is_of i) before) 128 (slice_index first i) = ap (slice_index marks) same ∙ taken.blank i h in
        set i (omega arith)
        ∙ ap (λ b. is_marked hits i || (b && is_hit k (slice_index marks e.id))) (same_is i e.id (sym same))
        ∙ ap (λ b. b || is_hit k (slice_index marks e.id)) (taken.bits i h)
        ∙ ap (λ m. (is_marked found i || (list_any (is_of i) before && is_hit k (slice_index first i))) || is_hit k m) mark
        ∙ ap (λ b. (is_marked found i || (list_any (is_of i) before && is_hit k (slice_index first i))) || b) (blank_hit k (slice_index first i) (list_any (is_of i) before) some)
        ∙ taken_step (is_marked found i) (list_any (is_of i) before) (is_hit k (slice_index first i))
        ∙ sym (ap (λ b. is_marked found i || (b && is_hit k (slice_index first i))) (any_more (is_of i) before e ∙ ap (λ b. list_any (is_of i) before || b) (same_is e.id i same) ∙ or_true (list_any (is_of i) before)))
    | inr other ↦
        set i (omega arith)
        ∙ ap (λ b. is_marked hits i || (b && is_hit k (slice_index marks e.id))) (other_is i e.id (λ q. other (sym q)))
        ∙ or_false (is_marked hits i)
        ∙ taken.bits i h
        ∙ sym (ap (λ b. is_marked found i || (b && is_hit k (slice_index first i))) (any_more (is_of i) before e ∙ ap (λ b. list_any (is_of i) before || b) (other_is e.id i other) ∙ or_false (list_any (is_of i) before)))
  ];
}

pub taken_list : (k : ℕ) (first found marks hits : List ℕ) (lists more : List (List Entry)) (es : List Entry) → more ≡ lists ++ es ∷ [] → AreTaken k first found (all_in lists ++ es) marks hits → AreTaken k first found (all_in more) marks hits
taken_list k first found marks hits lists more es is taken =
    subst (λ l. AreTaken k first found (all_in l) marks hits) (sym is) (subst (λ l. AreTaken k first found l marks hits) (flat_map_more (λ (x : List Entry). x) [] lists es) taken)

-- one mark made blank, and the bit of its number
pub blank_at : (marks : List ℕ) (n i : ℕ) → n < length marks → slice_index (set marks n 128) i ≡ cond (i == n) 128 (slice_index marks i)
blank_at marks n i within =
    elim (cases_eq i n) [
      | inl same ↦ ap (slice_index (set marks n 128)) same ∙ get_or-set_same marks n 128 0 within ∙ sym (ap (λ b. cond b 128 (slice_index marks i)) (same_is i n same))
      | inr other ↦ get_or-set_other marks n i 128 0 other ∙ sym (ap (λ b. cond b 128 (slice_index marks i)) (other_is i n other))
    ]

pub blank_beyond : (marks : List ℕ) (n i : ℕ) → length marks ≤ n → i < length marks → slice_index marks i ≡ cond (i == n) 128 (slice_index marks i)
blank_beyond marks n i past h =
    let other : i ≢ n = omega arith in
    sym (ap (λ b. cond b 128 (slice_index marks i)) (other_is i n other))

pub hit_set : (old new : List ℕ) (n : ℕ) (hit : Bool) → hit ≡ true → AreSet (λ i. i == n) old new → AreSet (λ i. (i == n) && hit) old new
hit_set old new n hit is set i h = set i h ∙ ap (λ b. is_marked old i || b) (sym (ap (λ b. (i == n) && b) is ∙ and_true (i == n)))
  where
    and_true : (x : Bool) → (x && true) ≡ x
    and_true true = refl
    and_true false = refl

pub hit_unset : (old : List ℕ) (n : ℕ) (hit : Bool) → hit ≡ false → AreSet (λ i. (i == n) && hit) old old
hit_unset old n hit is i h = sym (ap (λ b. is_marked old i || ((i == n) && b)) is ∙ ap (λ b. is_marked old i || b) (and_false (i == n)) ∙ or_false (is_marked old i))
  where
    and_false : (x : Bool) → (x && false) ≡ false
    and_false true = refl
    and_false false = refl

pub hit_beyond : (old : List ℕ) (n : ℕ) (hit : Bool) → 64 * length old ≤ n → AreSet (λ i. (i == n) && hit) old old
hit_beyond old n hit past i h =
    let other : i ≢ n = omega arith in
    sym (ap (λ b. is_marked old i || (b && hit)) (other_is i n other) ∙ or_false (is_marked old i))

-- a number that no entry has
none_excludes : (id : ℕ) (es : List Entry) → list_any (is_of id) es ≡ false → list_any (excludes id) es ≡ false
none_excludes id [] h = refl
none_excludes id (e ∷ es) h = fewer (e.id == id) e.negated (list_any (is_of id) es) (list_any (excludes id) es) h (none_excludes id es)
  where
    fewer : (b s x y : Bool) → (b || x) ≡ false → (x ≡ false → y ≡ false) → ((b && s) || y) ≡ false
    fewer true s x y h f = absurd (false≢true (sym h))
    fewer false s x y h f = f h

none_asks_of : (id : ℕ) (es : List Entry) → list_any (is_of id) es ≡ false → count_by (asks id) es ≡ 0
none_asks_of id [] h = refl
none_asks_of id (e ∷ es) h =
    sum_by-cons (λ x. cond (asks id x) 1 0) e es
    ∙ lacks (e.id == id) (not e.negated) (list_any (is_of id) es) (count_by (asks id) es) h (none_asks_of id es)
  where
    lacks : (b s x : Bool) (n : ℕ) → (b || x) ≡ false → (x ≡ false → n ≡ 0) → cond (b && s) 1 0 + n ≡ 0
    lacks true s x n h f = absurd (false≢true (sym h))
    lacks false s x n h f = let z = f h in omega arith

untouched : (marks : List ℕ) (es : List Entry) (id : ℕ) → AreTallied marks es → id < length marks → list_any (is_of id) es ≡ false → slice_index marks id ≡ 128
untouched marks es id tallied within none =
    let zero_asks = none_asks_of id es none in
    tallied id within (omega arith)
    ∙ ap (λ b. cond b 0 128 + count_by (asks id) es) (none_excludes id es none)
    ∙ ap (λ n. 128 + n) zero_asks

pub taken_blank : (k : ℕ) (marks hits new found : List ℕ) (es : List Entry) → length new ≡ length marks → AreTallied marks es → AreTaken k marks hits es new found → AreBlank new
taken_blank k marks hits new found es len tallied taken i h =
    let within : i < length marks = omega arith in
    elim (cases_Bool (list_any (is_of i) es)) [
      | inl any ↦ taken.blank i within ∙ ap (λ b. cond b 128 (slice_index marks i)) any
      | inr none ↦ taken.blank i within ∙ ap (λ b. cond b 128 (slice_index marks i)) none ∙ untouched marks es i tallied within none
    ]

pub taken_hits : (k : ℕ) (marks hits new found : List ℕ) (lists : List (List Entry)) → 1 ≤ k → length lists < 128 → All IsRising lists → length marks ≡ 64 * length hits → AreTallied marks (all_in lists)
    → AreTaken k marks hits (all_in lists) new found → AreSet (is_match lists k) hits found
taken_hits k marks hits new found lists some few rising len tallied taken i h =
    let within : i < length marks = omega arith in
    let agree = hit_agrees marks lists k i few rising tallied within in
    elim (cases_Bool (list_any (is_of i) (all_in lists))) [
      | inl any ↦ taken.bits i within ∙ ap (λ b. is_marked hits i || (b && is_hit k (slice_index marks i))) any ∙ ap (λ b. is_marked hits i || b) agree
      | inr none ↦
          taken.bits i within
          ∙ ap (λ b. is_marked hits i || (b && is_hit k (slice_index marks i))) none
          ∙ ap (λ b. is_marked hits i || b) (sym (sym agree ∙ ap (is_hit k) (untouched marks (all_in lists) i tallied within none) ∙ lt-leb (128 + k) 128 (omega arith)))
    ]

pub beyond : (lists : List (List Entry)) (k width id : ℕ) → 1 ≤ k → All (IsBelow width) lists → width ≤ id → is_match lists k id ≡ false
beyond lists k width id some below h =
    ap (λ n. not (list_any (has_negated id) lists) && nat_le k n) (none_asks lists (λ j d within. lacks (get_or lists j d) (below j d within)))
    ∙ and_right (not (list_any (has_negated id) lists)) (nat_le k 0) (lt-leb k 0 some)
  where
    none_asks : (ls : List (List Entry)) → All (λ es. has_plain id es ≡ false) ls → count_by (has_plain id) ls ≡ 0
    none_asks [] all = refl
    none_asks (es ∷ ls) all =
        sum_by-cons (λ x. cond (has_plain id x) 1 0) es ls
        ∙ ap (λ b. cond b 1 0 + count_by (has_plain id) ls) (All-head (λ x. has_plain id x ≡ false) es ls all)
        ∙ none_more (count_by (has_plain id) ls)
        ∙ none_asks ls (All-tail (λ x. has_plain id x ≡ false) es ls all)

    lacks : (es : List Entry) → IsBelow width es → has_plain id es ≡ false
    lacks es low = list_any_none (asks id) es (λ j d within.
        let same : entry_at es j ≡ get_or es j d = get_or_default es j (record { id = 0; negated = true }) d within in
        let less : (get_or es j d).id < width = subst (λ (x : Entry). x.id < width) same (low j within) in
        let other : (get_or es j d).id ≢ id = omega arith in
        other_sign (get_or es j d).id id (not (get_or es j d).negated) other)

pub entry_more : (before es : List Entry) (i : ℕ) (e : Entry) → i < length es → e ≡ entry_at es i → (before ++ take i es) ++ e ∷ [] ≡ before ++ take (i + 1) es
entry_more before es i e h is =
    append_assoc before (take i es) (e ∷ [])
    ∙ ap (λ x. before ++ (take i es ++ x ∷ [])) is
    ∙ ap (λ l. before ++ l) (sym (take_more es i (record { id = 0; negated = true }) h))

pub entries_end : (before es : List Entry) (i : ℕ) → length es ≤ i → before ++ take i es ≡ before ++ es
entries_end before es i h = ap (λ l. before ++ l) (take_all i es h)

-- the chosen lists one by one
chosen_is : (lists : List (List Entry)) (chosen : List ℕ) (i : ℕ) (es : List Entry) → All (λ n. n < length lists) chosen → i < length chosen → es ≡ get_or lists (get_or chosen i 0) es → es ≡ get_or lists (get_or chosen i 0) []
chosen_is lists chosen i es within h is = is ∙ get_or_default lists (get_or chosen i 0) es [] (within i 0 h)

pub list_more : (lists : List (List Entry)) (chosen : List ℕ) (i : ℕ) (es : List Entry) → All (λ n. n < length lists) chosen → i < length chosen → es ≡ get_or lists (get_or chosen i 0) es
    → lists_at lists (take (i + 1) chosen) ≡ lists_at lists (take i chosen) ++ es ∷ []
list_more lists chosen i es within h is =
    ap (lists_at lists) (take_more chosen i 0 h)
    ∙ map-append (λ m. get_or lists m []) (take i chosen) (get_or chosen i 0 ∷ [])
    ∙ ap (λ l. lists_at lists (take i chosen) ++ l ∷ []) (sym (chosen_is lists chosen i es within h is))

pub lists_length : (lists : List (List Entry)) (chosen : List ℕ) → length (lists_at lists chosen) ≡ length chosen
lists_length lists [] = refl
lists_length lists (n ∷ chosen) =
    let rest = lists_length lists chosen in
    omega arith

pub list_is : (lists : List (List Entry)) (chosen : List ℕ) (i : ℕ) (es : List Entry) → All (λ n. n < length lists) chosen → i < length chosen → es ≡ get_or lists (get_or chosen i 0) es → es ≡ get_or (lists_at lists chosen) i []
list_is lists chosen i es within h is = chosen_is lists chosen i es within h is ∙ sym (get_or-map (λ m. get_or lists m []) chosen i 0 [] h)

pub tallied_list : (marks : List ℕ) (lists more : List (List Entry)) (es : List Entry) → more ≡ lists ++ es ∷ [] → AreTallied marks (all_in lists ++ es) → AreTallied marks (all_in more)
tallied_list marks lists more es is tallied =
    subst (λ l. AreTallied marks (all_in l)) (sym is) (subst (AreTallied marks) (flat_map_more (λ (x : List Entry). x) [] lists es) tallied)

pub all_more : (P : List Entry → Type 0) (lists more : List (List Entry)) (es : List Entry) → more ≡ lists ++ es ∷ [] → All P lists → P es → All P more
all_more P lists more es is all here = subst (All P) (sym is) (All-push P lists es all here)

pub sum_more : (lists more : List (List Entry)) (es : List Entry) → more ≡ lists ++ es ∷ [] → sum_by length more ≡ sum_by length lists + length es
sum_more lists more es is = ap (sum_by (length {A = Entry})) is ∙ sum_by_push (length {A = Entry}) lists es

pub entries_below_more : (a b : ℕ) → a ≤ b → (es : List Entry) → IsBelow a es → IsBelow b es
entries_below_more a b h es below i less =
    let low = below i less in
    omega arith

pub below_more : (a b : ℕ) → a ≤ b → (lists : List (List Entry)) → All (IsBelow a) lists → All (IsBelow b) lists
below_more a b h lists all j d within = entries_below_more a b h (get_or lists j d) (all j d within)

-- what a write through a slice leaves
pub written_back : (new old : List ℕ) (n : ℕ) → length new ≡ n → length old ≡ n → take n (new ++ drop (length new) old) ≡ new
written_back new old n is also =
    ap (λ l. take n (new ++ l)) (drop_of_length-le old (omega arith))
    ∙ ap (take n) (append-nil new)
    ∙ take_all n new (omega arith)

pub tallied_blank : (marks : List ℕ) → AreBlank marks → AreTallied marks []
tallied_blank marks blank id h few = blank id h

pub blank_marks : (marks : List ℕ) (n : ℕ) → marks ≡ replicate n 128 → AreBlank marks
blank_marks marks n is i h =
    let within : i < n = omega (arith, ap (length {A = ℕ}) is, length-replicate {A = ℕ} n 128) in
    ap (λ l. slice_index l i) is ∙ get_or-replicate n i 128 0 within

-- a list goes as far as its last entry
pub below_last : (es : List Entry) (e : Entry) → IsRising es → slice_get es (length es - 1) ≡ Some e → IsBelow (e.id + 1) es
below_last es e r is i h =
    let last : entry_at es (length es - 1) ≡ e = some_same (sym (slice_get-get_or es (length es - 1) (record { id = 0; negated = true }) (omega arith)) ∙ is) in
    elim (cases_lt i (length es - 1)) [
      | inl lt ↦
          let up : (entry_at es i).id ≤ (entry_at es (length es - 1)).id = ids_rise es r i (length es - 1) lt (omega arith) in
          let high : (entry_at es i).id ≤ e.id = subst (λ (x : Entry). (entry_at es i).id ≤ x.id) last up in
          omega arith
      | inr ge ↦
          let same : length es - 1 ≡ i = omega arith in
          subst (λ (x : Entry). x.id < e.id + 1) (sym last ∙ ap (entry_at es) same) (omega arith)
    ]
  where
    some_same : {x y : Entry} → Some x ≡ Some y → x ≡ y
    some_same h = cc

pub below_none : (es : List Entry) → slice_get es (length es - 1) ≡ None → IsBelow 0 es
below_none es is i h =
    let there : None ≡ Some (entry_at es (length es - 1)) = sym is ∙ slice_get-get_or es (length es - 1) (record { id = 0; negated = true }) (omega arith) in
    absurd (cc)

pub ok_map : {T E : Type 0} → (r : Result T E) (P Q : T → Type 0) → ((x : T) → P x → Q x) → IfOk r P → IfOk r Q
ok_map (Ok x) P Q f h = f x h
ok_map (Err e) P Q f h = h
