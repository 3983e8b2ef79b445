-- What a cursor shows says what its list has of the least number.
use Rattle.std.proofs.Common.{◌≡◌, ℕ, ◌+◌, ◌*◌, ◌<◌, ◌≤◌, ◌⊎◌, ◌==◌, ◌&&◌, ◌||◌, not, nat_le, inl, inr, List, [], ◌∷◌, Bool, true, false, cond, Some, None, All, count_by, get_or, length, map, slice_get, refl, sym, ◌∙◌, ap, subst, arith, zero, suc}
use Rattle.std.specs.List.{list_any}
use Rattle.std.specs.Option.{option_map_or}
use Rattle.std.proofs.lemmas.Bool.{cases_Bool, cases_order, cases_lt, false≢true}
use Rattle.std.proofs.lemmas.Bool.Decides.{nat_tests}
use Rattle.std.proofs.lemmas.Option.{slice_get-get_or, slice_get_past}
use Rattle.std.proofs.lemmas.List.Elements.{All-head, All-tail}
use Rattle.std.proofs.lemmas.List.Folds.{list_any_at}
use Rattle.std.proofs.lemmas.List.Sums.{sum_by-cons}
use Rattle.std.specs.Cmp.Derive.{one_truth}
use Rattle.postings.specs.declared.entry.Entry.{Entry}
use Rattle.postings.specs.Order.{IsRising, entry_at, rank_of}
use Rattle.conj_match.specs.Place.{Place, current}
use Rattle.conj_match.specs.Matching.{has_negated, has_plain, is_match}
use Rattle.conj_match.specs.Merge.{Stands, entries_of, is_shown, shows_negated, shows_plain}

pub rising_pairs : (es : List Entry) → IsRising es → (i j : ℕ) → i < j → j < length es → rank_of (entry_at es i) < rank_of (entry_at es j)
rising_pairs es r i zero h k = absurd (omega arith)
rising_pairs es r i (suc j) h k =
    let e : j + 1 ≡ suc j = omega arith in
    let step : rank_of (entry_at es j) < rank_of (entry_at es (suc j)) = subst (λ n. rank_of (entry_at es j) < rank_of (entry_at es n)) e (r j (omega arith)) in
    elim (cases_order i j) [
      | inl same ↦ subst (λ n. rank_of (entry_at es n) < rank_of (entry_at es (suc j))) (sym same) step
      | inr o ↦ elim o [
        | inl lt ↦
            let before : rank_of (entry_at es i) < rank_of (entry_at es j) = rising_pairs es r i j lt (omega arith) in
            omega arith
        | inr gt ↦ absurd (omega arith)
      ]
    ]

pub some_at : (p : Entry → Bool) (es : List Entry) → list_any p es ≡ true → (i : ℕ) × (i < length es) × (p (entry_at es i) ≡ true)
some_at p [] h = absurd (false≢true h)
some_at p (e ∷ es) h =
    elim (cases_Bool (p e)) [
      | inl y ↦ (0, omega arith, y)
      | inr n ↦
          let (i, within, q) = some_at p es (sym (ap (λ b. b || list_any p es) n) ∙ h) in
          (suc i, omega arith, q)
    ]

both_parts : (a b : ℕ) (s : Bool) → ((a == b) && s) ≡ true → (a ≡ b) × (s ≡ true)
both_parts a b true h = (grind (arith, nat_tests), refl)
both_parts a b false h = absurd (grind (arith, nat_tests))

pub both_from : (a b : ℕ) (s : Bool) → a ≡ b → s ≡ true → ((a == b) && s) ≡ true
both_from a b s e h = grind (arith, nat_tests)

not_true : (s : Bool) → not s ≡ true → s ≡ false
not_true true h = absurd (false≢true h)
not_true false h = refl

-- the least number that the cursor may show
pub record AtLeast (id : ℕ) (c : Place) : Type 0 where
  pub low : c.place < length c.entries → id ≤ (entry_at c.entries c.place).id

pub shown_here : (b : ℕ) (c : Place) → Stands b c → c.place < length c.entries → current c ≡ Some (entry_at c.entries c.place)
shown_here b c s h = ap (λ l. cond l (slice_get c.entries c.place) None) s.loaded ∙ slice_get-get_or c.entries c.place _ h

pub shown_past : (b : ℕ) (c : Place) → Stands b c → length c.entries ≤ c.place → current c ≡ None
shown_past b c s h = ap (λ l. cond l (slice_get c.entries c.place) None) s.loaded ∙ slice_get_past c.entries c.place h

-- an entry of the number is the one that is shown, or stands behind a negated one of the number that is shown
found_at : (b id : ℕ) (c : Place) → Stands b c → b ≤ id → AtLeast id c → (i : ℕ) → i < length c.entries → (entry_at c.entries i).id ≡ id
    → (i ≡ c.place) ⊎ (((entry_at c.entries i).negated ≡ false) × ((entry_at c.entries c.place).negated ≡ true) × ((entry_at c.entries c.place).id ≡ id) × (c.place < length c.entries))
found_at b id c s h least i within is =
    elim (cases_order i c.place) [
      | inl e ↦ inl e
      | inr o ↦ elim o [
        | inl lt ↦ let early = s.before i lt in absurd (omega arith)
        | inr gt ↦ inr (behind (entry_at c.entries c.place).id (entry_at c.entries i).id id (entry_at c.entries c.place).negated (entry_at c.entries i).negated (rising_pairs c.entries s.rising c.place i gt within) (least.low (omega arith)) is (omega arith))
      ]
    ]
  where
    behind : (m n id : ℕ) (x y : Bool) → 2 * m + cond x 0 1 < 2 * n + cond y 0 1 → id ≤ m → n ≡ id → {P : Type 0} → P → (y ≡ false) × (x ≡ true) × (m ≡ id) × P
    behind m n id true true h k e p = absurd (omega arith)
    behind m n id true false h k e p = (refl, refl, omega arith, p)
    behind m n id false true h k e p = absurd (omega arith)
    behind m n id false false h k e p = absurd (omega arith)

-- what is shown stands in the list
shown_in : (p : Entry → Bool) (b : ℕ) (c : Place) → Stands b c → option_map_or p (current c) false ≡ true → (c.place < length c.entries) × (p (entry_at c.entries c.place) ≡ true)
shown_in p b c s h =
    elim (cases_lt c.place (length c.entries)) [
      | inl k ↦ (k, sym (ap (λ o. option_map_or p o false) (shown_here b c s k)) ∙ h)
      | inr k ↦ absurd (false≢true (sym (ap (λ o. option_map_or p o false) (shown_past b c s k)) ∙ h))
    ]

shown_from : (p : Entry → Bool) (b : ℕ) (c : Place) → Stands b c → c.place < length c.entries → p (entry_at c.entries c.place) ≡ true → option_map_or p (current c) false ≡ true
shown_from p b c s k h = ap (λ o. option_map_or p o false) (shown_here b c s k) ∙ h

pub negated_agrees : (b id : ℕ) (c : Place) → Stands b c → b ≤ id → AtLeast id c → has_negated id c.entries ≡ shows_negated id c
negated_agrees b id c s h least = one_truth _ _
    (λ has.
    let (i, within, test) = some_at (λ (e : Entry). (e.id == id) && e.negated) c.entries has in
    let (is, sign) = both_parts _ _ _ test in
    elim (found_at b id c s h least i within is) [
      | inl e ↦ shown_from (λ (e : Entry). (e.id == id) && e.negated) b c s (subst (λ n. n < length c.entries) e within) (subst (λ n. ((entry_at c.entries n).id == id) && (entry_at c.entries n).negated ≡ true) e test)
      | inr other ↦ absurd (false≢true (sym other.0 ∙ sign))
    ])
    (λ shows.
    let (within, test) = shown_in (λ (e : Entry). (e.id == id) && e.negated) b c s shows in
    list_any_at (λ (e : Entry). (e.id == id) && e.negated) c.entries c.place _ within test)

pub plain_agrees : (b id : ℕ) (c : Place) → Stands b c → b ≤ id → AtLeast id c → shows_negated id c ≡ false → has_plain id c.entries ≡ shows_plain id c
plain_agrees b id c s h least none = one_truth _ _
    (λ has.
    let (i, within, test) = some_at (λ (e : Entry). (e.id == id) && not e.negated) c.entries has in
    let (is, sign) = both_parts _ _ _ test in
    elim (found_at b id c s h least i within is) [
      | inl e ↦ shown_from (λ (e : Entry). (e.id == id) && not e.negated) b c s (subst (λ n. n < length c.entries) e within) (subst (λ n. ((entry_at c.entries n).id == id) && not (entry_at c.entries n).negated ≡ true) e test)
      | inr other ↦ absurd (false≢true (sym none ∙ shown_from (λ (e : Entry). (e.id == id) && e.negated) b c s other.3 (both_from _ _ _ other.2 other.1)))
    ])
    (λ shows.
    let (within, test) = shown_in (λ (e : Entry). (e.id == id) && not e.negated) b c s shows in
    list_any_at (λ (e : Entry). (e.id == id) && not e.negated) c.entries c.place _ within test)

any_agrees : (b id : ℕ) (cs : List Place) → b ≤ id → All (Stands b) cs → All (AtLeast id) cs → list_any (has_negated id) (map entries_of cs) ≡ list_any (shows_negated id) cs
any_agrees b id [] h s least = refl
any_agrees b id (c ∷ cs) h s least =
    ap (λ x. x || list_any (has_negated id) (map entries_of cs)) (negated_agrees b id c (All-head (Stands b) c cs s) h (All-head (AtLeast id) c cs least))
    ∙ ap (λ y. shows_negated id c || y) (any_agrees b id cs h (All-tail (Stands b) c cs s) (All-tail (AtLeast id) c cs least))

none_of_two : (x y : Bool) → (x || y) ≡ false → (x ≡ false) × (y ≡ false)
none_of_two true y h = absurd (false≢true (sym h))
none_of_two false y h = (refl, h)

count_agrees : (b id : ℕ) (cs : List Place) → b ≤ id → All (Stands b) cs → All (AtLeast id) cs → list_any (shows_negated id) cs ≡ false → count_by (has_plain id) (map entries_of cs) ≡ count_by (shows_plain id) cs
count_agrees b id [] h s least none = refl
count_agrees b id (c ∷ cs) h s least none =
    let (here, there) = none_of_two (shows_negated id c) (list_any (shows_negated id) cs) none in
    let one = ap (λ x. cond x 1 0) (plain_agrees b id c (All-head (Stands b) c cs s) h (All-head (AtLeast id) c cs least) here) in
    let rest = count_agrees b id cs h (All-tail (Stands b) c cs s) (All-tail (AtLeast id) c cs least) there in
    sum_by-cons (λ x. cond (has_plain id x) 1 0) c.entries (map entries_of cs)
    ∙ ap (λ n. n + count_by (has_plain id) (map entries_of cs)) one
    ∙ ap (λ n. cond (shows_plain id c) 1 0 + n) rest
    ∙ sym (sum_by-cons (λ x. cond (shows_plain id x) 1 0) c cs)

count_none : (p : Place → Bool) (cs : List Place) → All (λ c. p c ≡ false) cs → count_by p cs ≡ 0
count_none p [] h = refl
count_none p (c ∷ cs) h =
    sum_by-cons (λ x. cond (p x) 1 0) c cs
    ∙ ap (λ x. cond x 1 0 + count_by p cs) (All-head (λ c. p c ≡ false) c cs h)
    ∙ ap (λ n. 0 + n) (count_none p cs (All-tail (λ c. p c ≡ false) c cs h))

pub match_agrees : (b k id : ℕ) (cs : List Place) → b ≤ id → All (Stands b) cs → All (AtLeast id) cs → is_match (map entries_of cs) k id ≡ is_shown cs k id
match_agrees b k id cs h s least =
    let any = any_agrees b id cs h s least in
    elim (cases_Bool (list_any (shows_negated id) cs)) [
      | inl y ↦ ap (λ x. not x && nat_le k (count_by (has_plain id) (map entries_of cs))) (any ∙ y) ∙ sym (ap (λ x. not x && nat_le k (count_by (shows_plain id) cs)) y)
      | inr n ↦ ap (λ x. not x && nat_le k (count_by (has_plain id) (map entries_of cs))) any ∙ ap (λ m. not (list_any (shows_negated id) cs) && nat_le k m) (count_agrees b id cs h s least n)
    ]

-- a number that the cursor is past or before
pub record Above (id : ℕ) (c : Place) : Type 0 where
  pub high : c.place < length c.entries → id < (entry_at c.entries c.place).id

none_above : (b id : ℕ) (c : Place) → Stands b c → Above id c → shows_plain id c ≡ false
none_above b id c s above =
    elim (cases_Bool (shows_plain id c)) [
      | inl y ↦
          let (within, test) = shown_in (λ (e : Entry). (e.id == id) && not e.negated) b c s y in
          let is : (entry_at c.entries c.place).id ≡ id = (both_parts (entry_at c.entries c.place).id id (not (entry_at c.entries c.place).negated) test).0 in
          let high : id < (entry_at c.entries c.place).id = above.high within in
          absurd (omega arith)
      | inr n ↦ n
    ]

no_ask : (x : Bool) (k n : ℕ) → 1 ≤ k → n ≡ 0 → (not x && nat_le k n) ≡ false
no_ask true k n h e = refl
no_ask false k n h e = grind (arith, nat_tests)

pub no_match : (b k id : ℕ) (cs : List Place) → 1 ≤ k → b ≤ id → All (Stands b) cs → All (Above id) cs → is_match (map entries_of cs) k id ≡ false
no_match b k id cs some h s above =
    match_agrees b k id cs h s (λ j d within. record { low = λ p. le_from_lt _ _ ((above j d within).high p) })
    ∙ no_ask (list_any (shows_negated id) cs) k (count_by (shows_plain id) cs) some (count_none (shows_plain id) cs (λ j d within. none_above b id (get_or cs j d) (s j d within) (above j d within)))
  where
    le_from_lt : (m n : ℕ) → m < n → m ≤ n
    le_from_lt m n h = omega arith

ids_in_order : (m n : ℕ) (x y : Bool) → 2 * m + cond x 0 1 < 2 * n + cond y 0 1 → m ≤ n
ids_in_order m n true true h = omega arith
ids_in_order m n true false h = omega arith
ids_in_order m n false true h = omega arith
ids_in_order m n false false h = omega arith

pub ids_rise : (es : List Entry) → IsRising es → (i j : ℕ) → i < j → j < length es → (entry_at es i).id ≤ (entry_at es j).id
ids_rise es r i j h within = ids_in_order _ _ (entry_at es i).negated (entry_at es j).negated (rising_pairs es r i j h within)
