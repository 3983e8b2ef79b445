-- Where a skip ends, and what a match that skips has found.
use Rattle.std.proofs.Common.{◌≡◌, ℕ, ◌+◌, ◌-◌, ◌*◌, ◌/◌, ◌<◌, ◌≤◌, ◌==◌, ◌&&◌, ◌||◌, not, nat_le, inl, inr, List, [], ◌∷◌, ◌++◌, Bool, true, false, cond, Some, None, Option, Contains, count_by, get_or, length, slice_get, slice_index, refl, sym, ◌∙◌, ap, subst, arith, zero, suc}
use Rattle.std.specs.List.{list_all, list_any}
use Rattle.std.specs.Option.{option_map_or}
use Rattle.std.proofs.lemmas.Bool.{cases_Bool, cases_lt, false≢true, lt-leb, ltb-true, lt-ltb}
use Rattle.std.proofs.lemmas.Bool.Decides.{nat_tests}
use Rattle.std.proofs.lemmas.Option.{slice_get-get_or, slice_get_past}
use Rattle.std.proofs.lemmas.List.Elements.{Contains-append_left, Contains-push, Contains-push_cases}
use Rattle.std.proofs.Math.Nat.{mul-le-mul_right}
use Rattle.std.proofs.lemmas.List.Folds.{list_all-append, list_all_at}
use Rattle.std.proofs.lemmas.List.Sums.{count_by-le-length, sum_by-cons}
use Rattle.postings.specs.declared.entry.Entry.{Entry}
use Rattle.postings.specs.Order.{IsRising, entry_at, rank_of}
use Rattle.conj_match.specs.declared.leaping.Reach.{Reach}
use Rattle.conj_match.specs.Matching.{IsAnswer, has_negated, has_plain, is_match}
use Rattle.conj_match.specs.Place.{IsFirstFrom, Place, current}
use Rattle.conj_match.specs.Merge.{Stands, shows_negated, shows_plain}
use Rattle.conj_match.specs.Skip.{IsSkipped, Reaches, falls_short, is_asked, is_short}
use Rattle.conj_match.proofs.Lists.{AtLeast, ids_rise, negated_agrees, plain_agrees, rising_pairs, some_at}
use Rattle.conj_match.proofs.Merge.{rising_push}

-- the interval after a look in its middle
pub halved : (es : List Entry) (origin id : ℕ) (r new : Reach) (middle : ℕ) (next : Entry) → Reaches es origin id r → 1 < r.high - r.low → middle ≡ r.low + (r.high - r.low) / 2 → next ≡ entry_at es (origin + middle)
    → (next.id < id → new ≡ record r { low = middle }) → (id ≤ next.id → new ≡ record r { high = middle; entry = Some next }) → Reaches es origin id new
halved es origin id r new middle next h wide at is short far =
    let ordered = h.ordered in
    let within = h.within in
    let fits = h.fits in
    elim (cases_lt next.id id) [
      | inl lt ↦ subst (Reaches es origin id) (sym (short lt)) (record {
        ordered = omega arith;
        within = h.within;
        fits = h.fits;
        below = subst (λ (x : Entry). x.id < id) is lt;
        shown = h.shown;
        far = h.far;
      })
      | inr ge ↦ subst (Reaches es origin id) (sym (far ge)) (record {
        ordered = omega arith;
        within = omega arith;
        fits = omega arith;
        below = h.below;
        shown = ap (λ (x : Entry). Some x) is ∙ sym (slice_get-get_or es (origin + middle) (record { id = 0; negated = true }) (omega arith));
        far = λ _. subst (λ (x : Entry). id ≤ x.id) is ge;
      })
    ]

-- it has at most half of the width, and begins no earlier
pub narrower : (id : ℕ) (r new : Reach) (middle : ℕ) (next : Entry) → r.low < r.high → 1 < r.high - r.low → middle ≡ r.low + (r.high - r.low) / 2
    → (next.id < id → new ≡ record r { low = middle }) → (id ≤ next.id → new ≡ record r { high = middle; entry = Some next })
    → (new.high - new.low ≤ r.high - r.low - (r.high - r.low) / 2) × (r.low ≤ new.low)
narrower id r new middle next ordered wide at short far =
    elim (cases_lt next.id id) [
      | inl lt ↦
          let low : new.low ≡ middle = ap (λ (x : Reach). x.low) (short lt) in
          let high : new.high ≡ r.high = ap (λ (x : Reach). x.high) (short lt) in
          (omega arith, omega arith)
      | inr ge ↦
          let low : new.low ≡ r.low = ap (λ (x : Reach). x.low) (far ge) in
          let high : new.high ≡ middle = ap (λ (x : Reach). x.high) (far ge) in
          (omega arith, omega arith)
    ]

-- the entries in front of a place, where the one at `last` is below the number
below_up_to : (es : List Entry) (origin last id : ℕ) → IsRising es → last < length es → (entry_at es last).id < id → (i : ℕ) → i ≤ last → (entry_at es i).id < id
below_up_to es origin last id r within low i h =
    elim (cases_lt i last) [
      | inl lt ↦
          let up : (entry_at es i).id ≤ (entry_at es last).id = ids_rise es r i last lt within in
          omega arith
      | inr ge ↦
          let same : last ≡ i = omega arith in
          subst (λ n. (entry_at es n).id < id) same low
    ]

-- where the interval is closed, the skip ends at its upper end
pub first_reached : (es : List Entry) (origin id : ℕ) (r : Reach) → IsRising es → Reaches es origin id r → r.high ≡ r.low + 1 → IsFirstFrom es origin id (origin + r.high)
first_reached es origin id r rising h next =
    let within = h.within in
    (omega arith, h.within, λ i from less. below_up_to es origin (origin + r.low) id rising (omega arith) h.below i (omega arith), h.far)

-- what a look shows that falls short, and one that does not
pub seen_short : (es : List Entry) (i id : ℕ) (o : Option Entry) → o ≡ slice_get es i → is_short id o ≡ true → (i < length es) × ((entry_at es i).id < id)
seen_short es i id o is short =
    elim (cases_lt i (length es)) [
      | inl h ↦ (h, ltb-true (entry_at es i).id id (sym (ap (is_short id) (is ∙ slice_get-get_or es i (record { id = 0; negated = true }) h)) ∙ short))
      | inr h ↦ absurd (false≢true (sym (ap (is_short id) (is ∙ slice_get_past es i h)) ∙ short))
    ]

pub seen_far : (es : List Entry) (i id : ℕ) (o : Option Entry) → o ≡ slice_get es i → is_short id o ≡ false → i < length es → id ≤ (entry_at es i).id
seen_far es i id o is far h =
    elim (cases_lt (entry_at es i).id id) [
      | inl lt ↦ absurd (false≢true (sym far ∙ ap (is_short id) (is ∙ slice_get-get_or es i (record { id = 0; negated = true }) h) ∙ lt-ltb (entry_at es i).id id lt))
      | inr ge ↦ ge
    ]

shows : (c : Place) → c.loaded ≡ true → current c ≡ slice_get c.entries c.place
shows c loaded = ap (λ l. cond l (slice_get c.entries c.place) None) loaded

pub short_is : (id : ℕ) (c : Place) → c.loaded ≡ true → falls_short id c ≡ true → (c.place < length c.entries) × ((entry_at c.entries c.place).id < id)
short_is id c loaded short = seen_short c.entries c.place id (current c) (shows c loaded) short

pub short_not : (id : ℕ) (c : Place) → c.loaded ≡ true → falls_short id c ≡ false → c.place < length c.entries → id ≤ (entry_at c.entries c.place).id
short_not id c loaded far h = seen_far c.entries c.place id (current c) (shows c loaded) far h

-- a look costs one step at most
pub one_look : (place len before after : ℕ) → (place < len → after ≡ before + 1) → (len ≤ place → after ≡ before) → after ≤ before + 1
one_look place len before after read past =
    elim (cases_lt place len) [
      | inl h ↦ let is = read h in omega arith
      | inr h ↦ let is = past h in omega arith
    ]

-- where the cursor does not fall short, the skip ends where it stands
pub stays_first : (id : ℕ) (c : Place) → c.loaded ≡ true → c.place ≤ length c.entries → falls_short id c ≡ false → IsFirstFrom c.entries c.place id c.place
stays_first id c loaded within far = (omega arith, within, λ i from less. absurd (omega arith), short_not id c loaded far)

-- the next entry is the first, where the present one falls short and the next does not
pub first_next : (es : List Entry) (place id : ℕ) → place < length es → (entry_at es place).id < id → (place + 1 < length es → id ≤ (entry_at es (place + 1)).id) → IsFirstFrom es place id (place + 1)
first_next es place id within low far =
    (omega arith, omega arith, λ i from less. let same : place ≡ i = omega arith in subst (λ n. (entry_at es n).id < id) same low, far)

-- after a skip from the start the cursor stands at the number
skipped_stands : (id : ℕ) (c : Place) → IsRising c.entries → c.loaded ≡ true → IsFirstFrom c.entries 0 id c.place → Stands id c
skipped_stands id c rising loaded first = record {
  loaded = loaded;
  rising = rising;
  within = first.1;
  before = λ i h. first.2 i (omega arith) h;
  after = λ i from within. elim (cases_lt c.place i) [
    | inl lt ↦
        let here : id ≤ (entry_at c.entries c.place).id = first.3 (omega arith) in
        let up : (entry_at c.entries c.place).id ≤ (entry_at c.entries i).id = ids_rise c.entries rising c.place i lt within in
        omega arith
    | inr ge ↦
        let same : c.place ≡ i = omega arith in
        subst (λ n. id ≤ (entry_at c.entries n).id) same (first.3 (omega arith))
  ];
}

one_sign : (id : ℕ) (o : Option Entry) → option_map_or (λ (e : Entry). (e.id == id) && not e.negated) o false ≡ true → option_map_or (λ (e : Entry). (e.id == id) && e.negated) o false ≡ false
one_sign id None h = refl
one_sign id (Some e) h = other (e.id == id) e.negated h
  where
    other : (b s : Bool) → (b && not s) ≡ true → (b && s) ≡ false
    other true true h = absurd (false≢true h)
    other true false h = refl
    other false s h = refl

-- the list asks for the number where the cursor shows a plain entry of it
pub asked_is : (id : ℕ) (c : Place) → IsRising c.entries → c.loaded ≡ true → IsFirstFrom c.entries 0 id c.place → shows_plain id c ≡ is_asked id c.entries
asked_is id c rising loaded first =
    let stands = skipped_stands id c rising loaded first in
    let least : AtLeast id c = record { low = first.3 } in
    let negated = negated_agrees id id c stands (omega arith) least in
    elim (cases_Bool (shows_negated id c)) [
      | inl y ↦ hidden (shows_plain id c) (has_plain id c.entries) y ∙ sym (ap (λ b. not b && has_plain id c.entries) (negated ∙ y))
      | inr n ↦ sym (ap (λ b. not b && has_plain id c.entries) (negated ∙ n) ∙ plain_agrees id id c stands (omega arith) least n)
    ]
  where
    hidden : (a b : Bool) → shows_negated id c ≡ true → shows_plain id c ≡ (not true && b)
    hidden a b y =
        elim (cases_Bool (shows_plain id c)) [
          | inl p ↦ absurd (false≢true (sym (one_sign id (current c) p) ∙ y))
          | inr p ↦ p
        ]

pub asked_for : (id : ℕ) (es : List Entry) (c : Place) → IsRising es → c.entries ≡ es → c.loaded ≡ true → IsFirstFrom es 0 id c.place → shows_plain id c ≡ is_asked id es
asked_for id es c rising is loaded first = asked_is id c (subst IsRising (sym is) rising) loaded (subst (λ l. IsFirstFrom l 0 id c.place) (sym is) first) ∙ ap (is_asked id) is

-- the chosen lists one by one
pub asked_more : (id : ℕ) (lists more : List (List Entry)) (es : List Entry) → more ≡ lists ++ es ∷ [] → list_all (is_asked id) lists ≡ true → is_asked id es ≡ true → list_all (is_asked id) more ≡ true
asked_more id lists more es is all here =
    ap (list_all (is_asked id)) is ∙ list_all-append (is_asked id) lists (es ∷ []) ∙ ap (λ b. b && (is_asked id es && true)) all ∙ ap (λ b. b && true) here

pub asked_not : (id : ℕ) (lists : List (List Entry)) (i : ℕ) (es : List Entry) → i < length lists → es ≡ get_or lists i [] → is_asked id es ≡ false → list_all (is_asked id) lists ≡ false
asked_not id lists i es within is lacks = list_all_at (is_asked id) lists i [] within (ap (is_asked id) (sym is) ∙ lacks)

-- what one list more costs
pub asked_cost : (i c d start before after : ℕ) → before ≤ start + i * c → after ≤ before + d → d ≤ c → after ≤ start + (i + 1) * c
asked_cost i c d start before after h k l = omega (arith, h, k, l)

pub asked_within : (i n c start steps : ℕ) → i ≤ n → steps ≤ start + i * c → steps ≤ start + n * c
asked_within i n c start steps le h = omega (arith, h, mul-le-mul_right c le)

pub common_parts : (negated all : Bool) → (not negated && all) ≡ true → (negated ≡ false) × (all ≡ true)
common_parts true all h = absurd (false≢true h)
common_parts false all h = (refl, h)

-- as many lists ask as there are, and none excludes: each list asks and does not exclude
asked_step : (n p any : Bool) (l c d : ℕ) → c ≤ l → d ≡ cond p 1 0 + c → (not (n || any) && nat_le (suc l) d) ≡ ((not n && p) && (not any && nat_le l c))
asked_step true p any l c d h is = refl
asked_step false true true l c d h is = refl
asked_step false true false l c d h is = grind (arith, nat_tests)
asked_step false false true l c d h is = refl
asked_step false false false l c d h is = lt-leb (suc l) d (omega arith)

common_in : (id : ℕ) (lists : List (List Entry)) → (not (list_any (has_negated id) lists) && nat_le (length lists) (count_by (has_plain id) lists)) ≡ list_all (is_asked id) lists
common_in id [] = refl
common_in id (es ∷ lists) =
    asked_step (has_negated id es) (has_plain id es) (list_any (has_negated id) lists) (length lists) (count_by (has_plain id) lists) (count_by (has_plain id) (es ∷ lists)) (count_by-le-length (has_plain id) lists) (sum_by-cons (λ x. cond (has_plain id x) 1 0) es lists)
    ∙ ap (λ b. is_asked id es && b) (common_in id lists)

pub common_is : (id k : ℕ) (lists : List (List Entry)) → length lists ≡ k → is_match lists k id ≡ list_all (is_asked id) lists
common_is id k lists is = ap (λ n. not (list_any (has_negated id) lists) && nat_le n (count_by (has_plain id) lists)) (sym is) ∙ common_in id lists

pub skipped_none : (lists : List (List Entry)) (k : ℕ) (es : List Entry) (ids : List ℕ) → ids ≡ [] → IsSkipped lists k es 0 ids
skipped_none lists k es ids none = subst (IsSkipped lists k es 0) (sym none) (record {
  rising = λ i h. absurd (omega arith);
  sound = λ id among. absurd (omega (arith, among.1));
  ahead = λ j m h from within plain. absurd (omega arith);
  whole = λ m h plain is. absurd (omega arith);
})

plain_rise : (a b : Entry) → rank_of a < rank_of b → a.negated ≡ false → b.negated ≡ false → a.id < b.id
plain_rise a b h plain also =
    let left : rank_of a ≡ 2 * a.id + 1 = ap (λ s. 2 * a.id + cond s 0 1) plain in
    let right : rank_of b ≡ 2 * b.id + 1 = ap (λ s. 2 * b.id + cond s 0 1) also in
    omega arith

pub skipped_yes : (lists : List (List Entry)) (k : ℕ) (es : List Entry) (n : ℕ) (ids : List ℕ) (e : Entry) → IsRising es → n < length es → e ≡ entry_at es n → e.negated ≡ false → is_match lists k e.id ≡ true
    → IsSkipped lists k es n ids → IsSkipped lists k es (n + 1) (ids ++ e.id ∷ [])
skipped_yes lists k es n ids e rising within is plain found h =
    let sign : (entry_at es n).negated ≡ false = ap (λ (x : Entry). x.negated) (sym is) ∙ plain in
    let number : (entry_at es n).id ≡ e.id = ap (λ (x : Entry). x.id) (sym is) in
    let low : (i : ℕ) → i < length ids → slice_index ids i < e.id = λ i less. subst (λ x. slice_index ids i < x) number (h.ahead i n less (omega arith) within sign) in
    record {
      rising = rising_push ids e.id h.rising low;
      sound = λ id among. elim (Contains-push_cases ids e.id id among) [
        | inl old ↦ h.sound id old
        | inr same ↦ subst (λ x. is_match lists k x ≡ true) same found
      ];
      ahead = λ j m less from inside sign_m. elim (cases_lt j (length ids)) [
        | inl old ↦ subst (λ x. x < (entry_at es m).id) (sym (push_old ids e.id j old)) (h.ahead j m old (omega arith) inside sign_m)
        | inr new ↦
            let last : slice_index (ids ++ e.id ∷ []) j ≡ e.id = push_new ids e.id j (omega (arith, push_length ids e.id)) in
            let up : (entry_at es n).id < (entry_at es m).id = plain_rise (entry_at es n) (entry_at es m) (rising_pairs es rising n m (omega arith) inside) sign sign_m in
            omega arith
      ];
      whole = λ m less plain_m is_m. elim (cases_lt m n) [
        | inl old ↦ Contains-append_left ids (e.id ∷ []) (entry_at es m).id (h.whole m old plain_m is_m)
        | inr new ↦
            let same : n ≡ m = omega arith in
            subst (λ x. Contains (ids ++ e.id ∷ []) (entry_at es x).id) same (subst (Contains (ids ++ e.id ∷ [])) (sym number) (Contains-push ids e.id))
      ];
    }
  where
    push_length : (xs : List ℕ) (x : ℕ) → length (xs ++ x ∷ []) ≡ length xs + 1
    push_length [] x = refl
    push_length (y ∷ xs) x = omega (arith, push_length xs x)

    push_old : (xs : List ℕ) (x i : ℕ) → i < length xs → slice_index (xs ++ x ∷ []) i ≡ slice_index xs i
    push_old [] x i h = absurd (omega arith)
    push_old (y ∷ xs) x zero h = refl
    push_old (y ∷ xs) x (suc i) h = push_old xs x i (omega arith)

    push_new : (xs : List ℕ) (x i : ℕ) → i ≡ length xs → slice_index (xs ++ x ∷ []) i ≡ x
    push_new [] x zero h = refl
    push_new [] x (suc i) h = absurd (omega arith)
    push_new (y ∷ xs) x zero h = absurd (omega arith)
    push_new (y ∷ xs) x (suc i) h = push_new xs x i (omega arith)

pub skipped_no : (lists : List (List Entry)) (k : ℕ) (es : List Entry) (n : ℕ) (ids : List ℕ) (e : Entry) → e ≡ entry_at es n → (not e.negated && is_match lists k e.id) ≡ false
    → IsSkipped lists k es n ids → IsSkipped lists k es (n + 1) ids
skipped_no lists k es n ids e is lacks h = record {
  rising = h.rising;
  sound = h.sound;
  ahead = λ j m less from inside plain. h.ahead j m less (omega arith) inside plain;
  whole = λ m less plain found. elim (cases_lt m n) [
    | inl old ↦ h.whole m old plain found
    | inr new ↦
        let same : n ≡ m = omega arith in
        let at : e ≡ entry_at es m = is ∙ ap (entry_at es) same in
        absurd (false≢true (sym lacks ∙ ap (λ (x : Entry). not x.negated && is_match lists k x.id) at ∙ ap (λ b. not b && is_match lists k (entry_at es m).id) plain ∙ found))
  ];
}

-- where the list is one of as many as `k`, the matches are among its plain entries
pub skipped_all : (lists : List (List Entry)) (k : ℕ) (es : List Entry) (n : ℕ) (ids : List ℕ) → length lists ≡ k → Contains lists es → length es ≤ n → IsSkipped lists k es n ids → IsAnswer lists k ids
skipped_all lists k es n ids many member end h = record {
  rising = h.rising;
  exact = λ id. (
    λ among. h.sound id among,
    λ found.
        let asked = asked_of id lists es member (sym (common_is id k lists many) ∙ found) in
        let (i, within, test) = some_at (λ (e : Entry). (e.id == id) && not e.negated) es asked in
        let (is, plain) = parts (entry_at es i).id id (entry_at es i).negated test in
        subst (Contains ids) is (h.whole i (omega arith) plain (ap (is_match lists k) is ∙ found)),
  );
}
  where
    parts : (a b : ℕ) (s : Bool) → ((a == b) && not s) ≡ true → (a ≡ b) × (s ≡ false)
    parts a b true h = absurd (grind (arith, nat_tests))
    parts a b false h = (grind (arith, nat_tests), refl)

    second : (a b : Bool) → (a && b) ≡ true → b ≡ true
    second true b h = h
    second false b h = absurd (false≢true h)

    first : (a b : Bool) → (a && b) ≡ true → a ≡ true
    first true b h = refl
    first false b h = absurd (false≢true h)

    asked_at : (id : ℕ) (ls : List (List Entry)) (i : ℕ) (d : List Entry) → i < length ls → list_all (is_asked id) ls ≡ true → is_asked id (get_or ls i d) ≡ true
    asked_at id [] i d within all = absurd (omega arith)
    asked_at id (l ∷ ls) zero d within all = first (is_asked id l) (list_all (is_asked id) ls) all
    asked_at id (l ∷ ls) (suc i) d within all = asked_at id ls i d (omega arith) (second (is_asked id l) (list_all (is_asked id) ls) all)

    asked_of : (id : ℕ) (ls : List (List Entry)) (l : List Entry) → Contains ls l → list_all (is_asked id) ls ≡ true → has_plain id l ≡ true
    asked_of id ls l (i, within, is) all = second (not (has_negated id l)) (has_plain id l) (subst (λ x. is_asked id x ≡ true) is (asked_at id ls i l within all))
