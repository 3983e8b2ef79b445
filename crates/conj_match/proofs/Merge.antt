-- One turn of the merge.
use Rattle.std.proofs.Common.{◌≡◌, ℕ, ◌+◌, ◌-◌, ◌<◌, ◌≤◌, ◌⊎◌, min, inl, inr, List, [], ◌∷◌, ◌++◌, true, false, Option, Some, None, MatchOption, All, Contains, get_or, length, map, take, slice_index, refl, sym, ◌∙◌, ap, subst, arith, zero, suc}
use Rattle.std.specs.List.{sum_by}
use Rattle.std.specs.Option.{option_map}
use Rattle.std.proofs.lemmas.Bool.{cases_lt, cases_order, false≢true}
use Rattle.std.proofs.lemmas.List.{get_or_append_left, get_or_at, length-append, take_more}
use Rattle.std.proofs.lemmas.List.Elements.{All-push, Contains-append_left, Contains-push, Contains-push_cases}
use Rattle.std.proofs.lemmas.List.Sums.{sum_by-cons}
use Rattle.postings.specs.declared.entry.Entry.{Entry}
use Rattle.postings.specs.Order.{IsRising, entry_at}
use Rattle.conj_match.specs.Place.{Place}
use Rattle.conj_match.specs.Matching.{IsAnswer, is_match}
use Rattle.conj_match.specs.Merge.{ArePassed, Decided, IsLeast, Passed, Stands, entries_of, is_shown, left_in, lesser, current_id}
use Rattle.conj_match.proofs.Lists.{Above, AtLeast, ids_rise, match_agrees, no_match, shown_here, shown_past}

abbrev Low : ℕ → Place → Type 0
Low m c = MatchOption (current_id c) (Unit {0}) (λ n. m ≤ n)

abbrev LeastIs : List Place → ℕ → Type 0
LeastIs cs m = All (Low m) cs × ((c : Place) × Contains cs c × (current_id c ≡ Some m))

low_none : (m : ℕ) (c : Place) → current_id c ≡ None → Low m c
low_none m c e = subst (λ o. MatchOption o (Unit {0}) (λ n. m ≤ n)) (sym e) tt

low_some : (m n : ℕ) (c : Place) → current_id c ≡ Some n → m ≤ n → Low m c
low_some m n c e h = subst (λ o. MatchOption o (Unit {0}) (λ n. m ≤ n)) (sym e) h

low_less : (m n : ℕ) (c : Place) → n ≤ m → Low m c → Low n c
low_less m n c h low = by_cases m n (current_id c) h low
  where
    by_cases : (m n : ℕ) (o : Option ℕ) → n ≤ m → MatchOption o (Unit {0}) (λ x. m ≤ x) → MatchOption o (Unit {0}) (λ x. n ≤ x)
    by_cases m n None h low = tt
    by_cases m n (Some x) h low = omega arith

least_push : (front : List Place) (c : Place) (least o : Option ℕ) → current_id c ≡ o → IsLeast front least → IsLeast (front ++ c ∷ []) (lesser least o)
least_push front c None None e all = All-push (λ c. current_id c ≡ None) front c all e
least_push front c None (Some n) e all =
    (All-push (Low n) front c (λ j d within. low_none n (get_or front j d) (all j d within)) (low_some n n c e (omega arith)), (c, Contains-push front c, e))
least_push front c (Some m) None e (all, (w, among, is)) =
    (All-push (Low m) front c all (low_none m c e), (w, Contains-append_left front (c ∷ []) w among, is))
least_push front c (Some m) (Some n) e (all, (w, among, is)) =
    elim (cases_lt n m) [
      | inl h ↦
          let same : n ≡ min m n = omega arith in
          subst (LeastIs (front ++ c ∷ [])) same
          (All-push (Low n) front c (λ j d within. low_less m n (get_or front j d) (omega arith) (all j d within)) (low_some n n c e (omega arith)), (c, Contains-push front c, e))
      | inr h ↦
          let same : m ≡ min m n = omega arith in
          subst (LeastIs (front ++ c ∷ [])) same
          (All-push (Low m) front c all (low_some m n c e h), (w, Contains-append_left front (c ∷ []) w among, is))
    ]

pub least_more : (cs : List Place) (i : ℕ) (c : Place) (least : Option ℕ) → i < length cs → c ≡ get_or cs i c → IsLeast (take i cs) least → IsLeast (take (i + 1) cs) (lesser least (current_id c))
least_more cs i c least within is h =
    let front : take (i + 1) cs ≡ take i cs ++ c ∷ [] = take_more cs i c within ∙ ap (λ x. take i cs ++ x ∷ []) (sym is) in
    subst (λ f. IsLeast f (lesser least (current_id c))) (sym front) (least_push (take i cs) c least (current_id c) refl h)

at_least : (b m : ℕ) (c : Place) → Stands b c → Low m c → AtLeast m c
at_least b m c s low = record { low = λ within. subst (λ o. MatchOption (option_map (λ (e : Entry). e.id) o) (Unit {0}) (λ n. m ≤ n)) (shown_here b c s within) low }

-- the cursor that shows the least number stands on it
stands_on : (b m : ℕ) (c : Place) → Stands b c → current_id c ≡ Some m → (c.place < length c.entries) × ((entry_at c.entries c.place).id ≡ m)
stands_on b m c s e =
    elim (cases_lt c.place (length c.entries)) [
      | inl within ↦
          let same : Some (entry_at c.entries c.place).id ≡ Some m = sym (ap (option_map (λ (e : Entry). e.id)) (shown_here b c s within)) ∙ e in
          (within, cc)
      | inr past ↦
          let same : None ≡ Some m = sym (ap (option_map (λ (e : Entry). e.id)) (shown_past b c s past)) ∙ e in
          cc
    ]

pub stands_after : (b m : ℕ) (old new : Place) → Stands b old → b ≤ m → Passed m old new → Stands (m + 1) new
stands_after b m old new s h p =
    record {
      loaded = p.loaded ∙ s.loaded;
      rising = subst IsRising (sym p.entries) s.rising;
      within = subst (λ es. new.place ≤ length es) (sym p.entries) p.first.1;
      before = λ i k. subst (λ es. (entry_at es i).id < m + 1) (sym p.entries) (passed_before b m old new s h p i k);
      after = λ i k within. subst (λ es. m + 1 ≤ (entry_at es i).id) (sym p.entries) (passed_after b m old new s p i k (subst (λ es. i < length es) p.entries within));
    }
  where
    passed_before : (b m : ℕ) (old new : Place) → Stands b old → b ≤ m → Passed m old new → (i : ℕ) → i < new.place → (entry_at old.entries i).id < m + 1
    passed_before b m old new s h p i k =
        elim (cases_lt i old.place) [
          | inl lt ↦ let early : (entry_at old.entries i).id < b = s.before i lt in omega arith
          | inr ge ↦ p.first.2 i ge k
        ]

    passed_after : (b m : ℕ) (old new : Place) → Stands b old → Passed m old new → (i : ℕ) → new.place ≤ i → i < length old.entries → m + 1 ≤ (entry_at old.entries i).id
    passed_after b m old new s p i k within =
        let here : m + 1 ≤ (entry_at old.entries new.place).id = p.first.3 (omega arith) in
        elim (cases_order new.place i) [
          | inl same ↦ subst (λ n. m + 1 ≤ (entry_at old.entries n).id) same here
          | inr o ↦ elim o [
            | inl lt ↦ let up : (entry_at old.entries new.place).id ≤ (entry_at old.entries i).id = ids_rise old.entries s.rising new.place i lt within in omega arith
            | inr gt ↦ absurd (omega arith)
          ]
        ]

same_map : (cs new : List Place) → length new ≡ length cs → ((j : ℕ) (d : Place) → j < length cs → (get_or new j d).entries ≡ (get_or cs j d).entries) → map entries_of new ≡ map entries_of cs
same_map [] [] e h = refl
same_map [] (x ∷ new) e h = absurd (omega arith)
same_map (c ∷ cs) [] e h = absurd (omega arith)
same_map (c ∷ cs) (x ∷ new) e h =
    ap (λ l. l ∷ map entries_of new) (h 0 c (omega arith)) ∙ ap (λ l. c.entries ∷ l) (same_map cs new (omega arith) (λ j d within. h (suc j) d (omega arith)))

abbrev left : Place → ℕ
left c = length c.entries - c.place

sum_le : (cs new : List Place) → length new ≡ length cs → ((j : ℕ) (d : Place) → j < length cs → left (get_or new j d) ≤ left (get_or cs j d)) → sum_by left new ≤ sum_by left cs
sum_le [] [] e h = omega arith
sum_le [] (x ∷ new) e h = absurd (omega arith)
sum_le (c ∷ cs) [] e h = absurd (omega arith)
sum_le (c ∷ cs) (x ∷ new) e h =
    let rest = sum_le cs new (omega arith) (λ j d within. h (suc j) d (omega arith)) in
    let here : left x ≤ left c = h 0 c (omega arith) in
    omega (arith, sum_by-cons left x new, sum_by-cons left c cs)

sum_lt : (cs new : List Place) → length new ≡ length cs → ((j : ℕ) (d : Place) → j < length cs → left (get_or new j d) ≤ left (get_or cs j d))
    → (i : ℕ) (d : Place) → i < length cs → left (get_or new i d) < left (get_or cs i d) → sum_by left new < sum_by left cs
sum_lt [] new e h i d within lt = absurd (omega arith)
sum_lt (c ∷ cs) [] e h i d within lt = absurd (omega arith)
sum_lt (c ∷ cs) (x ∷ new) e h zero d within lt =
    let rest = sum_le cs new (omega arith) (λ j d within. h (suc j) d (omega arith)) in
    omega (arith, sum_by-cons left x new, sum_by-cons left c cs)
sum_lt (c ∷ cs) (x ∷ new) e h (suc i) d within lt =
    let rest = sum_lt cs new (omega arith) (λ j d within. h (suc j) d (omega arith)) i d (omega arith) lt in
    let here : left x ≤ left c = h 0 c (omega arith) in
    omega (arith, sum_by-cons left x new, sum_by-cons left c cs)

left_passed : (m : ℕ) (old new : Place) → Passed m old new → left new ≤ left old
left_passed m old new p =
    let lengths : length new.entries ≡ length old.entries = ap length p.entries in
    let from = p.first.0 in
    omega arith

left_moved : (b m : ℕ) (old new : Place) → Stands b old → current_id old ≡ Some m → Passed m old new → left new < left old
left_moved b m old new s e p =
    let lengths : length new.entries ≡ length old.entries = ap length p.entries in
    let (within, is) = stands_on b m old s e in
    let from = p.first.0 in
    elim (cases_order old.place new.place) [
      | inl same ↦
          let high : m + 1 ≤ (entry_at old.entries old.place).id = subst (λ n. m + 1 ≤ (entry_at old.entries n).id) (sym same) (p.first.3 (omega arith)) in
          absurd (omega arith)
      | inr o ↦ omega arith
    ]

-- the merge ends
pub left_falls : (b m : ℕ) (cs new : List Place) → All (Stands b) cs → IsLeast cs (Some m) → ArePassed m cs new → left_in new < left_in cs
left_falls b m cs new s (all, (w, (i, within, at), is)) (len, each) =
    sum_lt cs new len (λ j d h. left_passed m (get_or cs j d) (get_or new j d) (each j d h)) i w within
    (left_moved b m (get_or cs i w) (get_or new i w) (s i w within) (ap current_id at ∙ is) (each i w within))

-- before the first turn
pub start : (lists : List (List Entry)) (k : ℕ) (cs : List Place) (ids : List ℕ) → ids ≡ [] → map entries_of cs ≡ lists → All (Stands 0) cs → Decided lists k cs ids 0
start lists k cs ids none same stand = subst (λ l. Decided lists k cs l 0) (sym none) (record {
  same = same;
  stand = stand;
  rising = λ i h. absurd (omega arith);
  below = λ i h. absurd (omega arith);
  sound = λ id among. absurd (omega (arith, among.1));
  whole = λ id h is. absurd (omega arith);
})

pub left_start : (cs : List Place) → left_in cs ≤ sum_by length (map entries_of cs)
left_start [] = omega arith
left_start (c ∷ cs) =
    let rest = left_start cs in
    omega (arith, sum_by-cons left c cs, sum_by-cons (length {A = Entry}) c.entries (map entries_of cs))

at_front : (ids : List ℕ) (m i : ℕ) → i < length ids → slice_index (ids ++ m ∷ []) i ≡ slice_index ids i
at_front ids m i h = get_or_append_left ids (m ∷ []) 0 i h

at_last : (ids : List ℕ) (m i : ℕ) → length ids ≡ i → slice_index (ids ++ m ∷ []) i ≡ m
at_last ids m i h = get_or_at ids m [] 0 i h

pub rising_push : (ids : List ℕ) (m : ℕ) → ((i : ℕ) → i + 1 < length ids → slice_index ids i < slice_index ids (i + 1)) → ((i : ℕ) → i < length ids → slice_index ids i < m)
    → (i : ℕ) → i + 1 < length (ids ++ m ∷ []) → slice_index (ids ++ m ∷ []) i < slice_index (ids ++ m ∷ []) (i + 1)
rising_push ids m rising below i h =
    let len : length (ids ++ m ∷ []) ≡ length ids + 1 = length-append ids (m ∷ []) in
    let here : i < length ids = omega arith in
    elim (cases_lt (i + 1) (length ids)) [
      | inl lt ↦ omega (arith, at_front ids m i here, at_front ids m (i + 1) lt, rising i lt)
      | inr ge ↦
          let last : length ids ≡ i + 1 = omega arith in
          omega (arith, at_front ids m i here, at_last ids m (i + 1) last, below i here)
    ]

pub below_push : (ids : List ℕ) (m : ℕ) → ((i : ℕ) → i < length ids → slice_index ids i < m) → (i : ℕ) → i < length (ids ++ m ∷ []) → slice_index (ids ++ m ∷ []) i < m + 1
below_push ids m below i h =
    let len : length (ids ++ m ∷ []) ≡ length ids + 1 = length-append ids (m ∷ []) in
    elim (cases_lt i (length ids)) [
      | inl lt ↦ omega (arith, at_front ids m i lt, below i lt)
      | inr ge ↦
          let last : length ids ≡ i = omega arith in
          omega (arith, at_last ids m i last)
    ]

-- what one turn decides
record Turn (lists : List (List Entry)) (k : ℕ) (cs new : List Place) (b m : ℕ) : Type 0 where
  pub from : b ≤ m
  pub here : is_match lists k m ≡ is_shown cs k m
  pub between : (id : ℕ) → b ≤ id → id < m → is_match lists k id ≡ false
  pub same : map entries_of new ≡ lists
  pub stand : All (Stands (m + 1)) new

turn : (lists : List (List Entry)) (k : ℕ) (cs new : List Place) (ids : List ℕ) (b m : ℕ) → Decided lists k cs ids b → 1 ≤ k → IsLeast cs (Some m) → ArePassed m cs new → Turn lists k cs new b m
turn lists k cs new ids b m d some (all, (w, (i, within, at), is)) (len, each) =
    let on = stands_on b m (get_or cs i w) (d.stand i w within) (ap current_id at ∙ is) in
    let low : b ≤ (entry_at (get_or cs i w).entries (get_or cs i w).place).id = (d.stand i w within).after (get_or cs i w).place (omega arith) on.0 in
    let from : b ≤ m = subst (λ n. b ≤ n) on.1 low in
    let least : All (AtLeast m) cs = λ j e h. at_least b m (get_or cs j e) (d.stand j e h) (all j e h) in
    record {
      from = from;
      here = ap (λ l. is_match l k m) (sym d.same) ∙ match_agrees b k m cs from d.stand least;
      between = λ id h lt. ap (λ l. is_match l k id) (sym d.same) ∙ no_match b k id cs some h d.stand (λ j e h. above_of id m (get_or cs j e) lt (least j e h));
      same = same_map cs new len (λ j e h. (each j e h).entries) ∙ d.same;
      stand = λ j e h. let h' : j < length cs = omega arith in stands_after b m (get_or cs j e) (get_or new j e) (d.stand j e h') from (each j e h');
    }
  where
    above_of : (id m : ℕ) (c : Place) → id < m → AtLeast m c → Above id c
    above_of id m c h least = record { high = λ within. less id m _ h (least.low within) }
      where
        less : (id m n : ℕ) → id < m → m ≤ n → id < n
        less id m n h k = omega arith

whole_after : (lists : List (List Entry)) (k : ℕ) (ids : List ℕ) (b m : ℕ) → ((id : ℕ) → id < b → is_match lists k id ≡ true → Contains ids id) → ((id : ℕ) → b ≤ id → id < m → is_match lists k id ≡ false)
    → (id : ℕ) → id < m + 1 → is_match lists k id ≡ true → Contains ids id ⊎ (m ≡ id)
whole_after lists k ids b m whole between id h is =
    elim (cases_lt id b) [
      | inl lt ↦ inl (whole id lt is)
      | inr ge ↦ elim (cases_lt id m) [
        | inl lt ↦ absurd (false≢true (sym (between id ge lt) ∙ is))
        | inr at ↦ inr (omega arith)
      ]
    ]

pub turn_yes : (lists : List (List Entry)) (k : ℕ) (cs new : List Place) (ids : List ℕ) (b m : ℕ) → Decided lists k cs ids b → 1 ≤ k → IsLeast cs (Some m) → is_shown cs k m ≡ true → ArePassed m cs new → Decided lists k new (ids ++ m ∷ []) (m + 1)
turn_yes lists k cs new ids b m d some least is passed =
    let t = turn lists k cs new ids b m d some least passed in
    let below : (i : ℕ) → i < length ids → slice_index ids i < m = λ i h. less (slice_index ids i) b m (d.below i h) t.from in
    record {
      same = t.same;
      stand = t.stand;
      rising = rising_push ids m d.rising below;
      below = below_push ids m below;
      sound = λ id among. elim (Contains-push_cases ids m id among) [
        | inl old ↦ d.sound id old
        | inr e ↦ subst (λ n. is_match lists k n ≡ true) e (t.here ∙ is)
      ];
      whole = λ id h yes. elim (whole_after lists k ids b m d.whole t.between id h yes) [
        | inl old ↦ Contains-append_left ids (m ∷ []) id old
        | inr e ↦ subst (Contains (ids ++ m ∷ [])) e (Contains-push ids m)
      ];
    }
  where
    less : (x b m : ℕ) → x < b → b ≤ m → x < m
    less x b m h k = omega arith

pub turn_no : (lists : List (List Entry)) (k : ℕ) (cs new : List Place) (ids : List ℕ) (b m : ℕ) → Decided lists k cs ids b → 1 ≤ k → IsLeast cs (Some m) → is_shown cs k m ≡ false → ArePassed m cs new → Decided lists k new ids (m + 1)
turn_no lists k cs new ids b m d some least is passed =
    let t = turn lists k cs new ids b m d some least passed in
    record {
      same = t.same;
      stand = t.stand;
      rising = d.rising;
      below = λ i h. less (slice_index ids i) b m (d.below i h) t.from;
      sound = d.sound;
      whole = λ id h yes. elim (whole_after lists k ids b m d.whole t.between id h yes) [
        | inl old ↦ old
        | inr e ↦ absurd (false≢true (sym (sym (ap (is_match lists k) e) ∙ t.here ∙ is) ∙ yes))
      ];
    }
  where
    less : (x b m : ℕ) → x < b → b ≤ m → x < m + 1
    less x b m h k = omega arith

-- after the last turn
pub finished : (lists : List (List Entry)) (k : ℕ) (cs : List Place) (ids : List ℕ) (b : ℕ) → Decided lists k cs ids b → 1 ≤ k → IsLeast cs None → IsAnswer lists k ids
finished lists k cs ids b d some none = record {
  rising = d.rising;
  exact = λ id. (
    d.sound id,
    λ yes. elim (cases_lt id b) [
      | inl lt ↦ d.whole id lt yes
      | inr ge ↦ absurd (false≢true (sym (ap (λ l. is_match l k id) (sym d.same) ∙ no_match b k id cs some ge d.stand (λ j e h. past b id (get_or cs j e) (d.stand j e h) (none j e h))) ∙ yes))
    ],
  );
}
  where
    past : (b id : ℕ) (c : Place) → Stands b c → current_id c ≡ None → Above id c
    past b id c s e = record {
      high = λ within.
          let same : Some (entry_at c.entries c.place).id ≡ None = sym (ap (option_map (λ (e : Entry). e.id)) (shown_here b c s within)) ∙ e in
          absurd (cc);
    }
