-- The chains of the sales to users.
use Rattle.std.proofs.Common.{◌≡◌, ℕ, zero, suc, ◌+◌, ◌-◌, ◌<◌, ◌≤◌, ◌&&◌, inl, inr, eqb, cond, Bool, true, false, List, [], ◌∷◌, ◌++◌, length, get_or, set, take, drop, refl, sym, ◌∙◌, ap, subst, arith, length-drop, Option, Some, None}
use Rattle.std.specs.Prelude.{count_by, option_map, ◌||◌, nat_lt, ◌*◌, min}
use Rattle.std.specs.Str.{bytes_eq}
use Rattle.budget_book.specs.Sales.{expired, expired_at, is_billed, is_billed_of, is_held, is_held_of, is_shown, is_to, shown_of, state_at}
use Rattle.std.proofs.lemmas.Bool.{cases_Bool, eq-eqb, eqb-true, false≢true, cases_order, and_parts, or_cases}
use Rattle.std.proofs.lemmas.List.{get_or_append_left, get_or-drop, get_or_push, get_or-map, get_or-set_other, get_or-set_same, length-map, take_all, length_push}
use Rattle.std.proofs.lemmas.List.Sums.{sum_by_more, sum_by-cons}
use Rattle.budget_book.specs.declared.sales.SaleRow.{SaleRow}
use Rattle.budget_book.specs.LastSales.{distance, last_at, place_by, place_of, user_hash}
use Rattle.budget_book.specs.Users.{AreChains, is_at, last_below, places_of, sale_place}

abbrev pub pick : Bool → ℕ → ℕ → ℕ
pick b x y = cond b x y

-- a sale without a user has no place
abbrev nowhere : Option ℕ
nowhere = None

-- the place by the hash of the user is that of the sale
pub place_mapped : (c : ℕ) (user : Option (List ℕ)) → option_map (place_by c) (option_map user_hash user) ≡ option_map (place_of c) user
place_mapped c None = refl
place_mapped c (Some user) = refl

-- the last at each place, once one place has another number
pub last_set : (lasts : List ℕ) (b n q : ℕ) → b < length lasts → last_at q (set lasts b n) ≡ cond (eqb q b) n (last_at q lasts)
last_set lasts b n q l =
    elim (cases_Bool (eqb q b)) [
      | inl y ↦ ap (λ k. get_or (set lasts b n) k 0) (eqb-true q b y) ∙ get_or-set_same lasts b n 0 l ∙ sym (ap (λ t. cond t n (last_at q lasts)) y)
      | inr o ↦ get_or-set_other lasts b q n 0 (λ e. false≢true (sym o ∙ eq-eqb q b e)) ∙ sym (ap (λ t. cond t n (last_at q lasts)) o)
    ]

-- one more sale
last_more : (b : ℕ) (places : List (Option ℕ)) (k : ℕ) (t : Bool) → is_at b (get_or places k None) ≡ t → last_below b places (suc k) ≡ pick t (suc k) (last_below b places k)
last_more b places k t h = ap (λ t. pick t (suc k) (last_below b places k)) h

pub last_bound : (b : ℕ) (places : List (Option ℕ)) (k : ℕ) → last_below b places k ≤ k
last_bound b places zero = omega arith
last_bound b places (suc k) = by_test (is_at b (get_or places k None)) (last_below b places k) k (last_bound b places k)
  where
    by_test : (t : Bool) (n k : ℕ) → n ≤ k → pick t (suc k) n ≤ suc k
    by_test true n k l = omega arith
    by_test false n k l = omega arith

-- the last sale at the place is at the place
pub last_is : (b : ℕ) (places : List (Option ℕ)) (k p : ℕ) → last_below b places k ≡ suc p → (is_at b (get_or places p None) ≡ true) × (p < k)
last_is b places zero p h = absurd (omega (arith, h))
last_is b places (suc k) p h =
    elim (cases_Bool (is_at b (get_or places k None))) [
      | inl y ↦
          let same : p ≡ k = omega (arith, h, last_more b places k true y) in
          (ap (λ n. is_at b (get_or places n None)) same ∙ y, omega arith)
      | inr n ↦
          let (is, l) = last_is b places k p (sym (last_more b places k false n) ∙ h) in
          (is, omega (arith, l))
    ]

-- it stands however many sales follow
pub last_kept : (b : ℕ) (places more : List (Option ℕ)) (k : ℕ) → k ≤ length places → last_below b (places ++ more) k ≡ last_below b places k
last_kept b places more zero l = refl
last_kept b places more (suc k) l =
    let same : get_or (places ++ more) k None ≡ get_or places k None = get_or_append_left places more None k (omega arith) in
    ap (λ o. pick (is_at b o) (suc k) (last_below b (places ++ more) k)) same ∙ ap (λ n. pick (is_at b (get_or places k None)) (suc k) n) (last_kept b places more k (omega arith))

-- the oldest d are forgotten
pub last_dropped : (b : ℕ) (places : List (Option ℕ)) (d k : ℕ) → last_below b places (d + k) - d ≡ last_below b (drop d places) k
last_dropped b places d zero =
    let e : d + 0 ≡ d = omega arith in
    let bound : last_below b places (d + 0) ≤ d = subst (λ n. last_below b places (d + 0) ≤ n) e (last_bound b places (d + 0)) in
    omega (arith, bound)
last_dropped b places d (suc k) =
    let e : d + suc k ≡ suc (d + k) = omega arith in
    let there : get_or (drop d places) k None ≡ get_or places (d + k) None = get_or-drop d places k None in
    let unfolded : last_below b places (d + suc k) ≡ pick (is_at b (get_or places (d + k) None)) (suc (d + k)) (last_below b places (d + k)) = ap (last_below b places) e in
    let other : last_below b (drop d places) (suc k) ≡ pick (is_at b (get_or places (d + k) None)) (suc k) (last_below b (drop d places) k) = ap (λ o. pick (is_at b o) (suc k) (last_below b (drop d places) k)) there in
    omega (arith, unfolded, other, by_test (is_at b (get_or places (d + k) None)) (last_below b places (d + k)) (last_below b (drop d places) k) d k (last_dropped b places d k))
  where
    by_test : (t : Bool) (m n d k : ℕ) → m - d ≡ n → pick t (suc (d + k)) m - d ≡ pick t (suc k) n
    by_test true m n d k h = omega arith
    by_test false m n d k h = h

-- sales that pass a test that asks for the place are among those up to the last at the place
pub counted_up_to_last : (test : SaleRow → Bool) (b : ℕ) (rows : List SaleRow) → ((s : SaleRow) → test s ≡ true → is_at b (sale_place s) ≡ true) → (k : ℕ) (d : SaleRow) → k ≤ length rows
    → count_by test (take k rows) ≡ count_by test (take (last_below b (places_of rows) k) rows)
counted_up_to_last test b rows h zero d l = refl
counted_up_to_last test b rows h (suc k) d l =
    let here : get_or (places_of rows) k None ≡ sale_place (get_or rows k d) = get_or-map sale_place rows k d None (omega arith) in
    elim (cases_Bool (is_at b (get_or (places_of rows) k None))) [
      | inl y ↦ sym (ap (λ n. count_by test (take n rows)) (last_more b (places_of rows) k true y))
      | inr n ↦
          let fails : test (get_or rows k d) ≡ false = test_fails (test (get_or rows k d)) (λ t. false≢true (sym n ∙ ap (is_at b) here ∙ h (get_or rows k d) t)) in
          let e : k + 1 ≡ suc k = omega arith in
          let more : count_by test (take (k + 1) rows) ≡ count_by test (take k rows) + pick (test (get_or rows k d)) 1 0 = sum_by_more (λ (s : SaleRow). pick (test s) 1 0) rows k d (omega arith) in
          let none : pick (test (get_or rows k d)) 1 0 ≡ 0 = ap (λ t. pick t 1 0) fails in
          let step : count_by test (take (suc k) rows) ≡ count_by test (take k rows) = ap (λ n. count_by test (take n rows)) (sym e) ∙ more ∙ omega (arith, none) in
          step ∙ counted_up_to_last test b rows h k d (omega arith) ∙ sym (ap (λ n. count_by test (take n rows)) (last_more b (places_of rows) k false n))
    ]
  where
    test_fails : (t : Bool) → (t ≡ true → ⊥) → t ≡ false
    test_fails true h = absurd (h refl)
    test_fails false h = refl

-- ---- the chains, as sales are made and forgotten

-- a sale without a user
pub chains_plain : (f : ℕ) (places : List (Option ℕ)) (links : List ℕ) (lasts : List ℕ) (n : ℕ) → AreChains f places links lasts → AreChains f (places ++ None ∷ []) (links ++ n ∷ []) lasts
chains_plain f places links lasts n h = record {
  linked = omega (arith, h.linked, length_push links n, length_push places nowhere);
  each_link = λ k b l is.
      elim (cases_order k (length places)) [
        | inl at ↦
            let none : get_or (places ++ None ∷ []) k None ≡ None = get_or_push places None None k (sym at) in
            absurd (not_some b (sym none ∙ is))
        | inr o ↦ elim o [
          | inl below ↦
              let was : get_or places k None ≡ Some b = sym (get_or_append_left places (None ∷ []) None k below) ∙ is in
              let link : get_or (links ++ n ∷ []) k 0 ≡ get_or links k 0 = get_or_append_left links (n ∷ []) 0 k (omega (arith, h.linked)) in
              ap (λ v. k + 1 - v) link ∙ h.each_link k b below was ∙ sym (last_kept b places (None ∷ []) k (omega arith))
          | inr past ↦ absurd (omega (arith, l, length_push places nowhere))
        ]
      ];
  each_last = λ b.
      let e : length (places ++ None ∷ []) ≡ suc (length places) = omega (arith, length_push places nowhere) in
      let here : get_or (places ++ None ∷ []) (length places) None ≡ None = get_or_push places None None (length places) refl in
      h.each_last b ∙ sym (last_kept b places (None ∷ []) (length places) (omega arith))
      ∙ sym (last_more b (places ++ None ∷ []) (length places) false (ap (is_at b) here))
      ∙ ap (last_below b (places ++ None ∷ [])) (sym e);
}
  where
    not_some : (b : ℕ) → ◌≡◌ {A = Option ℕ} None (Some b) → ⊥
    not_some b e = cc

-- how far behind it is known leads to the one before, where that is in the list
far_back : (f m last before back : ℕ) → m < 67108864 → last ≤ m → before - f ≡ last → back ≡ min (f + m + 1 - before) 4294967295 → m + 1 - back ≡ last
far_back f m last before back few low was is = omega (arith, few, low, was, is)

-- a sale to a user, whose number is now the last at its place
pub chains_added : (f : ℕ) (places : List (Option ℕ)) (links : List ℕ) (lasts lasts2 : List ℕ) (g : ℕ) (n : ℕ) → length places < 67108864 → n ≡ distance (f + length places + 1) (last_at g lasts)
    → ((q : ℕ) → last_at q lasts2 ≡ pick (eqb q g) (f + length places + 1) (last_at q lasts)) → AreChains f places links lasts
    → AreChains f (places ++ Some g ∷ []) (links ++ n ∷ []) lasts2
chains_added f places links lasts lasts2 g n few is put h = record {
  linked = omega (arith, h.linked, length_push links n, length_push places (Some g));
  each_link = λ k j l at.
      elim (cases_order k (length places)) [
        | inl last ↦
            let here : get_or (places ++ Some g ∷ []) k None ≡ Some g = get_or_push places (Some g) None k (sym last) in
            let same : g ≡ j = some_same g j (sym here ∙ at) in
            let link : get_or (links ++ n ∷ []) k 0 ≡ n = get_or_push links n 0 k (h.linked ∙ sym last) in
            let back : length places + 1 - n ≡ last_below g places (length places) = far_back f (length places) (last_below g places (length places)) (last_at g lasts) n few (last_bound g places (length places)) (h.each_last g) is in
            ap (λ v. k + 1 - v) link ∙ ap (λ m. m + 1 - n) last ∙ back ∙ ap (λ m. last_below m places (length places)) same ∙ ap (last_below j places) (sym last) ∙ sym (last_kept j places (Some g ∷ []) k (omega arith))
        | inr o ↦ elim o [
          | inl below ↦
              let was : get_or places k None ≡ Some j = sym (get_or_append_left places (Some g ∷ []) None k below) ∙ at in
              let link : get_or (links ++ n ∷ []) k 0 ≡ get_or links k 0 = get_or_append_left links (n ∷ []) 0 k (omega (arith, h.linked)) in
              ap (λ v. k + 1 - v) link ∙ h.each_link k j below was ∙ sym (last_kept j places (Some g ∷ []) k (omega arith))
          | inr past ↦ absurd (omega (arith, l, length_push places (Some g)))
        ]
      ];
  each_last = λ j.
      let e : length (places ++ Some g ∷ []) ≡ suc (length places) = omega (arith, length_push places (Some g)) in
      let here : get_or (places ++ Some g ∷ []) (length places) None ≡ Some g = get_or_push places (Some g) None (length places) refl in
      elim (cases_Bool (eqb j g)) [
        | inl same ↦
            let in_it : is_at j (get_or (places ++ Some g ∷ []) (length places) None) ≡ true = ap (is_at j) here ∙ eq-eqb g j (sym (eqb-true j g same)) in
            let now : last_at j lasts2 ≡ f + length places + 1 = put j ∙ ap (λ t. pick t (f + length places + 1) (last_at j lasts)) same in
            let last : last_below j (places ++ Some g ∷ []) (suc (length places)) ≡ suc (length places) = last_more j (places ++ Some g ∷ []) (length places) true in_it in
            let all : last_below j (places ++ Some g ∷ []) (length (places ++ Some g ∷ [])) ≡ suc (length places) = ap (last_below j (places ++ Some g ∷ [])) e ∙ last in
            omega (arith, now, all)
        | inr other ↦
            let out : is_at j (get_or (places ++ Some g ∷ []) (length places) None) ≡ false = ap (is_at j) here ∙ turned j g other in
            let now : last_at j lasts2 ≡ last_at j lasts = put j ∙ ap (λ t. pick t (f + length places + 1) (last_at j lasts)) other in
            ap (λ v. v - f) now ∙ h.each_last j ∙ sym (last_kept j places (Some g ∷ []) (length places) (omega arith))
            ∙ sym (last_more j (places ++ Some g ∷ []) (length places) false out) ∙ ap (last_below j (places ++ Some g ∷ [])) (sym e)
      ];
}
  where
    some_same : (g j : ℕ) → ◌≡◌ {A = Option ℕ} (Some g) (Some j) → g ≡ j
    some_same g j e = cc

    turned : (j g : ℕ) → eqb j g ≡ false → eqb g j ≡ false
    turned j g h =
        elim (cases_Bool (eqb g j)) [
          | inl y ↦ absurd (false≢true (sym h ∙ eq-eqb j g (sym (eqb-true g j y))))
          | inr n ↦ n
        ]

-- the oldest d are forgotten, and no number changes
pub chains_dropped : (f d : ℕ) (places : List (Option ℕ)) (links : List ℕ) (lasts : List ℕ) → d ≤ length places → AreChains f places links lasts → AreChains (f + d) (drop d places) (drop d links) lasts
chains_dropped f d places links lasts l h = record {
  linked = omega (arith, h.linked, length-drop d links, length-drop d places);
  each_link = λ k b inside is.
      let was : get_or places (d + k) None ≡ Some b = sym (get_or-drop d places k None) ∙ is in
      let link : get_or (drop d links) k 0 ≡ get_or links (d + k) 0 = get_or-drop d links k 0 in
      let old : d + k + 1 - get_or links (d + k) 0 ≡ last_below b places (d + k) = h.each_link (d + k) b (omega (arith, inside, length-drop d places)) was in
      let new : last_below b places (d + k) - d ≡ last_below b (drop d places) k = last_dropped b places d k in
      omega (arith, link, old, new);
  each_last = λ b.
      let e : d + length (drop d places) ≡ length places = omega (arith, length-drop d places, l) in
      let new : last_below b places (d + length (drop d places)) - d ≡ last_below b (drop d places) (length (drop d places)) = last_dropped b places d (length (drop d places)) in
      let at : last_below b places (d + length (drop d places)) ≡ last_below b places (length places) = ap (last_below b places) e in
      omega (arith, h.each_last b, new, at);
}

-- ---- counting along a chain

bytes_same : (a b : List ℕ) → bytes_eq a b ≡ true → a ≡ b
bytes_same [] [] h = refl
bytes_same [] (y ∷ b) h = absurd (false≢true h)
bytes_same (x ∷ a) [] h = absurd (false≢true h)
bytes_same (x ∷ a) (y ∷ b) h =
    let (first, rest) = and_parts (eqb x y) (bytes_eq a b) h in
    ap (λ n. n ∷ a) (eqb-true x y first) ∙ ap (λ l. y ∷ l) (bytes_same a b rest)

-- the sale counts, as it would be once it expired
abbrev pub is_counted : ℕ → List ℕ → ℕ → ℕ → SaleRow → Bool
is_counted c user seconds m s = is_shown c user seconds m (expired_at m s)

pub counted_in_place : (c : ℕ) (user : List ℕ) (seconds m : ℕ) (s : SaleRow) → is_counted c user seconds m s ≡ true → is_at (place_of c user) (sale_place s) ≡ true
counted_in_place c user seconds m s h =
    let (first, second) = and_parts (is_held_of c (expired_at m s) || is_billed_of c (expired_at m s)) (is_to user s.user && nat_lt m (s.moment + 1000 * seconds)) h in
    let (to, _) = and_parts (is_to user s.user) (nat_lt m (s.moment + 1000 * seconds)) second in
    in_place c user s.campaign s.user (own c s.campaign (is_held (state_at m s)) (is_billed (state_at m s)) first) to
  where
    own : (c n : ℕ) (p q : Bool) → ((eqb n c && p) || (eqb n c && q)) ≡ true → n ≡ c
    own c n p q h = elim (or_cases (eqb n c && p) (eqb n c && q) h) [
      | inl l ↦ eqb-true n c (and_parts (eqb n c) p l).0
      | inr r ↦ eqb-true n c (and_parts (eqb n c) q r).0
    ]

    in_place : (c : ℕ) (user : List ℕ) (n : ℕ) (other : Option (List ℕ)) → n ≡ c → is_to user other ≡ true → is_at (place_of c user) (option_map (place_of n) other) ≡ true
    in_place c user n None e h = absurd (false≢true h)
    in_place c user n (Some other) e h =
        eq-eqb (place_of n other) (place_of c user) (ap (λ k. place_of k other) e ∙ ap (place_of c) (bytes_same other user h))

pub counted_expired : (c : ℕ) (user : List ℕ) (seconds m : ℕ) (rows : List SaleRow) → count_by (is_counted c user seconds m) rows ≡ shown_of c user seconds m (expired m rows)
counted_expired c user seconds m [] = refl
counted_expired c user seconds m (s ∷ rows) =
    omega (
      arith,
      sum_by-cons (λ (s : SaleRow). pick (is_counted c user seconds m s) 1 0) s rows,
      sum_by-cons (λ (s : SaleRow). pick (is_shown c user seconds m s) 1 0) (expired_at m s) (expired m rows),
      counted_expired c user seconds m rows,
    )

module _ (c : ℕ) (user : List ℕ) (seconds m : ℕ) (rows : List SaleRow) (links : List ℕ) (lasts : List ℕ) (f : ℕ) (h : AreChains f (places_of rows) links lasts) where
  pub many_places : length (places_of rows) ≡ length rows
  many_places = length-map rows sale_place

  -- from the last sale at the place on, all that count are there
  pub chain_start : (n : ℕ) (d : SaleRow) → n ≡ last_at (place_of c user) lasts - f
      → (count_by (is_counted c user seconds m) (take n rows) ≡ count_by (is_counted c user seconds m) rows) × (n ≡ last_below (place_of c user) (places_of rows) (length rows))
  chain_start n d is =
      let at : n ≡ last_below (place_of c user) (places_of rows) (length rows) = is ∙ h.each_last (place_of c user) ∙ ap (last_below (place_of c user) (places_of rows)) many_places in
      let all : take (length rows) rows ≡ rows = take_all (length rows) rows (omega arith) in
      let up : count_by (is_counted c user seconds m) (take (length rows) rows) ≡ count_by (is_counted c user seconds m) (take (last_below (place_of c user) (places_of rows) (length rows)) rows) =
      counted_up_to_last (is_counted c user seconds m) (place_of c user) rows (λ s t. counted_in_place c user seconds m s t) (length rows) d (omega arith) in
      (ap (λ k. count_by (is_counted c user seconds m) (take k rows)) at ∙ sym up ∙ ap (count_by (is_counted c user seconds m)) all, at)

  -- the sale that is the nth of the list, in the chain, and the rest of the chain
  pub chain_step : (n k p : ℕ) (d : SaleRow) → k ≤ length rows → n ≡ last_below (place_of c user) (places_of rows) k → n ≡ suc p
      → (p < length rows)
      × (count_by (is_counted c user seconds m) (take n rows) ≡ pick (is_counted c user seconds m (get_or rows p d)) 1 0 + count_by (is_counted c user seconds m) (take (n - get_or links p 0) rows))
      × (n - get_or links p 0 ≡ last_below (place_of c user) (places_of rows) p) × (n - get_or links p 0 ≤ p)
  chain_step n k p d l at is =
      let (in_it, below) = last_is (place_of c user) (places_of rows) k p (sym at ∙ is) in
      let inside : p < length rows = omega arith in
      let e : n ≡ p + 1 = omega (arith, is) in
      let link : n - get_or links p 0 ≡ last_below (place_of c user) (places_of rows) p = ap (λ v. v - get_or links p 0) e ∙ linked_to p inside (get_or (places_of rows) p None) refl in_it in
      let up : count_by (is_counted c user seconds m) (take p rows) ≡ count_by (is_counted c user seconds m) (take (last_below (place_of c user) (places_of rows) p) rows) =
      counted_up_to_last (is_counted c user seconds m) (place_of c user) rows (λ s t. counted_in_place c user seconds m s t) p d (omega arith) in
      let more : count_by (is_counted c user seconds m) (take (p + 1) rows) ≡ count_by (is_counted c user seconds m) (take p rows) + pick (is_counted c user seconds m (get_or rows p d)) 1 0 =
      sum_by_more (λ (s : SaleRow). pick (is_counted c user seconds m s) 1 0) rows p d inside in
      let here : count_by (is_counted c user seconds m) (take n rows) ≡ count_by (is_counted c user seconds m) (take (p + 1) rows) = ap (λ k. count_by (is_counted c user seconds m) (take k rows)) e in
      let rest : count_by (is_counted c user seconds m) (take (n - get_or links p 0) rows) ≡ count_by (is_counted c user seconds m) (take (last_below (place_of c user) (places_of rows) p) rows) = ap (λ k. count_by (is_counted c user seconds m) (take k rows)) link in
      (inside, omega (arith, here, more, up, rest), link, omega (arith, link, last_bound (place_of c user) (places_of rows) p))
    where
      linked_to : (p : ℕ) → p < length rows → (o : Option ℕ) → get_or (places_of rows) p None ≡ o → is_at (place_of c user) o ≡ true → p + 1 - get_or links p 0 ≡ last_below (place_of c user) (places_of rows) p
      linked_to p l None is t = absurd (false≢true t)
      linked_to p l (Some j) is t =
          h.each_link p j (omega (arith, many_places)) is ∙ ap (λ g. last_below g (places_of rows) p) (eqb-true j (place_of c user) t)
