-- The entries of the sales that are still to expire, as sales are made, change and are forgotten.
use Rattle.std.proofs.Common.{◌≡◌, ℕ, zero, suc, ◌+◌, ◌-◌, ◌<◌, ◌≤◌, ◌&&◌, inl, inr, eqb, cond, Bool, true, false, List, [], ◌∷◌, ◌++◌, length, get_or, set, refl, sym, ◌∙◌, ap, subst, arith, Option, Some, None}
use Rattle.std.specs.Prelude.{sum_by, nat_le, slice_get, IsPermutation, MatchOption}
use Rattle.std.specs.Option.{option_map_or}
use Rattle.std.specs.BinaryHeap.{IsHeap}
use Rattle.std.proofs.lemmas.Bool.{cases_eq, cases_Bool, eq-eqb, ne_eqb, le-leb, lt-leb, cases_lt}
use Rattle.std.proofs.lemmas.List.{get_or-set_same, get_or-set_other, length-set, get_or_append_left, get_or_push, length_push}
use Rattle.std.proofs.lemmas.List.Sums.{sum_by-cons, sum_by-set}
use Rattle.std.proofs.lemmas.List.Elements.{All-cons, All-head, All-tail}
use Rattle.std.proofs.lemmas.List.Sorted.{All-permutation, sum_by_popped, sum_by_pushed}
use Rattle.std.proofs.lemmas.Option.{slice_get-get_or}
use Rattle.budget_book.specs.declared.dues.Due.{Due}
use Rattle.budget_book.specs.declared.sales.SaleRow.{SaleRow}
use Rattle.budget_book.specs.declared.sales.SaleState.TheVariants.{Expired}
use Rattle.budget_book.specs.Sales.{is_held, is_due, in_state, expired_at, expired, due_count, sale_at}
use Rattle.budget_book.specs.Dues.{weight_at, held_weight, IsDueOf, AreDues, due_cmp, entry_weight}

-- `cond` of numbers
abbrev pub pick : Bool → ℕ → ℕ → ℕ
pick b x y = cond b x y

-- ---- sums of functions that agree

pub sum_same : {X : Type 0} (f g : X → ℕ) → ((x : X) → f x ≡ g x) → (xs : List X) → sum_by f xs ≡ sum_by g xs
sum_same f g h [] = refl
sum_same f g h (x ∷ xs) = omega (arith, sum_by-cons f x xs, sum_by-cons g x xs, h x, sum_same f g h xs)

-- ... at the places of the list
pub sum_same_at : {X : Type 0} (f g : X → ℕ) (xs : List X) → ((k : ℕ) (d : X) → k < length xs → f (get_or xs k d) ≡ g (get_or xs k d)) → sum_by f xs ≡ sum_by g xs
sum_same_at f g [] h = refl
sum_same_at f g (x ∷ xs) h =
    let rest : sum_by f xs ≡ sum_by g xs = sum_same_at f g xs (λ k d l. h (suc k) d (omega arith)) in
    omega (arith, sum_by-cons f x xs, sum_by-cons g x xs, h 0 x (omega arith), rest)

pub sum_none_at : {X : Type 0} (f : X → ℕ) (xs : List X) → ((k : ℕ) (d : X) → k < length xs → f (get_or xs k d) ≡ 0) → sum_by f xs ≡ 0
sum_none_at f [] h = refl
sum_none_at f (x ∷ xs) h =
    let rest : sum_by f xs ≡ 0 = sum_none_at f xs (λ k d l. h (suc k) d (omega arith)) in
    omega (arith, sum_by-cons f x xs, h 0 x (omega arith), rest)

-- ---- weights

-- a weight that leaves out the sale of number n
abbrev pub without : ℕ → (ℕ → SaleRow → ℕ) → ℕ → SaleRow → ℕ
without n w k s = cond (eqb k n) 0 (w k s)

held_weight_same : (w v : ℕ → SaleRow → ℕ) (n : ℕ) (rows : List SaleRow) → ((k : ℕ) (s : SaleRow) → n ≤ k → w k s ≡ v k s) → held_weight w n rows ≡ held_weight v n rows
held_weight_same w v n [] h = refl
held_weight_same w v n (s ∷ rows) h =
    let first : cond (is_held s.state) (w n s) 0 ≡ cond (is_held s.state) (v n s) 0 = ap (λ k. cond (is_held s.state) k 0) (h n s (omega arith)) in
    let rest : held_weight w (n + 1) rows ≡ held_weight v (n + 1) rows = held_weight_same w v (n + 1) rows (λ k t l. h k t (omega arith)) in
    omega (arith, first, rest)

-- one held sale changed to another state: its weight is gone
pub held_weight_moved : (w : ℕ → SaleRow → ℕ) (n : ℕ) (rows : List SaleRow) (i : ℕ) (y : SaleRow) → i < length rows → is_held y.state ≡ false
    → held_weight w n (set rows i y) ≡ held_weight (without (n + i) w) n rows
held_weight_moved w n [] i y l q = absurd (omega arith)
held_weight_moved w n (s ∷ rows) zero y l q =
    let gone : cond (is_held y.state) (w n y) 0 ≡ 0 = ap (λ b. cond b (w n y) 0) q in
    let none : without (n + 0) w n s ≡ 0 = ap (λ b. cond b 0 (w n s)) (eq-eqb n (n + 0) (omega arith)) in
    let left : cond (is_held s.state) (without (n + 0) w n s) 0 ≡ 0 = ap (λ k. cond (is_held s.state) k 0) none ∙ both_zero (is_held s.state) in
    let rest : held_weight w (n + 1) rows ≡ held_weight (without (n + 0) w) (n + 1) rows =
    held_weight_same w (without (n + 0) w) (n + 1) rows (λ k t h. sym (ap (λ b. cond b 0 (w k t)) (ne_eqb k (n + 0) (λ e. omega arith)))) in
    omega (arith, gone, left, rest)
  where
    both_zero : (b : Bool) → pick b 0 0 ≡ 0
    both_zero true = refl
    both_zero false = refl
held_weight_moved w n (s ∷ rows) (suc i) y l q =
    let first : without (n + suc i) w n s ≡ w n s = ap (λ b. cond b 0 (w n s)) (ne_eqb n (n + suc i) (λ e. omega arith)) in
    let kept : cond (is_held s.state) (without (n + suc i) w n s) 0 ≡ cond (is_held s.state) (w n s) 0 = ap (λ k. cond (is_held s.state) k 0) first in
    let rest : held_weight w (n + 1) (set rows i y) ≡ held_weight (without ((n + 1) + i) w) (n + 1) rows = held_weight_moved w (n + 1) rows i y (omega arith) q in
    let e : (n + 1) + i ≡ n + suc i = omega arith in
    let same : held_weight w (n + 1) (set rows i y) ≡ held_weight (without (n + suc i) w) (n + 1) rows = subst (λ m. held_weight w (n + 1) (set rows i y) ≡ held_weight (without m w) (n + 1) rows) e rest in
    omega (arith, kept, same)

pub held_weight_added : (w : ℕ → SaleRow → ℕ) (n : ℕ) (rows : List SaleRow) (y : SaleRow) → held_weight w n (rows ++ y ∷ []) ≡ held_weight w n rows + cond (is_held y.state) (w (n + length rows) y) 0
held_weight_added w n [] y = let e : n + 0 ≡ n = omega arith in omega (arith, ap (λ m. cond (is_held y.state) (w m y) 0) e)
held_weight_added w n (s ∷ rows) y =
    let e : (n + 1) + length rows ≡ n + suc (length rows) = omega arith in
    omega (arith, held_weight_added w (n + 1) rows y, ap (λ m. cond (is_held y.state) (w m y) 0) e)

-- no weight at all
pub held_weight_counts : (m n : ℕ) (rows : List SaleRow) → held_weight (λ k (s : SaleRow). cond (nat_le s.due m) 1 0) n rows ≡ due_count m rows
held_weight_counts m n [] = refl
held_weight_counts m n (s ∷ rows) = omega (arith, sum_by-cons (λ (s : SaleRow). cond (is_due m s) 1 0) s rows, one (is_held s.state) (nat_le s.due m), held_weight_counts m (n + 1) rows)
  where
    one : (a b : Bool) → pick a (pick b 1 0) 0 ≡ pick (a && b) 1 0
    one true b = refl
    one false b = refl

-- ---- one sale, by its number

-- the place of a sale in the list
pub sale_in : (f : ℕ) (rows : List SaleRow) (n i : ℕ) (d : SaleRow) → n ≡ f + i + 1 → i < length rows → sale_at f rows n ≡ Some (get_or rows i d)
sale_in f rows n i d e l =
    let past : nat_le n f ≡ false = lt-leb n f (omega arith) in
    let place : n - f - 1 ≡ i = omega arith in
    ap (λ b. cond b None (slice_get rows (n - f - 1))) past ∙ ap (slice_get rows) place ∙ slice_get-get_or rows i d l

pub sale_forgotten : (f : ℕ) (rows : List SaleRow) (n : ℕ) → n ≤ f → sale_at f rows n ≡ None
sale_forgotten f rows n l = ap (λ b. cond b None (slice_get rows (n - f - 1))) (le-leb n f l)

weight_in : (w : ℕ → SaleRow → ℕ) (f : ℕ) (rows : List SaleRow) (n i : ℕ) (d : SaleRow) → n ≡ f + i + 1 → i < length rows → weight_at w f rows n ≡ cond (is_held (get_or rows i d).state) (w n (get_or rows i d)) 0
weight_in w f rows n i d e l = ap (λ o. option_map_or (λ (s : SaleRow). cond (is_held s.state) (w n s) 0) o 0) (sale_in f rows n i d e l)

pub weight_forgotten : (w : ℕ → SaleRow → ℕ) (f : ℕ) (rows : List SaleRow) (n : ℕ) → n ≤ f → weight_at w f rows n ≡ 0
weight_forgotten w f rows n l = ap (λ o. option_map_or (λ (s : SaleRow). cond (is_held s.state) (w n s) 0) o 0) (sale_forgotten f rows n l)

no_weight : (w : ℕ → SaleRow → ℕ) (n : ℕ) (s : SaleRow) → is_held s.state ≡ false → cond (is_held s.state) (w n s) 0 ≡ 0
no_weight w n s q = ap (λ b. cond b (w n s) 0) q

-- the same weights, where sale i changed to a state that is not held, and is left out
weight_moved : (w : ℕ → SaleRow → ℕ) (f : ℕ) (rows : List SaleRow) (i : ℕ) (y : SaleRow) (n : ℕ) (d : SaleRow) → i < length rows → is_held y.state ≡ false → 0 < n → n ≤ f + length rows
    → weight_at w f (set rows i y) n ≡ weight_at (without (f + 1 + i) w) f rows n
weight_moved w f rows i y n d l q some few =
    elim (cases_lt f n) [
      | inr old ↦ weight_forgotten w f (set rows i y) n old ∙ sym (weight_forgotten (without (f + 1 + i) w) f rows n old)
      | inl new ↦
          let place : n ≡ f + (n - f - 1) + 1 = omega arith in
          let inside : n - f - 1 < length rows = omega arith in
          let inside2 : n - f - 1 < length (set rows i y) = omega (arith, length-set rows i y) in
          let left = weight_in w f (set rows i y) n (n - f - 1) d place inside2 in
          let right = weight_in (without (f + 1 + i) w) f rows n (n - f - 1) d place inside in
          elim (cases_eq (n - f - 1) i) [
            | inl same ↦
                let here : get_or (set rows i y) (n - f - 1) d ≡ y = ap (λ j. get_or (set rows i y) j d) same ∙ get_or-set_same rows i y d l in
                let zero_left : weight_at w f (set rows i y) n ≡ 0 = left ∙ ap (λ (s : SaleRow). cond (is_held s.state) (w n s) 0) here ∙ no_weight w n y q in
                let out : eqb n (f + 1 + i) ≡ true = eq-eqb n (f + 1 + i) (omega arith) in
                let zero_right : weight_at (without (f + 1 + i) w) f rows n ≡ 0 =
                right ∙ ap (λ b. cond (is_held (get_or rows (n - f - 1) d).state) (cond b 0 (w n (get_or rows (n - f - 1) d))) 0) out ∙ nothing (is_held (get_or rows (n - f - 1) d).state) in
                zero_left ∙ sym zero_right
            | inr other ↦
                let here : get_or (set rows i y) (n - f - 1) d ≡ get_or rows (n - f - 1) d = get_or-set_other rows i (n - f - 1) y d other in
                let in_it : eqb n (f + 1 + i) ≡ false = ne_eqb n (f + 1 + i) (λ e. other (omega arith)) in
                let kept : weight_at (without (f + 1 + i) w) f rows n ≡ cond (is_held (get_or rows (n - f - 1) d).state) (w n (get_or rows (n - f - 1) d)) 0 =
                right ∙ ap (λ b. cond (is_held (get_or rows (n - f - 1) d).state) (cond b 0 (w n (get_or rows (n - f - 1) d))) 0) in_it in
                left ∙ ap (λ (s : SaleRow). cond (is_held s.state) (w n s) 0) here ∙ sym kept
          ]
    ]
  where
    nothing : (b : Bool) → pick b 0 0 ≡ 0
    nothing true = refl
    nothing false = refl

-- ---- the entries

due_of_moved : (f : ℕ) (rows : List SaleRow) (i : ℕ) (y : SaleRow) (e : Due) (d : SaleRow) → i < length rows → y.due ≡ (get_or rows i d).due → IsDueOf f rows e → IsDueOf f (set rows i y) e
due_of_moved f rows i y e d l same (some, few, is) = (
  some,
  omega (arith, length-set rows i y),
  elim (cases_lt f e.number) [
    | inr old ↦ subst (λ o. MatchOption o (Unit {0}) (λ (s : SaleRow). s.due ≡ e.due.0)) (sym (sale_forgotten f (set rows i y) e.number old)) tt
    | inl new ↦
        let place : e.number ≡ f + (e.number - f - 1) + 1 = omega arith in
        let inside : e.number - f - 1 < length rows = omega arith in
        let inside2 : e.number - f - 1 < length (set rows i y) = omega (arith, length-set rows i y) in
        let was : (get_or rows (e.number - f - 1) d).due ≡ e.due.0 = subst (λ o. MatchOption o (Unit {0}) (λ (s : SaleRow). s.due ≡ e.due.0)) (sale_in f rows e.number (e.number - f - 1) d place inside) is in
        let now : (get_or (set rows i y) (e.number - f - 1) d).due ≡ e.due.0 =
        elim (cases_eq (e.number - f - 1) i) [
          | inl at ↦ ap (λ (s : SaleRow). s.due) (ap (λ j. get_or (set rows i y) j d) at ∙ get_or-set_same rows i y d l) ∙ same ∙ ap (λ j. (get_or rows j d).due) (sym at) ∙ was
          | inr other ↦ ap (λ (s : SaleRow). s.due) (get_or-set_other rows i (e.number - f - 1) y d other) ∙ was
        ] in
        subst (λ o. MatchOption o (Unit {0}) (λ (s : SaleRow). s.due ≡ e.due.0)) (sym (sale_in f (set rows i y) e.number (e.number - f - 1) d place inside2)) now
  ],
)

-- a sale changes to a state that is not held; its entry stays
pub dues_moved : (f : ℕ) (rows : List SaleRow) (dues : List Due) (i : ℕ) (y : SaleRow) (d : SaleRow) → i < length rows → is_held y.state ≡ false → y.due ≡ (get_or rows i d).due → AreDues f rows dues → AreDues f (set rows i y) dues
dues_moved f rows dues i y d l q same h = record {
  ordered = h.ordered;
  of_sales = λ k e w. due_of_moved f rows i y (get_or dues k e) d l same (h.of_sales k e w);
  each_held = λ w.
      sum_same_at (λ (e : Due). weight_at w f (set rows i y) e.number) (λ (e : Due). weight_at (without (f + 1 + i) w) f rows e.number) dues
      (λ k e b. let (some, few, _) = h.of_sales k e b in weight_moved w f rows i y (get_or dues k e).number d l q some few)
      ∙ h.each_held (without (f + 1 + i) w)
      ∙ sym (held_weight_moved w (f + 1) rows i y l q);
}

-- an entry that goes is of a sale that was made
pub popped_due : (f : ℕ) (rows : List SaleRow) (e : Due) (old dues : List Due) → IsPermutation old (e ∷ dues) → AreDues f rows old → IsDueOf f rows e
popped_due f rows e old dues moved h = All-head (IsDueOf f rows) e dues (All-permutation (IsDueOf f rows) old (e ∷ dues) moved h.of_sales)

-- an entry goes, where its sale is not held or not there
pub dues_popped : (f : ℕ) (rows : List SaleRow) (e : Due) (old dues : List Due) → IsPermutation old (e ∷ dues) → IsHeap due_cmp dues → ((w : ℕ → SaleRow → ℕ) → weight_at w f rows e.number ≡ 0) → AreDues f rows old → AreDues f rows dues
dues_popped f rows e old dues moved ordered none h = record {
  ordered = ordered;
  of_sales = All-tail (IsDueOf f rows) e dues (All-permutation (IsDueOf f rows) old (e ∷ dues) moved h.of_sales);
  each_held = λ w. omega (arith, sum_by_popped (entry_weight w f rows) e old dues moved, none w, h.each_held w);
}

-- where the first entry is not due, nothing is
pub none_due : (f m : ℕ) (rows : List SaleRow) (dues : List Due) → ((k : ℕ) (d : Due) → k < length dues → m < (get_or dues k d).due.0) → AreDues f rows dues → due_count m rows ≡ 0
none_due f m rows dues later h =
    let v : ℕ → SaleRow → ℕ = λ k s. cond (nat_le s.due m) 1 0 in
    let nothing : sum_by (λ (e : Due). weight_at v f rows e.number) dues ≡ 0 =
    sum_none_at (λ (e : Due). weight_at v f rows e.number) dues (λ k d w. light f m rows (get_or dues k d) (h.of_sales k d w) (later k d w)) in
    sym (held_weight_counts m (f + 1) rows) ∙ sym (h.each_held v) ∙ nothing
  where
    empty : (s : SaleRow) (m due : ℕ) (b : Bool) → s.due ≡ due → m < due → pick b (pick (nat_le s.due m) 1 0) 0 ≡ 0
    empty s m due true e l = ap (λ t. pick t 1 0) (lt-leb s.due m (omega arith))
    empty s m due false e l = refl

    light_in : (f m : ℕ) (rows : List SaleRow) (e : Due) (o : Option SaleRow) → MatchOption o (Unit {0}) (λ (s : SaleRow). s.due ≡ e.due.0) → m < e.due.0
        → option_map_or (λ (s : SaleRow). pick (is_held s.state) (pick (nat_le s.due m) 1 0) 0) o 0 ≡ 0
    light_in f m rows e None is l = refl
    light_in f m rows e (Some s) is l = empty s m e.due.0 (is_held s.state) is l

    light : (f m : ℕ) (rows : List SaleRow) (e : Due) → IsDueOf f rows e → m < e.due.0 → weight_at (λ k s. pick (nat_le s.due m) 1 0) f rows e.number ≡ 0
    light f m rows e (some, few, is) l = light_in f m rows e (sale_at f rows e.number) is l

-- ---- expiry

pub all_expired : (m : ℕ) (rows : List SaleRow) → due_count m rows ≡ 0 → expired m rows ≡ rows
all_expired m [] h = refl
all_expired m (s ∷ rows) h =
    let split : due_count m (s ∷ rows) ≡ pick (is_due m s) 1 0 + due_count m rows = sum_by-cons (λ (s : SaleRow). cond (is_due m s) 1 0) s rows in
    elim (cases_Bool (is_due m s)) [
      | inl due ↦ absurd (let one : pick (is_due m s) 1 0 ≡ 1 = ap (λ b. pick b 1 0) due in omega (arith, h, split, one))
      | inr waits ↦
          let same : expired_at m s ≡ s = ap (λ b. in_state (cond b Expired s.state) s) waits in
          let rest : expired m rows ≡ rows = all_expired m rows (omega (arith, h, split)) in
          ap (λ t. t ∷ expired m rows) same ∙ ap (λ t. s ∷ t) rest
    ]

pub expired_moved : (m : ℕ) (rows : List SaleRow) (i : ℕ) (x : SaleRow) → i < length rows → get_or rows i x ≡ x → is_due m x ≡ true → expired m (set rows i (in_state Expired x)) ≡ expired m rows
expired_moved m [] i x l at due = refl
expired_moved m (s ∷ rows) zero x l at due =
    let now : expired_at m s ≡ in_state Expired x = ap (expired_at m) at ∙ ap (λ b. in_state (cond b Expired x.state) x) due in
    sym (ap (λ t. t ∷ expired m rows) now)
expired_moved m (s ∷ rows) (suc i) x l at due = ap (λ t. expired_at m s ∷ t) (expired_moved m rows i x (omega arith) at due)

pub due_count_moved : (m : ℕ) (rows : List SaleRow) (i : ℕ) (x : SaleRow) → i < length rows → get_or rows i x ≡ x → is_due m x ≡ true → due_count m (set rows i (in_state Expired x)) + 1 ≡ due_count m rows
due_count_moved m rows i x l at due =
    let was : pick (is_due m (get_or rows i x)) 1 0 ≡ 1 = ap (λ (s : SaleRow). pick (is_due m s) 1 0) at ∙ ap (λ b. pick b 1 0) due in
    omega (arith, sum_by-set (λ (s : SaleRow). cond (is_due m s) 1 0) rows i (in_state Expired x) x l, was)

-- ---- one more sale

due_kept : (f : ℕ) (rows : List SaleRow) (y : SaleRow) (e : Due) → IsDueOf f rows e → IsDueOf f (rows ++ y ∷ []) e
due_kept f rows y e (some, few, is) = (
  some,
  omega (arith, few, length_push rows y),
  elim (cases_lt f e.number) [
    | inr old ↦ subst (λ o. MatchOption o (Unit {0}) (λ (s : SaleRow). s.due ≡ e.due.0)) (sym (sale_forgotten f (rows ++ y ∷ []) e.number old)) tt
    | inl new ↦
        let place : e.number ≡ f + (e.number - f - 1) + 1 = omega arith in
        let inside : e.number - f - 1 < length rows = omega arith in
        let was : (get_or rows (e.number - f - 1) y).due ≡ e.due.0 = subst (λ o. MatchOption o (Unit {0}) (λ (s : SaleRow). s.due ≡ e.due.0)) (sale_in f rows e.number (e.number - f - 1) y place inside) is in
        let now : (get_or (rows ++ y ∷ []) (e.number - f - 1) y).due ≡ e.due.0 = ap (λ (s : SaleRow). s.due) (get_or_append_left rows (y ∷ []) y (e.number - f - 1) inside) ∙ was in
        subst (λ o. MatchOption o (Unit {0}) (λ (s : SaleRow). s.due ≡ e.due.0)) (sym (sale_in f (rows ++ y ∷ []) e.number (e.number - f - 1) y place (omega (arith, inside, length_push rows y)))) now
  ],
)

due_new : (f : ℕ) (rows : List SaleRow) (y : SaleRow) (e : Due) → e.number ≡ f + length rows + 1 → e.due.0 ≡ y.due → IsDueOf f (rows ++ y ∷ []) e
due_new f rows y e number due = (
  omega arith,
  omega (arith, length_push rows y),
  subst (λ o. MatchOption o (Unit {0}) (λ (s : SaleRow). s.due ≡ e.due.0)) (sym (sale_in f (rows ++ y ∷ []) e.number (length rows) y number (omega (arith, length_push rows y))))
      (ap (λ (s : SaleRow). s.due) (get_or_push rows y y (length rows) refl) ∙ sym due),
)

weight_kept : (w : ℕ → SaleRow → ℕ) (f : ℕ) (rows : List SaleRow) (y : SaleRow) (n : ℕ) → 0 < n → n ≤ f + length rows → weight_at w f (rows ++ y ∷ []) n ≡ weight_at w f rows n
weight_kept w f rows y n some few =
    elim (cases_lt f n) [
      | inr old ↦ weight_forgotten w f (rows ++ y ∷ []) n old ∙ sym (weight_forgotten w f rows n old)
      | inl new ↦
          let place : n ≡ f + (n - f - 1) + 1 = omega arith in
          let inside : n - f - 1 < length rows = omega arith in
          weight_in w f (rows ++ y ∷ []) n (n - f - 1) y place (omega (arith, inside, length_push rows y))
          ∙ ap (λ (s : SaleRow). cond (is_held s.state) (w n s) 0) (get_or_append_left rows (y ∷ []) y (n - f - 1) inside)
          ∙ sym (weight_in w f rows n (n - f - 1) y place inside)
    ]

pub dues_added : (f : ℕ) (rows : List SaleRow) (old dues : List Due) (y : SaleRow) (e : Due) → e.number ≡ f + length rows + 1 → e.due.0 ≡ y.due → is_held y.state ≡ true
    → IsPermutation (e ∷ old) dues → IsHeap due_cmp dues → AreDues f rows old → AreDues f (rows ++ y ∷ []) dues
dues_added f rows old dues y e number due held moved ordered h = record {
  ordered = ordered;
  of_sales = All-permutation (IsDueOf f (rows ++ y ∷ [])) (e ∷ old) dues moved
      (All-cons (IsDueOf f (rows ++ y ∷ [])) e old (due_new f rows y e number due) (λ k d w. due_kept f rows y (get_or old k d) (h.of_sales k d w)));
  each_held = λ w.
      let v : Due → ℕ = λ e. weight_at w f (rows ++ y ∷ []) e.number in
      let split : sum_by v dues ≡ v e + sum_by v old = sum_by_pushed v e old dues moved in
      let same : sum_by v old ≡ sum_by (λ (e : Due). weight_at w f rows e.number) old =
      sum_same_at v (λ (e : Due). weight_at w f rows e.number) old (λ k d b. let (some, few, _) = h.of_sales k d b in weight_kept w f rows y (get_or old k d).number some few) in
      let here : v e ≡ pick (is_held y.state) (w e.number y) 0 =
      weight_in w f (rows ++ y ∷ []) e.number (length rows) y number (omega (arith, length_push rows y)) ∙ ap (λ (s : SaleRow). cond (is_held s.state) (w e.number s) 0) (get_or_push rows y y (length rows) refl) in
      let n : e.number ≡ f + 1 + length rows = omega (arith, number) in
      let added : held_weight w (f + 1) (rows ++ y ∷ []) ≡ held_weight w (f + 1) rows + pick (is_held y.state) (w (f + 1 + length rows) y) 0 = held_weight_added w (f + 1) rows y in
      omega (arith, split, same, here, h.each_held w, added, ap (λ k. pick (is_held y.state) (w k y) 0) n);
}

-- a sale that is not held has no entry
pub dues_unheld : (f : ℕ) (rows : List SaleRow) (dues : List Due) (y : SaleRow) → is_held y.state ≡ false → AreDues f rows dues → AreDues f (rows ++ y ∷ []) dues
dues_unheld f rows dues y out h = record {
  ordered = h.ordered;
  of_sales = λ k d w. due_kept f rows y (get_or dues k d) (h.of_sales k d w);
  each_held = λ w.
      let same : sum_by (λ (e : Due). weight_at w f (rows ++ y ∷ []) e.number) dues ≡ sum_by (λ (e : Due). weight_at w f rows e.number) dues =
      sum_same_at (λ (e : Due). weight_at w f (rows ++ y ∷ []) e.number) (λ (e : Due). weight_at w f rows e.number) dues
      (λ k d b. let (some, few, _) = h.of_sales k d b in weight_kept w f rows y (get_or dues k d).number some few) in
      let added : held_weight w (f + 1) (rows ++ y ∷ []) ≡ held_weight w (f + 1) rows + pick (is_held y.state) (w (f + 1 + length rows) y) 0 = held_weight_added w (f + 1) rows y in
      let nothing : pick (is_held y.state) (w (f + 1 + length rows) y) 0 ≡ 0 = ap (λ b. pick b (w (f + 1 + length rows) y) 0) out in
      omega (arith, same, h.each_held w, added, nothing);
}
