-- The entries as a heap: on top is the one that is due first, and below an entry none is due sooner.
use Rattle.std.proofs.Common.{◌≡◌, ℕ, zero, suc, ◌+◌, ◌*◌, ◌<◌, ◌≤◌, ltb, inl, inr, eqb, cond, Bool, true, false, List, [], ◌∷◌, ◌++◌, length, get_or, refl, sym, ◌∙◌, ap, subst, arith}
use Rattle.std.specs.Prelude.{All, slice_get, sum_by}
use Rattle.std.specs.BinaryHeap.{IsHeap, IsUpperBound}
use Rattle.std.specs.Option.{option_map_or}
use Rattle.std.specs.declared.cmp.Ordering.{Ordering}
use Rattle.std.specs.Ordering.{is_lt, nat_cmp, ordering_then}
use Rattle.std.specs.declared.cmp.Ordering.TheVariants.{Less, Equal, Greater}
use Rattle.std.proofs.lemmas.Bool.{cases_lt, ltb-false, ne_eqb}
use Rattle.std.proofs.lemmas.Bool.Decides.{nat_tests}
use Rattle.std.proofs.lemmas.List.{append-nil, append_assoc, length-append}
use Rattle.std.proofs.lemmas.List.Elements.{All-cons, All-nil}
use Rattle.std.proofs.lemmas.List.Sums.{sum_by-cons}
use Rattle.std.proofs.lemmas.Option.{slice_get-get_or, slice_get_cases, slice_get_past}
use Rattle.budget_book.specs.declared.dues.Due.{Due}
use Rattle.budget_book.specs.Dues.{due_cmp, sum_below, sum_levels}

-- ---- order

-- what comes first decides unless it is `Equal`
first_not_less : (a b : Ordering) → is_lt (ordering_then a b) ≡ false → is_lt a ≡ false
first_not_less Less b h = h
first_not_less Equal b h = refl
first_not_less Greater b h = refl

not_less : (a b : Bool) → is_lt (cond a Less (cond b Equal Greater)) ≡ false → a ≡ false
not_less true b h = h
not_less false b h = refl

at_most : (m n : ℕ) → is_lt (nat_cmp m n) ≡ false → n ≤ m
at_most m n h = ltb-false m n (not_less (ltb m n) (eqb m n) h)

no_sooner : (x y : Due) → is_lt (due_cmp x y) ≡ false → x.due.0 ≤ y.due.0
no_sooner x y h = at_most y.due.0 x.due.0 (first_not_less (nat_cmp y.due.0 x.due.0) (nat_cmp x.number y.number) h)

-- where what is due first is due later, all are
pub all_later : (m : ℕ) (x : Due) (dues : List Due) → m < x.due.0 → IsUpperBound due_cmp x dues → All (λ (d : Due). m < d.due.0) dues
all_later m x [] l h = All-nil (λ (d : Due). m < d.due.0)
all_later m x (y ∷ dues) l h = All-cons (λ (d : Due). m < d.due.0) y dues (omega (arith, l, no_sooner x y h.0)) (all_later m x dues l h.1)

-- ---- an entry and those below it

amount_past : (f : Due → ℕ) (dues : List Due) (p : ℕ) → length dues ≤ p → option_map_or f (slice_get dues p) 0 ≡ 0
amount_past f dues p l = ap (λ o. option_map_or f o 0) (slice_get_past dues p l)

amount_in : (f : Due → ℕ) (dues : List Due) (p : ℕ) (d : Due) → p < length dues → option_map_or f (slice_get dues p) 0 ≡ f (get_or dues p d)
amount_in f dues p d l = ap (λ o. option_map_or f o 0) (slice_get-get_or dues p d l)

none_past : (n : ℕ) (f : Due → ℕ) (dues : List Due) (p : ℕ) → length dues ≤ p → sum_levels n f dues p ≡ 0
none_past zero f dues p l = refl
none_past (suc n) f dues p l = omega (arith, amount_past f dues p l, none_past n f dues (2 * p + 1) (omega (arith, l)), none_past n f dues (2 * p + 2) (omega (arith, l)))

-- as many levels as there are entries are enough
enough : (n : ℕ) (f : Due → ℕ) (dues : List Due) (p : ℕ) → length dues ≤ n + p → sum_levels (suc n) f dues p ≡ sum_levels n f dues p
enough zero f dues p l = none_past 1 f dues p (omega (arith, l))
enough (suc n) f dues p l = omega (arith, enough n f dues (2 * p + 1) (omega (arith, l)), enough n f dues (2 * p + 2) (omega (arith, l)))

pub step_below : (f : Due → ℕ) (dues : List Due) (p : ℕ) (d : Due) → p < length dues → sum_below f dues p ≡ f (get_or dues p d) + sum_below f dues (2 * p + 1) + sum_below f dues (2 * p + 2)
step_below f dues p d l = omega (arith, enough (length dues) f dues p (omega arith), amount_in f dues p d l)

-- where an entry is due later, those below it are
child_later : (m : ℕ) (dues : List Due) (p k : ℕ) → IsHeap due_cmp dues → p < length dues → ((d : Due) → p < length dues → m < (get_or dues p d).due.0) → p * 2 + 1 ≤ k → k ≤ p * 2 + 2
    → (d : Due) → k < length dues → m < (get_or dues k d).due.0
unfolding IsHeap
child_later m dues p k heap inside later low high d l = omega (arith, later d inside, no_sooner (get_or dues p d) (get_or dues k d) (heap p k d (omega arith) low high l))

-- where an entry weighs nothing that is due later, one that is and all below it weigh nothing
pub later_below : (f : Due → ℕ) (m : ℕ) (dues : List Due) → IsHeap due_cmp dues → ((k : ℕ) (d : Due) → k < length dues → m < (get_or dues k d).due.0 → f (get_or dues k d) ≡ 0)
    → (n p : ℕ) → ((d : Due) → p < length dues → m < (get_or dues p d).due.0) → sum_levels n f dues p ≡ 0
later_below f m dues heap light zero p later = refl
later_below f m dues heap light (suc n) p later =
    elim (slice_get_cases dues p).1 [
      | inl there ↦
          let (x, inside, _, _) = there in
          let here : option_map_or f (slice_get dues p) 0 ≡ 0 = amount_in f dues p x inside ∙ light p x inside (later x inside) in
          let left : sum_levels n f dues (2 * p + 1) ≡ 0 = later_below f m dues heap light n (2 * p + 1) (child_later m dues p (2 * p + 1) heap inside later (omega arith) (omega arith)) in
          let right : sum_levels n f dues (2 * p + 2) ≡ 0 = later_below f m dues heap light n (2 * p + 2) (child_later m dues p (2 * p + 2) heap inside later (omega arith) (omega arith)) in
          omega (arith, here, left, right)
      | inr past ↦ none_past (suc n) f dues p past.0
    ]

-- ---- all of them

-- what one entry adds to what is below place p, where it stands at place k
abbrev share : ℕ → ℕ → ℕ → ℕ → ℕ
share zero v p k = 0
share (suc n) v p k = cond (eqb p k) v 0 + share n v (2 * p + 1) k + share n v (2 * p + 2) k

share_above : (n v p k : ℕ) → k < p → share n v p k ≡ 0
share_above zero v p k l = refl
share_above (suc n) v p k l =
    omega (arith, ap (λ b. cond b v 0) (ne_eqb p k (λ e. omega (arith, e, l))), share_above n v (2 * p + 1) k (omega (arith, l)), share_above n v (2 * p + 2) k (omega (arith, l)))

-- an entry is a child of its parent alone
sides : (v p k q : ℕ) → 2 * q + 1 ≤ k → k ≤ 2 * q + 2 → cond (eqb (2 * p + 1) k) v 0 + cond (eqb (2 * p + 2) k) v 0 ≡ cond (eqb p q) v 0
sides v p k q low high = grind (arith, nat_tests)

share_up : (n v p k q : ℕ) → 2 * q + 1 ≤ k → k ≤ 2 * q + 2 → share (suc n) v p k ≡ cond (eqb p k) v 0 + share n v p q
share_up zero v p k q low high = omega arith
share_up (suc n) v p k q low high =
    omega (arith, share_up n v (2 * p + 1) k q low high, share_up n v (2 * p + 2) k q low high, sides v p k q low high)

parent : (k : ℕ) → (q : ℕ) × (2 * q + 1 ≤ suc k) × (suc k ≤ 2 * q + 2)
parent zero = (0, omega arith, omega arith)
parent (suc k) =
    let (q, low, high) = parent k in
    elim (cases_lt (suc k) (2 * q + 2)) [
      | inl left ↦ (q, omega (arith, low), omega (arith, left))
      | inr right ↦ (q + 1, omega (arith, right), omega (arith, high))
    ]

-- each stands below the top once
share_once : (n v k : ℕ) → k < n → share n v 0 k ≡ v
share_once zero v k l = absurd (omega arith)
share_once (suc n) v zero l = omega (arith, share_above n v 1 0 (omega arith), share_above n v 2 0 (omega arith))
share_once (suc n) v (suc k) l =
    let (q, low, high) = parent k in
    omega (arith, share_up n v 0 (suc k) q low high, share_once n v q (omega (arith, low, l)), ap (λ b. cond b v 0) (ne_eqb 0 (suc k) (λ e. omega (arith, e))))

amount_pushed : (f : Due → ℕ) (dues : List Due) (y : Due) (p : ℕ) → option_map_or f (slice_get (dues ++ y ∷ []) p) 0 ≡ option_map_or f (slice_get dues p) 0 + cond (eqb p (length dues)) (f y) 0
amount_pushed f [] y zero = omega arith
amount_pushed f [] y (suc p) = omega (arith, ap (λ b. cond b (f y) 0) (ne_eqb (suc p) 0 (λ e. omega (arith, e))))
amount_pushed f (x ∷ dues) y zero = omega (arith, ap (λ b. cond b (f y) 0) (ne_eqb 0 (suc (length dues)) (λ e. omega (arith, e))))
amount_pushed f (x ∷ dues) y (suc p) = omega (arith, amount_pushed f dues y p, same)
  where
    same : cond (eqb (suc p) (suc (length dues))) (f y) 0 ≡ cond (eqb p (length dues)) (f y) 0
    same = grind (arith, nat_tests)

levels_pushed : (n : ℕ) (f : Due → ℕ) (dues : List Due) (y : Due) (p : ℕ) → sum_levels n f (dues ++ y ∷ []) p ≡ sum_levels n f dues p + share n (f y) p (length dues)
levels_pushed zero f dues y p = refl
levels_pushed (suc n) f dues y p = omega (arith, amount_pushed f dues y p, levels_pushed n f dues y (2 * p + 1), levels_pushed n f dues y (2 * p + 2))

levels_appended : (n : ℕ) (f : Due → ℕ) (front dues : List Due) → length (front ++ dues) ≤ n → sum_levels n f (front ++ dues) 0 ≡ sum_levels n f front 0 + sum_by f dues
levels_appended n f front [] l = omega (arith, ap (λ ds. sum_levels n f ds 0) (append-nil front))
levels_appended n f front (x ∷ dues) l =
    let joined : (front ++ x ∷ []) ++ dues ≡ front ++ x ∷ dues = append_assoc front (x ∷ []) dues in
    let rest = levels_appended n f (front ++ x ∷ []) dues (subst (λ (ds : List Due). length ds ≤ n) (sym joined) l) in
    let inside : length front < n = omega (arith, l, length-append front (x ∷ dues)) in
    let more = levels_pushed n f front x 0 in
    omega (arith, ap (λ ds. sum_levels n f ds 0) joined, rest, more, share_once n (f x) (length front) inside, sum_by-cons f x dues)

pub all_below : (f : Due → ℕ) (dues : List Due) → sum_below f dues 0 ≡ sum_by f dues
all_below f dues = omega (arith, levels_appended (length dues) f [] dues (omega arith), none_past (length dues) f [] 0 (omega arith))
