-- The entries of a posting list rise, and a fault's place is determined.
use Rattle.std.proofs.Common.{◌≡◌, ℕ, ◌+◌, ◌-◌, ◌*◌, ◌<◌, ◌≤◌, inl, inr, List, Bool, true, false, cond, refl, ◌∙◌, ap, subst, arith, length}
use Rattle.std.proofs.lemmas.Bool.{cases_lt, cases_order}
use Rattle.postings.specs.declared.entry.Entry.{Entry}
use Rattle.postings.specs.declared.fault.BuildFault.{BuildFault}
use Rattle.postings.specs.declared.fault.BuildFault.TheVariants.{NotSorted, Repeated, Memory}
use Rattle.postings.specs.Order.{rank_of, entry_at, RisesTo, IsRising, IsFirstBelow, IsFirstEqual, explains}

-- one entry more, above the last
pub rises_more : (es : List Entry) (n : ℕ) → 0 < n → RisesTo es n → rank_of (entry_at es (n - 1)) < rank_of (entry_at es n) → RisesTo es (n + 1)
rises_more es n some rises above i within =
    elim (cases_lt (i + 1) n) [
      | inl h ↦ rises i h
      | inr h ↦
          let e : n - 1 ≡ i = omega arith in
          let f : n ≡ i + 1 = omega arith in
          subst (λ k. rank_of (entry_at es i) < rank_of (entry_at es k)) f (subst (λ k. rank_of (entry_at es k) < rank_of (entry_at es n)) e above)
    ]

same_parts : (a b : ℕ) (x y : Bool) → 2 * a + cond x 0 1 ≡ 2 * b + cond y 0 1 → (a ≡ b) × (x ≡ y)
same_parts a b true true e = (omega arith, refl)
same_parts a b true false e = absurd (omega arith)
same_parts a b false true e = absurd (omega arith)
same_parts a b false false e = (omega arith, refl)

-- entries of one rank are equal
pub same_rank : (a b : Entry) → rank_of a ≡ rank_of b → a ≡ b
same_rank a b e =
    let (ids, signs) = same_parts a.id b.id a.negated b.negated e in
    ap (λ (n : ℕ). record { id = n; negated = a.negated }) ids ∙ ap (λ (s : Bool). record { id = b.id; negated = s }) signs

-- of two first faults neither is before the other
not_before : (es : List Entry) (m n : ℕ) → 0 < m → rank_of (entry_at es m) ≤ rank_of (entry_at es (m - 1)) → RisesTo es n → m < n → ⊥
not_before es m n some low rises h =
    let e : m - 1 + 1 ≡ m = omega arith in
    let up : rank_of (entry_at es (m - 1)) < rank_of (entry_at es m) = subst (λ k. rank_of (entry_at es (m - 1)) < rank_of (entry_at es k)) e (rises (m - 1) (omega arith)) in
    omega arith

-- what both kinds of first fault say
record First (es : List Entry) (n : ℕ) : Type 0 where
  pub some : 0 < n
  pub within : n < length es
  pub rises : RisesTo es n
  pub low : rank_of (entry_at es n) ≤ rank_of (entry_at es (n - 1))

first_below : (es : List Entry) (n : ℕ) → IsFirstBelow es n → First es n
first_below es n (some, within, rises, below) = record { some = some; within = within; rises = rises; low = omega arith }

first_equal : (es : List Entry) (n : ℕ) → IsFirstEqual es n → First es n
first_equal es n (some, within, rises, same) =
    let ranks : rank_of (entry_at es n) ≡ rank_of (entry_at es (n - 1)) = ap rank_of same in
    record { some = some; within = within; rises = rises; low = omega arith }

same_first : (es : List Entry) (m n : ℕ) → First es m → First es n → m ≡ n
same_first es m n a b =
    elim (cases_order m n) [
      | inl e ↦ e
      | inr h ↦ elim h [
        | inl k ↦ absurd (not_before es m n a.some a.low b.rises k)
        | inr k ↦ absurd (not_before es n m b.some b.low a.rises k)
      ]
    ]

not_rising : (es : List Entry) (n : ℕ) → First es n → IsRising es → ⊥
not_rising es n a rises = not_before es n (length es) a.some a.low rises a.within

pub below_not_rising : (es : List Entry) (n : ℕ) → IsRising es → IsFirstBelow es n → ⊥
below_not_rising es n rises h = not_rising es n (first_below es n h) rises

pub equal_not_rising : (es : List Entry) (n : ℕ) → IsRising es → IsFirstEqual es n → ⊥
equal_not_rising es n rises h = not_rising es n (first_equal es n h) rises

pub fault_not_rising : (es : List Entry) (f : BuildFault) → explains es f → IsRising es → ⊥
fault_not_rising es (NotSorted n) h rises = below_not_rising es n rises h
fault_not_rising es (Repeated n) h rises = equal_not_rising es n rises h
fault_not_rising es Memory h rises = h

-- not both kinds at one place
not_both : (es : List Entry) (m n : ℕ) → IsFirstBelow es m → IsFirstEqual es n → ⊥
not_both es m n (some, within, rises, below) h =
    let e : m ≡ n = same_first es m n (first_below es m (some, within, rises, below)) (first_equal es n h) in
    let ranks : rank_of (entry_at es n) ≡ rank_of (entry_at es (n - 1)) = ap rank_of h.3 in
    let below_n : rank_of (entry_at es n) < rank_of (entry_at es (n - 1)) = subst (λ k. rank_of (entry_at es k) < rank_of (entry_at es (k - 1))) e below in
    omega arith

pub below_found : (es : List Entry) (f : BuildFault) → explains es f → (n : ℕ) → f ≡ NotSorted n → IsFirstBelow es n
below_found es (NotSorted m) h n e =
    let same : m ≡ n = cc in
    subst (IsFirstBelow es) same h
below_found es (Repeated m) h n e = cc
below_found es Memory h n e = absurd h

pub equal_found : (es : List Entry) (f : BuildFault) → explains es f → (n : ℕ) → f ≡ Repeated n → IsFirstEqual es n
equal_found es (Repeated m) h n e =
    let same : m ≡ n = cc in
    subst (IsFirstEqual es) same h
equal_found es (NotSorted m) h n e = cc
equal_found es Memory h n e = absurd h

pub below_only : (es : List Entry) (f : BuildFault) → explains es f → (n : ℕ) → IsFirstBelow es n → f ≡ NotSorted n
below_only es (NotSorted m) h n k = ap NotSorted (same_first es m n (first_below es m h) (first_below es n k))
below_only es (Repeated m) h n k = absurd (not_both es n m k h)
below_only es Memory h n k = absurd h

pub equal_only : (es : List Entry) (f : BuildFault) → explains es f → (n : ℕ) → IsFirstEqual es n → f ≡ Repeated n
equal_only es (Repeated m) h n k = ap Repeated (same_first es m n (first_equal es m h) (first_equal es n k))
equal_only es (NotSorted m) h n k = absurd (not_both es m n h k)
equal_only es Memory h n k = absurd h
