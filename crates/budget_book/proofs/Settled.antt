-- The front of a list that passes a test.
use Rattle.std.proofs.Common.{◌≡◌, ℕ, zero, suc, ◌+◌, ◌<◌, ◌≤◌, ◌&&◌, inl, inr, cond, Bool, true, false, List, [], ◌∷◌, length, get_or, sym, ◌∙◌, ap, arith, refl}
use Rattle.std.specs.Prelude.{not, nat_lt, nat_le, min}
use Rattle.std.specs.List.{prefix_len}
use Rattle.std.proofs.lemmas.Bool.{cases_Bool, and_parts, false≢true, leb-true, ltb-false}
use Rattle.std.proofs.lemmas.List.{get_or-map, length-map}
use Rattle.std.proofs.lemmas.List.Sums.{prefix_len-le-length}
use Rattle.budget_book.specs.declared.sales.SaleRow.{SaleRow}
use Rattle.budget_book.specs.Book.{NoneHeld}
use Rattle.budget_book.specs.Sales.{are_settled, expired, expired_at, is_held, state_at}
use Rattle.budget_book.proofs.Oldest.{none_held}

module _ {X : Type 0} (p : X → Bool) where
  goes : (x : X) (xs : List X) → p x ≡ true → prefix_len p (x ∷ xs) ≡ 1 + prefix_len p xs
  goes x xs h = ap (λ b. cond b (1 + prefix_len p xs) 0) h

  stops : (x : X) (xs : List X) → p x ≡ false → prefix_len p (x ∷ xs) ≡ 0
  stops x xs h = ap (λ b. cond b (1 + prefix_len p xs) 0) h

  -- one more that passes
  pub prefix_more : (xs : List X) (k : ℕ) (d : X) → k ≤ prefix_len p xs → k < length xs → p (get_or xs k d) ≡ true → k + 1 ≤ prefix_len p xs
  prefix_more [] k d h l e = absurd (omega (arith, l))
  prefix_more (x ∷ xs) zero d h l e = omega (arith, goes x xs e)
  prefix_more (x ∷ xs) (suc k) d h l e =
      elim (cases_Bool (p x)) [
        | inl y ↦ omega (arith, goes x xs y, prefix_more xs k d (omega (arith, h, goes x xs y)) (omega (arith, l)) e)
        | inr n ↦ absurd (omega (arith, h, stops x xs n))
      ]

  -- one that does not ends it
  pub prefix_ends : (xs : List X) (k : ℕ) (d : X) → k ≤ prefix_len p xs → k < length xs → p (get_or xs k d) ≡ false → prefix_len p xs ≡ k
  prefix_ends [] k d h l e = absurd (omega (arith, l))
  prefix_ends (x ∷ xs) zero d h l e = stops x xs e
  prefix_ends (x ∷ xs) (suc k) d h l e =
      elim (cases_Bool (p x)) [
        | inl y ↦ omega (arith, goes x xs y, prefix_ends xs k d (omega (arith, h, goes x xs y)) (omega (arith, l)) e)
        | inr n ↦ absurd (omega (arith, h, stops x xs n))
      ]

abbrev pub is_free : SaleRow → Bool
is_free s = not (is_held s.state)

-- how many stand before the first that is held by the moment
abbrev pub free_front : ℕ → List SaleRow → ℕ
free_front m rows = prefix_len is_free (expired m rows)

seen : (m : ℕ) (rows : List SaleRow) (k : ℕ) (d : SaleRow) → k < length rows → is_free (get_or (expired m rows) k (expired_at m d)) ≡ not (is_held (state_at m (get_or rows k d)))
seen m rows k d l = ap is_free (get_or-map (expired_at m) rows k d (expired_at m d) l)

-- one sale more stands before it
pub front_more : (m most : ℕ) (rows : List SaleRow) (k : ℕ) (d : SaleRow) → most ≤ length rows → k ≤ free_front m rows → (nat_lt k most && not (is_held (state_at m (get_or rows k d)))) ≡ true
    → (k + 1 ≤ most) × (k + 1 ≤ free_front m rows)
front_more m most rows k d few h e =
    let (low, free) = and_parts (nat_lt k most) (not (is_held (state_at m (get_or rows k d)))) e in
    let below : suc k ≤ most = leb-true (suc k) most low in
    let inside : k < length rows = omega (arith, below, few) in
    (omega (arith, below), prefix_more is_free (expired m rows) k (expired_at m d) h (omega (arith, inside, length-map rows (expired_at m))) (seen m rows k d inside ∙ free))

-- where none more does, all are counted
pub front_ends : (m most : ℕ) (rows : List SaleRow) (k : ℕ) (d : SaleRow) → most ≤ length rows → k ≤ most → k ≤ free_front m rows → (nat_lt k most && not (is_held (state_at m (get_or rows k d)))) ≡ false
    → k ≡ min most (free_front m rows)
front_ends m most rows k d few low h e =
    elim (cases_Bool (nat_lt k most)) [
      | inl y ↦
          let below : suc k ≤ most = leb-true (suc k) most y in
          let inside : k < length rows = omega (arith, below, few) in
          let held : not (is_held (state_at m (get_or rows k d))) ≡ false = sym (ap (λ b. b && not (is_held (state_at m (get_or rows k d)))) y) ∙ e in
          let is : free_front m rows ≡ k = prefix_ends is_free (expired m rows) k (expired_at m d) h (omega (arith, inside, length-map rows (expired_at m))) (seen m rows k d inside ∙ held) in
          omega (arith, is, below)
      | inr n ↦
          let past : most ≤ k = ltb-false k most n in
          omega (arith, past, low, h)
    ]

pub front_bound : (m : ℕ) (rows : List SaleRow) → free_front m rows ≤ length rows
front_bound m rows = omega (arith, prefix_len-le-length is_free (expired m rows), length-map rows (expired_at m))

-- more than there are may not be forgotten
pub past_all : (m : ℕ) (rows : List SaleRow) (n k : ℕ) → k ≡ length rows → k < n → nat_le n k ≡ are_settled n (expired m rows)
past_all m rows n k long past =
    elim (cases_Bool (nat_le n k)) [
      | inl y ↦ absurd (let few : n ≤ k = leb-true n k y in omega (arith, few, past))
      | inr o ↦ elim (cases_Bool (are_settled n (expired m rows))) [
        | inl y ↦ absurd (let few : n ≤ free_front m rows = leb-true n (free_front m rows) y in omega (arith, few, past, long, front_bound m rows))
        | inr none ↦ o ∙ sym none
      ]
    ]

-- what may be forgotten is there, and none of it is held
pub first_settled : (n : ℕ) (rows : List SaleRow) → are_settled n rows ≡ true → (n ≤ length rows) × NoneHeld n rows
first_settled n rows h =
    let few : n ≤ prefix_len is_free rows = leb-true n (prefix_len is_free rows) h in
    (omega (arith, few, prefix_len-le-length is_free rows), none_held rows n few)
