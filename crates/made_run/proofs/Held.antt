-- The prices of held sales, one after the other.
use Rattle.std.proofs.Common.{◌≡◌, ◌≤◌, ◌<◌, ℕ, ◌+◌, ◌-◌, List, [], ◌∷◌, ◌++◌, length, take, get_or, Option, Some, None, true, false, refl, ap, sym, ◌∙◌, arith, ◌⊎◌, inl, inr}
use Rattle.std.specs.Prelude.{nat_le, slice_get, cond}
use Rattle.std.specs.Option.{option_map_or}
use Rattle.std.proofs.lemmas.Bool.{cond-false}
use Rattle.std.proofs.lemmas.Bool.Decides.{nat_tests}
use Rattle.std.proofs.lemmas.List.{take_more}
use Rattle.std.proofs.lemmas.List.Sums.{sum_by-append}
use Rattle.std.proofs.lemmas.Option.{slice_get_cases}
use Rattle.budget_book.specs.Sales.{sale_at}
use Rattle.budget_book.specs.declared.sales.SaleRow.{SaleRow}
use Rattle.made_run.specs.Runs.{held_price, reserved_in}

-- the sale at the place has the number behind those that are forgotten
numbered : (f place : ℕ) (sales : List SaleRow) → sale_at f sales (f + place + 1) ≡ slice_get sales place
numbered f place sales =
    let above : nat_le (f + place + 1) f ≡ false = grind (arith, nat_tests) in
    let same : f + place + 1 - f - 1 ≡ place = omega arith in
    cond-false _ None (slice_get sales (f + place + 1 - f - 1)) above ∙ ap (λ (k : ℕ). slice_get sales k) same

one_held : (sale : SaleRow) → reserved_in (sale ∷ []) ≡ held_price sale
one_held sale = omega arith

pub reserved_more : (f place number price : ℕ) (sales : List SaleRow) → place < length sales → number ≡ f + place + 1 → price ≡ option_map_or held_price (sale_at f sales number) 0
    → reserved_in (take (place + 1) sales) ≡ reserved_in (take place sales) + price
reserved_more f place number price sales inside is priced = by_case (slice_get_cases sales place).1
  where
    by_case : ((x : SaleRow) × (place < length sales) × (slice_get sales place ≡ Some x) × (get_or sales place x ≡ x)) ⊎ ((length sales ≤ place) × (slice_get sales place ≡ None)) → reserved_in (take (place + 1) sales) ≡ reserved_in (take place sales) + price
    by_case (inr (outside, none)) = absurd (omega (arith, inside, outside))
    by_case (inl (x, within, at, same)) =
        let row : sale_at f sales number ≡ Some x = ap (λ (n : ℕ). sale_at f sales n) is ∙ numbered f place sales ∙ at in
        let price_is : price ≡ held_price x = priced ∙ ap (λ (o : Option SaleRow). option_map_or held_price o 0) row in
        let front : List SaleRow = take place sales in
        ap (λ (l : List SaleRow). reserved_in l) (take_more sales place x inside)
        ∙ ap (λ (s : SaleRow). reserved_in (front ++ s ∷ [])) same
        ∙ sum_by-append held_price front (x ∷ [])
        ∙ ap (λ (n : ℕ). reserved_in front + n) (one_held x ∙ sym price_is)
