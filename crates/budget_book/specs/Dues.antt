-- The sales that are still to expire, as a heap with the one that is due first on top. A sale that was billed or
-- lost leaves its entry behind until it is due.
-- Only private clauses cite this file.
use Rattle.std.specs.Prelude.{◌≡◌, ℕ, zero, suc, ◌+◌, ◌*◌, ◌<◌, ◌≤◌, ◌==◌, ◌&&◌, nat_le, cond, if◌then◌else◌, List, [], ◌∷◌, length, slice_get, MatchOption, sum_by}
use Rattle.std.specs.BinaryHeap.{IsHeap}
use Rattle.std.specs.Ordering.{nat_cmp, ordering_then}
use Rattle.std.specs.declared.cmp.Ordering.{Ordering}
use Rattle.std.specs.Option.{option_map_or}
use Rattle.std.proofs.Common.{get_or}
use Rattle.budget_book.specs.declared.dues.Due.{Due}
use Rattle.budget_book.specs.declared.sales.SaleRow.{SaleRow}
use Rattle.budget_book.specs.Sales.{is_held, sale_at}

-- the weight of the sale of that number, where it is in the list and held
abbrev pub weight_at : (ℕ → SaleRow → ℕ) → ℕ → List SaleRow → ℕ → ℕ
weight_at w forgotten rows n = option_map_or (λ (s : SaleRow). cond (is_held s.state) (w n s) 0) (sale_at forgotten rows n) 0

-- the weights of all held sales, which are numbered from n on
abbrev pub held_weight : (ℕ → SaleRow → ℕ) → ℕ → List SaleRow → ℕ
held_weight w n [] = 0
held_weight w n (s ∷ rows) = cond (is_held s.state) (w n s) 0 + held_weight w (n + 1) rows

-- the entry is of a sale that was made, and says when it is due
abbrev pub IsDueOf : ℕ → List SaleRow → Due → Type 0
IsDueOf forgotten rows e = (0 < e.number) × (e.number ≤ forgotten + length rows) × MatchOption (sale_at forgotten rows e.number) (Unit {0}) (λ s. s.due ≡ e.due.0)

-- the greater of two entries is the one that is due first
abbrev pub due_cmp : Due → Due → Ordering
due_cmp x y = ordering_then (nat_cmp y.due.0 x.due.0) (nat_cmp x.number y.number)

-- The entries are a heap. Whatever is added up of the held sales, adding it up over the entries gives the same:
-- so each held sale has one entry.
pub record AreDues (forgotten : ℕ) (rows : List SaleRow) (dues : List Due) : Type 0 where
  pub ordered : IsHeap due_cmp dues
  pub of_sales : (k : ℕ) (d : Due) → k < length dues → IsDueOf forgotten rows (get_or dues k d)
  pub each_held : (w : ℕ → SaleRow → ℕ) → sum_by (λ (e : Due). weight_at w forgotten rows e.number) dues ≡ held_weight w (forgotten + 1) rows

-- one for each sale that is due by the moment
abbrev pub due_weight : ℕ → ℕ → SaleRow → ℕ
due_weight moment n s = if nat_le s.due moment then 1 else 0

-- the prices of the sales of campaign c that are due by the moment
abbrev pub release_weight : ℕ → ℕ → ℕ → SaleRow → ℕ
release_weight c moment n s = if (s.campaign == c) && nat_le s.due moment then s.price else 0

-- the weight of the sale of the entry
abbrev pub entry_weight : (ℕ → SaleRow → ℕ) → ℕ → List SaleRow → Due → ℕ
entry_weight w forgotten rows e = weight_at w forgotten rows e.number

-- what an entry of the heap and those of n levels with it, the children of place p at 2 * p + 1 and 2 * p + 2, add up to
abbrev pub sum_levels : ℕ → (Due → ℕ) → List Due → ℕ → ℕ
sum_levels zero f dues p = 0
sum_levels (suc n) f dues p = option_map_or f (slice_get dues p) 0 + sum_levels n f dues (2 * p + 1) + sum_levels n f dues (2 * p + 2)

-- what the entry at the place and all below it add up to
abbrev pub sum_below : (Due → ℕ) → List Due → ℕ → ℕ
sum_below f dues p = sum_levels (length dues) f dues p
