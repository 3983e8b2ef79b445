-- What expires by a moment, added up over the entries.
use Rattle.std.proofs.Common.{◌≡◌, ℕ, ◌+◌, ◌<◌, ◌≤◌, ◌&&◌, ◌||◌, eqb, cond, Bool, true, false, List, [], ◌∷◌, length, get_or, refl, ◌∙◌, ap, arith, Option, Some, None}
use Rattle.std.specs.Prelude.{nat_le, MatchOption}
use Rattle.std.specs.Option.{option_map_or}
use Rattle.std.proofs.lemmas.Bool.{lt-leb}
use Rattle.std.proofs.lemmas.List.Sums.{count_by-le-length, sum_by-cons}
use Rattle.budget_book.specs.declared.dues.Due.{Due}
use Rattle.budget_book.specs.declared.sales.Gone.{Gone}
use Rattle.budget_book.specs.declared.sales.SaleRow.{SaleRow}
use Rattle.budget_book.specs.declared.sales.SaleState.{SaleState}
use Rattle.budget_book.specs.declared.sales.SaleState.TheVariants.{Held, Billed, Lost, Expired}
use Rattle.budget_book.specs.Dues.{AreDues, IsDueOf, due_weight, entry_weight, held_weight, release_weight, sum_below, weight_at}
use Rattle.budget_book.specs.Sales.{committed_of, due_count, expired, expired_at, is_billed, is_billed_of, is_due, is_held, is_held_of, prices, sale_at}
use Rattle.budget_book.proofs.Heaped.{all_below, later_below}
use Rattle.budget_book.proofs.Waiting.{held_weight_counts, pick}

-- a weight that is nothing for sales that are due later
abbrev pub IsLight : (ℕ → SaleRow → ℕ) → ℕ → Type 0
IsLight v m = (n : ℕ) (s : SaleRow) → m < s.due → v n s ≡ 0

pub due_light : (m : ℕ) → IsLight (due_weight m) m
due_light m n s l = ap (λ t. pick t 1 0) (lt-leb s.due m l)

pub release_light : (c m : ℕ) → IsLight (release_weight c m) m
release_light c m n s l = ap (λ t. pick (eqb s.campaign c && t) s.price 0) (lt-leb s.due m l) ∙ nothing (eqb s.campaign c) s.price
  where
    nothing : (b : Bool) (p : ℕ) → pick (b && false) p 0 ≡ 0
    nothing true p = refl
    nothing false p = refl

light_entry : (v : ℕ → SaleRow → ℕ) (f m : ℕ) (rows : List SaleRow) (e : Due) → IsLight v m → IsDueOf f rows e → m < e.due.0 → weight_at v f rows e.number ≡ 0
light_entry v f m rows e light (some, few, is) l = at_sale (sale_at f rows e.number) is
  where
    empty : (b : Bool) (n : ℕ) → n ≡ 0 → pick b n 0 ≡ 0
    empty true n h = h
    empty false n h = refl

    at_sale : (o : Option SaleRow) → MatchOption o (Unit {0}) (λ (s : SaleRow). s.due ≡ e.due.0) → option_map_or (λ (s : SaleRow). pick (is_held s.state) (v e.number s) 0) o 0 ≡ 0
    at_sale None h = refl
    at_sale (Some s) h = empty (is_held s.state) (v e.number s) (light e.number s (omega (arith, l, h)))

-- all entries together have it all
pub all_sum : (v : ℕ → SaleRow → ℕ) (f : ℕ) (rows : List SaleRow) (dues : List Due) → AreDues f rows dues → sum_below (entry_weight v f rows) dues 0 ≡ held_weight v (f + 1) rows
all_sum v f rows dues h = all_below (entry_weight v f rows) dues ∙ h.each_held v

-- where an entry is not due, those below it weigh nothing
pub not_due : (v : ℕ → SaleRow → ℕ) (f m : ℕ) (rows : List SaleRow) (dues : List Due) (p : ℕ) → IsLight v m → AreDues f rows dues
    → ((d : Due) → p < length dues → m < (get_or dues p d).due.0) → sum_below (entry_weight v f rows) dues p ≡ 0
not_due v f m rows dues p light h later =
    later_below (entry_weight v f rows) m dues h.ordered (λ k d l past. light_entry v f m rows (get_or dues k d) light (h.of_sales k d l) past) (length dues) p later

-- how many are due
pub due_weight_is : (m n : ℕ) (rows : List SaleRow) → held_weight (due_weight m) n rows ≡ due_count m rows
due_weight_is m n rows = held_weight_counts m n rows

pub due_few : (m n : ℕ) (rows : List SaleRow) → held_weight (due_weight m) n rows ≤ length rows
due_few m n rows = omega (arith, due_weight_is m n rows, count_by-le-length (is_due m) rows)

-- what is released is no more than what is reserved
pub release_bound : (c m n : ℕ) (rows : List SaleRow) → held_weight (release_weight c m) n rows ≤ prices (is_held_of c) rows
release_bound c m n [] = omega arith
release_bound c m n (s ∷ rows) =
    omega (arith, sum_by-cons (λ (s : SaleRow). pick (is_held_of c s) s.price 0) s rows, one (is_held s.state) (eqb s.campaign c) (nat_le s.due m) s.price, release_bound c m (n + 1) rows)
  where
    one : (held own due : Bool) (p : ℕ) → pick held (pick (own && due) p 0) 0 ≤ pick (own && held) p 0
    one true true true p = omega arith
    one true true false p = omega arith
    one true false due p = omega arith
    one false true due p = omega arith
    one false false due p = omega arith

released_prices : (c m n : ℕ) (rows : List SaleRow)
    → held_weight (release_weight c m) n rows + prices (λ (s : SaleRow). is_held_of c s || is_billed_of c s) (expired m rows) ≡ prices (λ (s : SaleRow). is_held_of c s || is_billed_of c s) rows
released_prices c m n [] = refl
released_prices c m n (s ∷ rows) =
    omega (
      arith,
      sum_by-cons (λ (s : SaleRow). pick (is_held_of c s || is_billed_of c s) s.price 0) s rows,
      sum_by-cons (λ (s : SaleRow). pick (is_held_of c s || is_billed_of c s) s.price 0) (expired_at m s) (expired m rows),
      one (eqb s.campaign c) (nat_le s.due m) s.state s.price,
      released_prices c m (n + 1) rows,
    )
  where
    one : (own due : Bool) (st : SaleState) (p : ℕ)
        → pick (is_held st) (pick (own && due) p 0) 0 + pick ((own && is_held (cond (is_held st && due) Expired st)) || (own && is_billed (cond (is_held st && due) Expired st))) p 0 ≡ pick ((own && is_held st) || (own && is_billed st)) p 0
    one true true Held p = omega arith
    one true false Held p = omega arith
    one false true Held p = omega arith
    one false false Held p = omega arith
    one true due Billed p = omega arith
    one false due Billed p = omega arith
    one true due Lost p = omega arith
    one false due Lost p = omega arith
    one true due Expired p = omega arith
    one false due Expired p = omega arith

pub released : (c m n : ℕ) (rows : List SaleRow) (gone : Gone) → held_weight (release_weight c m) n rows + committed_of c gone (expired m rows) ≡ committed_of c gone rows
released c m n rows gone = omega (arith, released_prices c m n rows)
