-- What is forgotten is the longest front that may be.
use Rattle.std.proofs.Common.{◌≡◌, ℕ, zero, suc, ◌+◌, ◌-◌, ◌≤◌, ◌∙◌, ap, sym, drop, length-drop, ◌⊎◌, inl, inr, not, cond, Bool, true, false, List, [], ◌∷◌, length, take, refl, arith}
use Rattle.std.specs.Prelude.{◌==◌}
use Rattle.std.specs.List.{list_all, prefix_len}
use Rattle.std.proofs.lemmas.Bool.{and_parts, eqb-true, false≢true}
use Rattle.budget_book.specs.declared.sales.SaleRow.{SaleRow}
use Rattle.budget_book.specs.Sales.{forgettable_at_once, is_held, most_forgotten}
use Rattle.plain_exchange.specs.Consistent.{IsConsistent}
use Rattle.plain_exchange.specs.declared.commands.Reply.TheVariants.{Trimmed}
use Rattle.plain_exchange.specs.Fronts.{MayBeForgotten, TellsWhatIsLeft}
use Rattle.plain_exchange.specs.State.{State, forgotten, swept}
use Rattle.plain_exchange.specs.Step.{forget_sales, trim}
use Rattle.plain_exchange.proofs.Cases.{by_test}
use Rattle.plain_exchange.proofs.Keeping.{swept_kept}
use Rattle.plain_exchange.proofs.Each.{all_of_each}
use Rattle.plain_exchange.proofs.Forgetting.{Bounds, count, count_bounds, first_counted, first_settled}

abbrev is_settled : SaleRow → Bool
is_settled s = not (is_held s.state)

one_passes : (p : Bool) (n m : ℕ) → p ≡ true → n ≤ m → suc n ≤ cond p (1 + m) 0
one_passes true n m e le = omega (arith, le)
one_passes false n m e le = absurd (false≢true e)

-- a front that passes is no longer than the longest
front_passes : {A : Type 0} (p : A → Bool) (xs : List A) (n : ℕ) → n ≤ length xs → list_all p (take n xs) ≡ true → n ≤ prefix_len p xs
front_passes p xs zero le e = omega arith
front_passes p [] (suc n) le e = absurd (omega (arith, le))
front_passes p (x ∷ xs) (suc n) le e =
    let parts = and_parts (p x) (list_all p (take n xs)) e in
    one_passes (p x) n (prefix_len p xs) parts.0 (front_passes p xs n (omega (arith, le)) parts.1)

left_over : (keep n long : ℕ) → n ≤ long → (n ≡ 0) ⊎ (keep ≤ long - n) → n ≤ long - keep
left_over keep n long le (inl none) = omega (arith, none)
left_over keep n long le (inr kept) = omega (arith, kept, le)

leaves_over : (keep n long : ℕ) → n ≤ long - keep → (n ≡ 0) ⊎ (keep ≤ long - n)
leaves_over keep zero long le = inl refl
leaves_over keep (suc n) long le = inr (omega (arith, le))

may_first : (keep d : ℕ) (s : State) → IsConsistent s → Bounds d s → d ≤ length s.sales - keep → MayBeForgotten keep s d
may_first keep d s h bounds short = record {
  there = bounds.0;
  settled = all_of_each is_settled (take d s.sales) (first_settled d s bounds);
  leaves = leaves_over keep d (length s.sales) short;
  few = omega (arith, bounds.1, h.few_forgotten);
}

pub forgotten_may : (keep : ℕ) (s : State) → IsConsistent s → MayBeForgotten keep s (count keep s)
forgotten_may keep s h = may_first keep (count keep s) s h (count_bounds keep s) (omega arith)

-- the same, of so many at once
pub at_once_bounds : (keep : ℕ) (s : State) → Bounds (forgettable_at_once keep (forgotten s) s.sales) s
at_once_bounds keep s = (omega arith, omega arith, omega arith)

pub at_once_may : (keep : ℕ) (s : State) → IsConsistent s → MayBeForgotten keep s (forgettable_at_once keep (forgotten s) s.sales)
at_once_may keep s h = may_first keep (forgettable_at_once keep (forgotten s) s.sales) s h (at_once_bounds keep s) (omega arith)

pub none_longer : (keep : ℕ) (s : State) (n : ℕ) → MayBeForgotten keep s n → n ≤ count keep s
none_longer keep s n h =
    let one : n ≤ prefix_len is_settled s.sales = front_passes is_settled s.sales n h.there h.settled in
    let two : n ≤ length s.sales - keep = left_over keep n (length s.sales) h.there h.leaves in
    let three : n ≤ most_forgotten - forgotten s = omega (arith, h.few) in
    omega (arith, one, two, three)

pub none_longer_at_once : (keep : ℕ) (s : State) (n : ℕ) → MayBeForgotten keep s n → n ≤ 16384 → n ≤ forgettable_at_once keep (forgotten s) s.sales
none_longer_at_once keep s n h few = omega (arith, none_longer keep s n h, few)

-- ---- what is told of it

told_left : (n : ℕ) (s : State) → IsConsistent s → Bounds n s → TellsWhatIsLeft (trim n s)
told_left n s h b = by_test TellsWhatIsLeft (n == 0) _ _
    (λ e.
    let none : n ≡ 0 = eqb-true n 0 e in
    let left : length s.sales - n ≡ length s.sales = omega (arith, none) in
    let gone : forgotten s + n ≡ forgotten s = omega (arith, none) in
    ap (λ k. Trimmed k (forgotten s + n)) left ∙ ap (Trimmed (length s.sales)) gone)
    (λ e. ap (λ k. Trimmed k (forgotten s + n)) (sym (length-drop n s.sales)) ∙ ap (Trimmed (length (drop n s.sales))) (sym (first_counted n s h b)))

pub forgetting_told : (m keep : ℕ) (s : State) → IsConsistent s → TellsWhatIsLeft (forget_sales keep (swept m s))
forgetting_told m keep s h = told_left (forgettable_at_once keep (forgotten (swept m s)) (swept m s).sales) (swept m s) (swept_kept m s h) (at_once_bounds keep (swept m s))
