-- An exchange without its oldest sales, and what the effects that it goes on by make of it.
use Rattle.std.specs.Prelude.{◌≡◌, ℕ, ◌+◌, ◌-◌, ◌≤◌, not, List, Bool, true, false, Some, IsTrue}
use Rattle.std.specs.List.{list_all}
use Rattle.budget_book.specs.Sales.{are_settled, most_forgotten}
use Rattle.plain_exchange.specs.declared.changes.Change.{Change}
use Rattle.plain_exchange.specs.declared.changes.Change.TheVariants as change
use Rattle.plain_exchange.specs.declared.changes.Effect.{Effect}
use Rattle.plain_exchange.specs.Effects.{all_applied}
use Rattle.plain_exchange.specs.State.{State, forget_first, forgotten}

-- the first n sales are there and none of them is held, and no more than 2^62 are forgotten where they are too
pub record CanBeGone (n : ℕ) (s : State) : Type 0 where
  pub settled : IsTrue (are_settled n s.sales)
  pub few : forgotten s + n ≤ most_forgotten

-- whether the oldest sales are forgotten by it
abbrev pub is_forgetting : Change → Bool
is_forgetting change.Swept = false
is_forgetting (change.Sold items) = false
is_forgetting (change.SoldTo user items) = false
is_forgetting (change.Added facts expr) = false
is_forgetting (change.Changed n facts expr) = false
is_forgetting (change.Paused n) = false
is_forgetting (change.Resumed n) = false
is_forgetting (change.Billed n) = false
is_forgetting (change.Lost n) = false
is_forgetting (change.Forgot n) = true
is_forgetting (change.Kept k) = false
is_forgetting (change.KeptSale sale) = false

abbrev pub forget_nothing : List Effect → Bool
forget_nothing es = list_all (λ (e : Effect). not (is_forgetting e.change)) es

-- How an exchange goes on without its first n sales, where by these effects the whole one comes from s to after: to the
-- same state, without those of the n sales that are still in that one. Those are all of them where no effect forgets any.
pub record GoesOnWithout (n : ℕ) (s : State) (es : List Effect) (after : State) : Type 0 where
  pub left : ℕ
  pub are : left ≡ forgotten s + n - forgotten after
  pub fewer : left ≤ n
  pub all : IsTrue (forget_nothing es) → left ≡ n
  pub can : CanBeGone left after
  pub leads : all_applied es (forget_first n s) ≡ Some (forget_first left after)
