-- Which fronts of the list of sales may be forgotten, and what is told of it.
use Rattle.std.specs.Prelude.{◌≡◌, ℕ, ◌+◌, ◌-◌, ◌≤◌, ◌⊎◌, not, List, length, take, Bool, IsTrue}
use Rattle.std.specs.List.{list_all}
use Rattle.budget_book.specs.declared.sales.SaleRow.{SaleRow}
use Rattle.budget_book.specs.Sales.{is_held, most_forgotten}
use Rattle.plain_exchange.specs.declared.commands.Reply.TheVariants.{Trimmed}
use Rattle.plain_exchange.specs.State.{State, forgotten}
use Rattle.plain_exchange.specs.Step.{Transition}

abbrev pub is_none_held : List SaleRow → Bool
is_none_held sales = list_all (λ (s : SaleRow). not (is_held s.state)) sales

-- the first n sales, none of them held, where they are none or leave at least so many, and where no more
-- than 2^62 are forgotten in all
pub record MayBeForgotten (keep : ℕ) (s : State) (n : ℕ) : Type 0 where
  pub there : n ≤ length s.sales
  pub settled : IsTrue (is_none_held (take n s.sales))
  pub leaves : (n ≡ 0) ⊎ (keep ≤ length s.sales - n)
  pub few : forgotten s + n ≤ most_forgotten

-- the reply says how many sales the list has, and how many are forgotten in all
abbrev pub TellsWhatIsLeft : Transition → Type 0
TellsWhatIsLeft t = t.reply ≡ Trimmed (length t.after.sales) (forgotten t.after)
