use Rattle.std.proofs.Common.{◌≡◌, ◌-◌, ◌<◌, ◌∙◌, true, get_or, sym, arith, Result, Ok, Err}
use Rattle.std.specs.Prelude.{IfErr}
use Rattle.std.specs.Result.{is_err}
use Rattle.std.proofs.lemmas.Bool.{false≢true}
use Rattle.budget_book.specs.Book.{Funds}
use Rattle.budget_book.specs.declared.sales.BelowCommitted.{BelowCommitted}
use Rattle.budget_book.specs.Sales.{committed_of, none_gone}
use Rattle.auction_core.proofs.edits.set_budget.Goals as goal

fault_in : {A E : Type 0} (P : E → Type 0) (r : Result A E) → IfErr r P → is_err r ≡ true → (e : E) × P e
fault_in P (Ok a) h e = absurd (false≢true e)
fault_in P (Err x) h e = (x, h)

pub unreachable-requires : goal.unreachable-requires
unreachable-requires c =
    let d : Funds = record { budget = 0; gone = none_gone } in
    let (x, below) = fault_in (λ (x : BelowCommitted). (d : Funds) → (x.committed ≡ committed_of c.args.c (get_or c.args.book.now.campaigns (c.args.c - 1) d).gone c.args.book.now.sales) × (c.args.budget < x.committed))
    c.set_budget.result c.set_budget.ensures.err (sym c.is_err.ensures.value ∙ c.if-is_err.true) in
    let two = below d in
    let covers = c.requires.covers d in
    omega (arith, two.0, two.1, covers)
