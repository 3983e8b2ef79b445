use Rattle.std.proofs.Common.{◌≡◌, ◌+◌, ◌-◌, ◌∙◌, arith, length, subst, sym}
use Rattle.std.proofs.lemmas.List.{length-map}
use Rattle.auction_core.specs.Outcomes.{IsOutcome}
use Rattle.auction_core.specs.declared.outcome.Outcome.{Outcome}
use Rattle.budget_book.specs.Sales.{expired_at, forgettable_at_once}
use Rattle.plain_exchange.specs.State.{forgotten, swept}
use Rattle.plain_exchange.specs.Step.{forget_sales}
use Rattle.auction_core.proofs.Planning.{trim_none, trim_some}
use Rattle.auction_core.proofs.exchange.Core.forget_outcome.Goals as goal

pub returns-then-count-eq0 : goal.returns-then-count-eq0
returns-then-count-eq0 c =
    let m = c.args.moment in
    let s = c.args.self.now.state in
    let t = swept m s in
    let k = c.forgettable_at-count.result in
    let n = forgettable_at_once c.args.keep (forgotten t) t.sales in
    let count : k ≡ n = c.forgettable_at-count.ensures.value in
    let none : n ≡ 0 = sym count ∙ c.if-count-eq0.true in
    let left : c.sales.result - k ≡ length t.sales - n = omega (arith, c.sales.ensures.value, count, length-map s.sales (expired_at m)) in
    let gone : c.forgotten.result + k ≡ forgotten t + n = omega (arith, c.forgotten.ensures, count) in
    subst (λ (o : Outcome). IsOutcome (forget_sales c.args.keep t) o) (sym c.reply_alone.ensures) (trim_none t n (c.sales.result - k) (c.forgotten.result + k) none left gone)

pub returns : goal.returns
returns c =
    let m = c.args.moment in
    let s = c.args.self.now.state in
    let t = swept m s in
    let k = c.forgettable_at-count.result in
    let n = forgettable_at_once c.args.keep (forgotten t) t.sales in
    let count : k ≡ n = c.forgettable_at-count.ensures.value in
    let left : c.sales.result - k ≡ length t.sales - n = omega (arith, c.sales.ensures.value, count, length-map s.sales (expired_at m)) in
    let gone : c.forgotten.result + k ≡ forgotten t + n = omega (arith, c.forgotten.ensures, count) in
    subst (λ (o : Outcome). IsOutcome (forget_sales c.args.keep t) o) (sym c.reply_to.ensures)
    (trim_some t n (c.sales.result - k) (c.forgotten.result + k) (λ none. c.if-count-eq0.false (count ∙ none)) left gone)
