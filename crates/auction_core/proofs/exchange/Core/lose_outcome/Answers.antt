use Rattle.std.proofs.Common.{◌∙◌, Some, ap, subst, sym}
use Rattle.auction_core.specs.Outcomes.{IsOutcome, told_alone}
use Rattle.auction_core.specs.declared.outcome.Outcome.{Outcome}
use Rattle.budget_book.specs.declared.sales.SaleState.TheVariants.{Held, Billed, Lost, Expired}
use Rattle.plain_exchange.specs.State.{swept}
use Rattle.plain_exchange.specs.Step.{at_sale, lose_sale}
use Rattle.auction_core.proofs.Planning.{lose_by, missing_outcome, no_sale}
use Rattle.auction_core.proofs.exchange.Core.lose_outcome.Goals as goal

pub returns-in-None : goal.returns-in-None
returns-in-None c =
    let m = c.args.moment in
    let n = c.args.sale in
    let s = c.args.self.now.state in
    subst (λ (o : Outcome). IsOutcome (at_sale (swept m s) n (lose_sale n (swept m s))) o) (sym (c.reply_alone.ensures ∙ ap told_alone c.missing_reply.ensures))
    (missing_outcome (swept m s) n (lose_sale n (swept m s)) (no_sale m s n (sym c.state_at.ensures ∙ c.in-None.is)))

pub returns-in-Some-Held : goal.returns-in-Some-Held
returns-in-Some-Held c =
    let m = c.args.moment in
    let n = c.args.sale in
    let s = c.args.self.now.state in
    subst (λ (o : Outcome). IsOutcome (at_sale (swept m s) n (lose_sale n (swept m s))) o) (sym c.reply_to.ensures)
    (lose_by m s n Held (sym c.state_at.ensures ∙ c.in-Some-Held.is ∙ ap Some c.in-Some-Held.field-0-is))

pub returns-in-Some-Billed : goal.returns-in-Some-Billed
returns-in-Some-Billed c =
    let m = c.args.moment in
    let n = c.args.sale in
    let s = c.args.self.now.state in
    subst (λ (o : Outcome). IsOutcome (at_sale (swept m s) n (lose_sale n (swept m s))) o) (sym c.reply_alone-in-Some-Billed.ensures)
    (lose_by m s n Billed (sym c.state_at.ensures ∙ c.in-Some-Billed.is ∙ ap Some c.in-Some-Billed.field-0-is))

pub returns-in-Some-Lost : goal.returns-in-Some-Lost
returns-in-Some-Lost c =
    let m = c.args.moment in
    let n = c.args.sale in
    let s = c.args.self.now.state in
    subst (λ (o : Outcome). IsOutcome (at_sale (swept m s) n (lose_sale n (swept m s))) o) (sym c.reply_alone-in-Some-Lost.ensures)
    (lose_by m s n Lost (sym c.state_at.ensures ∙ c.in-Some-Lost.is ∙ ap Some c.in-Some-Lost.field-0-is))

pub returns-in-Some-Expired : goal.returns-in-Some-Expired
returns-in-Some-Expired c =
    let m = c.args.moment in
    let n = c.args.sale in
    let s = c.args.self.now.state in
    subst (λ (o : Outcome). IsOutcome (at_sale (swept m s) n (lose_sale n (swept m s))) o) (sym c.reply_alone-in-Some-Expired.ensures)
    (lose_by m s n Expired (sym c.state_at.ensures ∙ c.in-Some-Expired.is ∙ ap Some c.in-Some-Expired.field-0-is))
