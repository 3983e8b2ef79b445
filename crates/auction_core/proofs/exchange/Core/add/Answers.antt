use Rattle.std.proofs.Common.{◌∙◌, ◌++◌, ◌∷◌, [], ap, sym, subst}
use Rattle.std.specs.Prelude.{IsTrue}
use Rattle.auction_core.specs.Core.{CoreState}
use Rattle.budget_book.specs.Sales.{none_gone}
use Rattle.campaign_store.specs.declared.record.Record.{Record}
use Rattle.campaign_store.specs.Table.{TableState}
use Rattle.plain_exchange.specs.Effects.{is_within_limits}
use Rattle.plain_exchange.specs.State.{with_campaigns}
use Rattle.plain_exchange.specs.Step.{new_campaign}
use Rattle.auction_core.proofs.Stating.{core_added, here, shown_core, shown_state}
use Rattle.auction_core.proofs.exchange.Core.add.Goals as goal

pub invariant_of-self : goal.invariant_of-self
invariant_of-self c =
    let i = c.self.inside in
    let e = c.args.entry in
    let s = here i.table.campaigns i.book.campaigns i.book.sales in
    let limits = subst (λ (v : CoreState). IsTrue (is_within_limits (with_campaigns v.state (new_campaign e.facts e.expr ∷ [])))) (sym c.self.view_is) c.requires.limits in
    let table = ap (λ (t : TableState). t.campaigns) c.add.ensures.value in
    let budget = c.budget.ensures.value ∙ ap (λ (r : Record). r.facts.budget) c.record.ensures in
    let book = c.add_campaign.ensures.campaigns ∙ ap (λ b. i.book.campaigns ++ (record { budget = b; gone = none_gone }) ∷ []) budget in
    shown_core c.add.new.self.campaigns c.add_campaign.new.self.campaigns c.add_campaign.new.self.sales (with_campaigns s (new_campaign e.facts e.expr ∷ [])) c.add_campaign.ensures.sales
    (core_added i.table.campaigns c.add.new.self.campaigns i.book.campaigns c.add_campaign.new.self.campaigns i.book.sales e c.self.invariant limits table book)

pub returns-clause-state : goal.returns-clause-state
returns-clause-state c =
    let i = c.self.inside in
    let e = c.args.entry in
    let s = here i.table.campaigns i.book.campaigns i.book.sales in
    let limits = subst (λ (v : CoreState). IsTrue (is_within_limits (with_campaigns v.state (new_campaign e.facts e.expr ∷ [])))) (sym c.self.view_is) c.requires.limits in
    let table = ap (λ (t : TableState). t.campaigns) c.add.ensures.value in
    let budget = c.budget.ensures.value ∙ ap (λ (r : Record). r.facts.budget) c.record.ensures in
    let book = c.add_campaign.ensures.campaigns ∙ ap (λ b. i.book.campaigns ++ (record { budget = b; gone = none_gone }) ∷ []) budget in
    shown_state c.add.new.self.campaigns c.add_campaign.new.self.campaigns c.add_campaign.new.self.sales (with_campaigns s (new_campaign e.facts e.expr ∷ [])) c.add_campaign.ensures.sales
    (core_added i.table.campaigns c.add.new.self.campaigns i.book.campaigns c.add_campaign.new.self.campaigns i.book.sales e c.self.invariant limits table book)
    ∙ ap (λ (v : CoreState). with_campaigns v.state (new_campaign e.facts e.expr ∷ [])) c.self.view_is
