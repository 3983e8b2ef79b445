use Rattle.std.proofs.Common.{◌∙◌, ◌≤◌, ap, sym, subst}
use Rattle.std.specs.Prelude.{nat_le}
use Rattle.std.proofs.lemmas.Bool.{and_parts, leb-true}
use Rattle.auction_core.specs.Core.{CoreState, funds_for}
use Rattle.auction_core.specs.Putting.{IsAt, can_change, changed_at}
use Rattle.campaign_store.specs.declared.record.Record.{Record}
use Rattle.campaign_store.specs.Table.{TableState}
use Rattle.plain_exchange.specs.Effects.{is_within_limits}
use Rattle.plain_exchange.specs.State.{campaign_at, committed, with_campaign}
use Rattle.plain_exchange.specs.Step.{with_record}
use Rattle.plain_exchange.proofs.Keeping.{there_is}
use Rattle.auction_core.proofs.Stating.{changed_is, core_changed, covered, here, limits_changed, shown_core, shown_state, there_in_book, there_in_table}
use Rattle.auction_core.proofs.exchange.Core.change.Goals as goal

pub set_budget-requires-clause-there : goal.set_budget-requires-clause-there
set_budget-requires-clause-there c =
    let i = c.self.inside in
    let s = here i.table.campaigns i.book.campaigns i.book.sales in
    let at = subst (λ (v : CoreState). IsAt v.state c.args.n (can_change v.state c.args.n c.args.entry)) (sym c.self.view_is) c.requires.fits in
    let (d, there, test) = there_is (can_change s c.args.n c.args.entry) (campaign_at s c.args.n) at in
    there_in_book i.table.campaigns i.book.campaigns i.book.sales c.args.n d c.self.invariant there

pub set_budget-requires-clause-covers : goal.set_budget-requires-clause-covers
set_budget-requires-clause-covers c = λ p.
    let i = c.self.inside in
    let e = c.args.entry in
    let s = here i.table.campaigns i.book.campaigns i.book.sales in
    let at = subst (λ (v : CoreState). IsAt v.state c.args.n (can_change v.state c.args.n e)) (sym c.self.view_is) c.requires.fits in
    let (d, there, test) = there_is (can_change s c.args.n e) (campaign_at s c.args.n) at in
    let parts = and_parts (nat_le (committed s c.args.n d) e.facts.budget) (is_within_limits (with_campaign s c.args.n (with_record e.facts e.expr d))) test in
    let budget = c.budget.ensures.value ∙ ap (λ (r : Record). r.facts.budget) c.record.ensures in
    covered i.table.campaigns i.book.campaigns i.book.sales c.args.n c.budget.result d p c.self.invariant there (subst (λ b. committed s c.args.n d ≤ b) (sym budget) (leb-true (committed s c.args.n d) e.facts.budget parts.0))

pub change-requires-clause-there : goal.change-requires-clause-there
change-requires-clause-there c =
    let i = c.self.inside in
    let s = here i.table.campaigns i.book.campaigns i.book.sales in
    let at = subst (λ (v : CoreState). IsAt v.state c.args.n (can_change v.state c.args.n c.args.entry)) (sym c.self.view_is) c.requires.fits in
    let (d, there, test) = there_is (can_change s c.args.n c.args.entry) (campaign_at s c.args.n) at in
    there_in_table i.table.campaigns i.book.campaigns i.book.sales c.args.n d c.self.invariant there

pub change-requires-clause-room : goal.change-requires-clause-room
change-requires-clause-room c =
    let i = c.self.inside in
    let e = c.args.entry in
    let s = here i.table.campaigns i.book.campaigns i.book.sales in
    let at = subst (λ (v : CoreState). IsAt v.state c.args.n (can_change v.state c.args.n e)) (sym c.self.view_is) c.requires.fits in
    let (d, there, test) = there_is (can_change s c.args.n e) (campaign_at s c.args.n) at in
    let parts = and_parts (nat_le (committed s c.args.n d) e.facts.budget) (is_within_limits (with_campaign s c.args.n (with_record e.facts e.expr d))) test in
    limits_changed s c.args.n d e i.table.campaigns c.self.invariant.listing parts.1

pub invariant_of-self : goal.invariant_of-self
invariant_of-self c =
    let i = c.self.inside in
    let e = c.args.entry in
    let s = here i.table.campaigns i.book.campaigns i.book.sales in
    let at = subst (λ (v : CoreState). IsAt v.state c.args.n (can_change v.state c.args.n e)) (sym c.self.view_is) c.requires.fits in
    let (d, there, test) = there_is (can_change s c.args.n e) (campaign_at s c.args.n) at in
    let budget = c.budget.ensures.value ∙ ap (λ (r : Record). r.facts.budget) c.record.ensures in
    shown_core c.change.new.self.campaigns c.set_budget.new.book.campaigns c.set_budget.new.book.sales (with_campaign s c.args.n (with_record e.facts e.expr d)) c.set_budget.ensures.sales
    (core_changed i.table.campaigns c.change.new.self.campaigns i.book.campaigns c.set_budget.new.book.campaigns i.book.sales c.args.n e c.budget.result d c.self.invariant there test
    (ap (λ (t : TableState). t.campaigns) c.change.ensures) (sym budget) (c.set_budget.ensures.campaigns (funds_for d)))

pub returns-clause-state : goal.returns-clause-state
returns-clause-state c =
    let i = c.self.inside in
    let e = c.args.entry in
    let s = here i.table.campaigns i.book.campaigns i.book.sales in
    let at = subst (λ (v : CoreState). IsAt v.state c.args.n (can_change v.state c.args.n e)) (sym c.self.view_is) c.requires.fits in
    let (d, there, test) = there_is (can_change s c.args.n e) (campaign_at s c.args.n) at in
    let budget = c.budget.ensures.value ∙ ap (λ (r : Record). r.facts.budget) c.record.ensures in
    shown_state c.change.new.self.campaigns c.set_budget.new.book.campaigns c.set_budget.new.book.sales (with_campaign s c.args.n (with_record e.facts e.expr d)) c.set_budget.ensures.sales
    (core_changed i.table.campaigns c.change.new.self.campaigns i.book.campaigns c.set_budget.new.book.campaigns i.book.sales c.args.n e c.budget.result d c.self.invariant there test
    (ap (λ (t : TableState). t.campaigns) c.change.ensures) (sym budget) (c.set_budget.ensures.campaigns (funds_for d)))
    ∙ sym (changed_is c.args.n (with_record e.facts e.expr) s d there)
    ∙ ap (λ (v : CoreState). changed_at c.args.n (with_record e.facts e.expr) v.state) c.self.view_is
