use Rattle.std.proofs.Common.{◌≡◌, ◌+◌, ◌∙◌, ◌++◌, ◌∷◌, [], length, true, ap, refl, sym, subst, arith}
use Rattle.std.specs.Prelude.{IsTrue, is_none}
use Rattle.auction_core.specs.Core.{CoreState}
use Rattle.campaign_store.specs.declared.record.Record.{Record}
use Rattle.campaign_store.specs.Table.{TableState}
use Rattle.plain_exchange.specs.Effects.{campaign_of, can_keep}
use Rattle.plain_exchange.specs.State.{with_campaigns}
use Rattle.plain_exchange.specs.Step.{new_campaign}
use Rattle.auction_core.proofs.Keeping.{can_keep_parts, core_kept, fits_book, kept_as, none_sold, same_limit}
use Rattle.auction_core.proofs.Stating.{here, limits_more, many_listed, shown_core, shown_state}
use Rattle.auction_core.proofs.exchange.Core.keep_live.Goals as goal

pub invariant_of-self : goal.invariant_of-self
invariant_of-self c =
    let i = c.self.inside in
    let e = c.args.entry in
    let g = c.args.gone in
    let s = here i.table.campaigns i.book.campaigns i.book.sales in
    let fits = subst (λ (v : CoreState). IsTrue (can_keep v.state (kept_as true e g))) (sym c.self.view_is) c.requires.fits in
    let table = ap (λ (t : TableState). t.campaigns) c.add.ensures.value in
    let budget = c.budget.ensures.value ∙ ap (λ (r : Record). r.facts.budget) c.record.ensures in
    let book = c.add_kept.ensures.campaigns ∙ ap (λ b. i.book.campaigns ++ (record { budget = b; gone = g }) ∷ []) budget in
    shown_core c.add.new.self.campaigns c.add_kept.new.self.campaigns c.add_kept.new.self.sales (with_campaigns s (campaign_of (kept_as true e g) ∷ [])) (c.add_kept.ensures.sales ∙ sym (none_sold s (kept_as true e g) fits))
    (core_kept i.table.campaigns c.add.new.self.campaigns i.book.campaigns c.add_kept.new.self.campaigns i.book.sales e g c.self.invariant fits table book)

pub returns-clause-state : goal.returns-clause-state
returns-clause-state c =
    let i = c.self.inside in
    let e = c.args.entry in
    let g = c.args.gone in
    let s = here i.table.campaigns i.book.campaigns i.book.sales in
    let fits = subst (λ (v : CoreState). IsTrue (can_keep v.state (kept_as true e g))) (sym c.self.view_is) c.requires.fits in
    let table = ap (λ (t : TableState). t.campaigns) c.add.ensures.value in
    let budget = c.budget.ensures.value ∙ ap (λ (r : Record). r.facts.budget) c.record.ensures in
    let book = c.add_kept.ensures.campaigns ∙ ap (λ b. i.book.campaigns ++ (record { budget = b; gone = g }) ∷ []) budget in
    shown_state c.add.new.self.campaigns c.add_kept.new.self.campaigns c.add_kept.new.self.sales (with_campaigns s (campaign_of (kept_as true e g) ∷ [])) (c.add_kept.ensures.sales ∙ sym (none_sold s (kept_as true e g) fits))
    (core_kept i.table.campaigns c.add.new.self.campaigns i.book.campaigns c.add_kept.new.self.campaigns i.book.sales e g c.self.invariant fits table book)
    ∙ ap (λ (v : CoreState). with_campaigns v.state (campaign_of (kept_as true e g) ∷ [])) c.self.view_is

pub add_kept-requires-clause-no_sales : goal.add_kept-requires-clause-no_sales
add_kept-requires-clause-no_sales c =
    let i = c.self.inside in
    let e = c.args.entry in
    let g = c.args.gone in
    let s = here i.table.campaigns i.book.campaigns i.book.sales in
    let fits = subst (λ (v : CoreState). IsTrue (can_keep v.state (kept_as true e g))) (sym c.self.view_is) c.requires.fits in
    none_sold s (kept_as true e g) fits

pub add_kept-requires-clause-spent : goal.add_kept-requires-clause-spent
add_kept-requires-clause-spent c =
    let i = c.self.inside in
    let e = c.args.entry in
    let g = c.args.gone in
    let s = here i.table.campaigns i.book.campaigns i.book.sales in
    let budget = c.budget.ensures.value ∙ ap (λ (r : Record). r.facts.budget) c.record.ensures in
    let fits = subst (λ (v : CoreState). IsTrue (can_keep v.state (kept_as true e g))) (sym c.self.view_is) c.requires.fits in
    omega (arith, budget, (can_keep_parts s (kept_as true e g) fits).covered)

pub add_kept-requires-clause-fits : goal.add_kept-requires-clause-fits
add_kept-requires-clause-fits c =
    let i = c.self.inside in
    let e = c.args.entry in
    let g = c.args.gone in
    let fits = subst (λ (v : CoreState). IsTrue (can_keep v.state (kept_as true e g))) (sym c.self.view_is) c.requires.fits in
    fits_book i.table.campaigns i.book.campaigns i.book.sales (kept_as true e g) c.self.invariant fits

pub add-requires-clause-room : goal.add-requires-clause-room
add-requires-clause-room c =
    let i = c.self.inside in
    let e = c.args.entry in
    let g = c.args.gone in
    let s = here i.table.campaigns i.book.campaigns i.book.sales in
    let fits = subst (λ (v : CoreState). IsTrue (can_keep v.state (kept_as true e g))) (sym c.self.view_is) c.requires.fits in
    let within = ap is_none (same_limit s (new_campaign e.facts e.expr) (campaign_of (kept_as true e g)) refl) ∙ (can_keep_parts s (kept_as true e g) fits).within in
    limits_more s e i.table.campaigns c.self.invariant.listing within

pub returns-clause-number : goal.returns-clause-number
returns-clause-number c =
    let i = c.self.inside in
    let s = here i.table.campaigns i.book.campaigns i.book.sales in
    let listed : length i.table.campaigns ≡ length s.campaigns = ap length c.self.invariant.listing ∙ many_listed s in
    c.add.ensures.number ∙ ap (λ k. k + 1) (listed ∙ ap (λ (v : CoreState). length v.state.campaigns) c.self.view_is)
