use Rattle.std.proofs.Common.{◌∙◌, refl, false, ap, sym, subst}
use Rattle.auction_core.specs.Core.{CoreState}
use Rattle.auction_core.specs.Putting.{IsAt, changed_at}
use Rattle.campaign_store.specs.Table.{TableState}
use Rattle.plain_exchange.specs.State.{Campaign, campaign_at, with_campaign}
use Rattle.plain_exchange.specs.Step.{with_live}
use Rattle.plain_exchange.proofs.Keeping.{there_is}
use Rattle.auction_core.proofs.Stating.{changed_is, core_live, here, shown_core, shown_state}
use Rattle.auction_core.proofs.exchange.Core.pause.Goals as goal

pub invariant_of-self : goal.invariant_of-self
invariant_of-self c =
    let i = c.self.inside in
    let s = here i.table.campaigns i.book.campaigns i.book.sales in
    let at = subst (λ (v : CoreState). IsAt v.state c.args.n (λ (d : Campaign). d.live)) (sym c.self.view_is) c.requires.live in
    let (d, there, test) = there_is (λ (d : Campaign). d.live) (campaign_at s c.args.n) at in
    shown_core c.pause.new.self.campaigns i.book.campaigns i.book.sales (with_campaign s c.args.n (with_live false d)) refl
    (core_live i.table.campaigns c.pause.new.self.campaigns i.book.campaigns i.book.sales c.args.n false d c.self.invariant there (ap (λ (t : TableState). t.campaigns) c.pause.ensures))

pub returns-clause-state : goal.returns-clause-state
returns-clause-state c =
    let i = c.self.inside in
    let s = here i.table.campaigns i.book.campaigns i.book.sales in
    let at = subst (λ (v : CoreState). IsAt v.state c.args.n (λ (d : Campaign). d.live)) (sym c.self.view_is) c.requires.live in
    let (d, there, test) = there_is (λ (d : Campaign). d.live) (campaign_at s c.args.n) at in
    shown_state c.pause.new.self.campaigns i.book.campaigns i.book.sales (with_campaign s c.args.n (with_live false d)) refl
    (core_live i.table.campaigns c.pause.new.self.campaigns i.book.campaigns i.book.sales c.args.n false d c.self.invariant there (ap (λ (t : TableState). t.campaigns) c.pause.ensures))
    ∙ sym (changed_is c.args.n (with_live false) s d there)
    ∙ ap (λ (v : CoreState). changed_at c.args.n (with_live false) v.state) c.self.view_is
