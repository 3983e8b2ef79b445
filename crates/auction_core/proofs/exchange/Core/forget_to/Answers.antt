use Rattle.std.proofs.Common.{◌≡◌, ◌-◌, ◌≤◌, ◌&&◌, ◌∙◌, ap, sym, subst, arith, true, Some}
use Rattle.std.specs.Prelude.{nat_le, is_some}
use Rattle.std.proofs.lemmas.Bool.{leb-true}
use Rattle.auction_core.specs.Core.{CoreState}
use Rattle.budget_book.specs.Book.{forgotten_of}
use Rattle.budget_book.specs.Sales.{are_settled, most_forgotten}
use Rattle.plain_exchange.specs.Effects.{with_forgotten}
use Rattle.plain_exchange.specs.State.{State, forget_first, forgotten}
use Rattle.plain_exchange.proofs.Forgetting.{Bounds, first_kept, settled_bounds}
use Rattle.auction_core.proofs.Fitting.{fit, trimmed_fits}
use Rattle.auction_core.proofs.Stating.{core_of, first_book, first_table, forgotten_same, here, state_is}
use Rattle.auction_core.proofs.exchange.Core.forget_to.Goals as goal

pub forget_first-requires-clause-settled : goal.forget_first-requires-clause-settled
forget_first-requires-clause-settled c =
    let i = c.self.inside in
    let s = here i.table.campaigns i.book.campaigns i.book.sales in
    let n = c.args.forgotten in
    let fits : is_some (with_forgotten n s) ≡ true = subst (λ (v : CoreState). is_some (with_forgotten n v.state) ≡ true) (sym c.self.view_is) c.requires in
    let more : c.saturating_sub-more.result ≡ n - forgotten s = c.saturating_sub-more.ensures ∙ ap (λ f. n - f) (c.forgotten.ensures ∙ ap (λ (v : CoreState). forgotten v.state) (sym c.self.view_is)) in
    subst (λ d. are_settled d i.book.sales ≡ true) (sym more) (trimmed_fits n s fits).1

pub forget_first-requires-clause-few : goal.forget_first-requires-clause-few
forget_first-requires-clause-few c =
    let i = c.self.inside in
    let s = here i.table.campaigns i.book.campaigns i.book.sales in
    let n = c.args.forgotten in
    let fits : is_some (with_forgotten n s) ≡ true = subst (λ (v : CoreState). is_some (with_forgotten n v.state) ≡ true) (sym c.self.view_is) c.requires in
    let more : c.saturating_sub-more.result ≡ n - forgotten s = c.saturating_sub-more.ensures ∙ ap (λ f. n - f) (c.forgotten.ensures ∙ ap (λ (v : CoreState). forgotten v.state) (sym c.self.view_is)) in
    let low : n ≤ most_forgotten = leb-true n most_forgotten (trimmed_fits n s fits).0 in
    let same : forgotten_of i.book.campaigns ≡ forgotten s = ap forgotten_of c.self.invariant.funding ∙ forgotten_same s in
    omega (arith, more, low, same, c.self.invariant.consistent.few_forgotten)

pub invariant_of-self : goal.invariant_of-self
invariant_of-self c =
    let i = c.self.inside in
    let s = here i.table.campaigns i.book.campaigns i.book.sales in
    let n = c.args.forgotten in
    let d = c.saturating_sub-more.result in
    let fits : is_some (with_forgotten n s) ≡ true = subst (λ (v : CoreState). is_some (with_forgotten n v.state) ≡ true) (sym c.self.view_is) c.requires in
    let more : d ≡ n - forgotten s = c.saturating_sub-more.ensures ∙ ap (λ f. n - f) (c.forgotten.ensures ∙ ap (λ (v : CoreState). forgotten v.state) (sym c.self.view_is)) in
    let parts = trimmed_fits n s fits in
    let bounds : Bounds d s = subst (λ k. Bounds k s) (sym more) (settled_bounds n s parts.0 parts.1) in
    core_of i.table.campaigns c.forget_first.new.self.campaigns c.forget_first.new.self.sales (forget_first d s)
    (c.self.invariant.listing ∙ sym (first_table d s)) (c.forget_first.ensures.campaigns ∙ first_book d s i.book.campaigns c.self.invariant.funding) c.forget_first.ensures.sales
    (first_kept d s c.self.invariant.consistent bounds)

pub returns-clause-state : goal.returns-clause-state
returns-clause-state c =
    let i = c.self.inside in
    let s = here i.table.campaigns i.book.campaigns i.book.sales in
    let n = c.args.forgotten in
    let d = c.saturating_sub-more.result in
    let fits : is_some (with_forgotten n s) ≡ true = subst (λ (v : CoreState). is_some (with_forgotten n v.state) ≡ true) (sym c.self.view_is) c.requires in
    let more : d ≡ n - forgotten s = c.saturating_sub-more.ensures ∙ ap (λ f. n - f) (c.forgotten.ensures ∙ ap (λ (v : CoreState). forgotten v.state) (sym c.self.view_is)) in
    let parts = trimmed_fits n s fits in
    let new = state_is i.table.campaigns c.forget_first.new.self.campaigns c.forget_first.new.self.sales (forget_first d s)
    (c.self.invariant.listing ∙ sym (first_table d s)) (c.forget_first.ensures.campaigns ∙ first_book d s i.book.campaigns c.self.invariant.funding) c.forget_first.ensures.sales in
    let both : (nat_le n most_forgotten && are_settled (n - forgotten s) s.sales) ≡ true = ap (λ b. b && are_settled (n - forgotten s) s.sales) parts.0 ∙ parts.1 in
    ap (λ (v : CoreState). with_forgotten n v.state) (sym c.self.view_is)
    ∙ fit (nat_le n most_forgotten && are_settled (n - forgotten s) s.sales) (forget_first (n - forgotten s) s) both
    ∙ ap (λ k. Some (forget_first k s)) (sym more)
    ∙ ap (λ (t : State). Some t) (sym new)
