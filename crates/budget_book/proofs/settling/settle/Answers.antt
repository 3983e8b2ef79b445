use Rattle.std.proofs.Common.{◌≡◌, ℕ, List, ◌+◌, ◌-◌, ◌<◌, ◌≤◌, length, get_or, sym, ◌∙◌, ap, subst, arith}
use Rattle.budget_book.specs.declared.sales.SaleRow.{SaleRow}
use Rattle.budget_book.specs.declared.sales.SaleState.TheVariants.{Held}
use Rattle.budget_book.specs.Accounts.{settled}
use Rattle.budget_book.specs.Book.{AreKnown, funds_of}
use Rattle.budget_book.proofs.Moving.{all_moved, counts_fit, same_campaigns, settled_purse}
use Rattle.budget_book.proofs.settling.settle.Goals as goal

-- the campaign of the sale at the place
known_at : (n : ℕ) (rows : List SaleRow) (i : ℕ) (r : SaleRow) → i < length rows → r ≡ get_or rows i r → AreKnown n rows → (0 < r.campaign) × (r.campaign ≤ n)
known_at n rows i r l is h = subst (λ (s : SaleRow). (0 < s.campaign) × (s.campaign ≤ n)) (sym is) (h i r l)

pub returns-clause-summed : goal.returns-clause-summed
returns-clause-summed c =
    let r = c.index_mut-sale.result.now in
    let rows = c.args.rows.now.items in
    let at : get_or rows c.args.place r ≡ r = sym c.index_mut-sale.ensures.value in
    let known = known_at (length c.args.accounts.now) rows c.args.place r c.requires.place c.index_mut-sale.ensures.value c.requires.known in
    let held : r.state ≡ Held = ap (λ (s : SaleRow). s.state) c.index_mut-sale.ensures.value ∙ c.requires.held r in
    let number : r.campaign ≡ (r.campaign - 1) + 1 = omega (arith, known) in
    let e = c.index-accounts-sale.result in
    all_moved rows c.args.accounts.now c.args.place (r.campaign - 1) r c.args.state c.settle.new.self e c.requires.summed c.requires.place at held number (omega (arith, known))
    (c.settle.ensures ∙ ap (λ n. settled c.args.state n (get_or c.args.accounts.now (r.campaign - 1) e)) c.get-price.ensures.value)

pub returns-clause-campaigns : goal.returns-clause-campaigns
returns-clause-campaigns c =
    let r = c.index_mut-sale.result.now in
    let known = known_at (length c.args.accounts.now) c.args.rows.now.items c.args.place r c.requires.place c.index_mut-sale.ensures.value c.requires.known in
    let e = c.index-accounts-sale.result in
    same_campaigns c.args.accounts.now (r.campaign - 1) c.settle.new.self e (omega (arith, known))
    (ap funds_of c.settle.ensures ∙ settled_purse c.args.state c.get-price.result (get_or c.args.accounts.now (r.campaign - 1) e))

pub settle-requires-clause-billed : goal.settle-requires-clause-billed
settle-requires-clause-billed c =
    let r = c.index_mut-sale.result.now in
    let known = known_at (length c.args.accounts.now) c.args.rows.now.items c.args.place r c.requires.place c.index_mut-sale.ensures.value c.requires.known in
    (counts_fit c.args.rows.now.items c.args.accounts.now (r.campaign - 1) c.index-accounts-sale.result (omega (arith, known)) c.requires.few c.requires.summed c.requires.gone).0

pub settle-requires-clause-lost : goal.settle-requires-clause-lost
settle-requires-clause-lost c =
    let r = c.index_mut-sale.result.now in
    let known = known_at (length c.args.accounts.now) c.args.rows.now.items c.args.place r c.requires.place c.index_mut-sale.ensures.value c.requires.known in
    (counts_fit c.args.rows.now.items c.args.accounts.now (r.campaign - 1) c.index-accounts-sale.result (omega (arith, known)) c.requires.few c.requires.summed c.requires.gone).1

pub settle-requires-clause-expired : goal.settle-requires-clause-expired
settle-requires-clause-expired c =
    let r = c.index_mut-sale.result.now in
    let known = known_at (length c.args.accounts.now) c.args.rows.now.items c.args.place r c.requires.place c.index_mut-sale.ensures.value c.requires.known in
    (counts_fit c.args.rows.now.items c.args.accounts.now (r.campaign - 1) c.index-accounts-sale.result (omega (arith, known)) c.requires.few c.requires.summed c.requires.gone).2
