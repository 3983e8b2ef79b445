use Rattle.std.proofs.Common.{◌≡◌, ℕ, suc, List, ◌+◌, ◌-◌, ◌<◌, ◌≤◌, ◌∷◌, false, drop, length, get_or, sym, ◌∙◌, ap, subst, arith}
use Rattle.std.proofs.Math.Seq.{drop-cons}
use Rattle.std.proofs.lemmas.List.{length-set}
use Rattle.budget_book.specs.declared.sales.SaleRow.{SaleRow}
use Rattle.budget_book.specs.Accounts.{AreAccounts, gone_more, with_gone}
use Rattle.budget_book.specs.Book.{AreKnown, NoneHeld, funds_of_all}
use Rattle.budget_book.specs.Sales.{is_held}
use Rattle.budget_book.proofs.Oldest.{all_gone, campaigns_more, forgotten_more, gone_bound}
use Rattle.budget_book.proofs.forgetting.add_gone.Goals as goal

-- the campaign of the sale at the place, which is there
known_at : (n : ℕ) (rows : List SaleRow) (i : ℕ) (r : SaleRow) → i < length rows → r ≡ get_or rows i r → AreKnown n rows → (0 < r.campaign) × (r.campaign ≤ n)
known_at n rows i r l is h = subst (λ (s : SaleRow). (0 < s.campaign) × (s.campaign ≤ n)) (sym is) (h i r l)

settled_at : (n : ℕ) (rows : List SaleRow) (i : ℕ) (r : SaleRow) → i < n → i < length rows → r ≡ get_or rows i r → NoneHeld n rows → is_held r.state ≡ false
settled_at n rows i r low l is h = ap (λ (s : SaleRow). is_held s.state) is ∙ h i r low l

first_of : (rows : List SaleRow) (i : ℕ) (r : SaleRow) → i < length rows → r ≡ get_or rows i r → drop i rows ≡ r ∷ drop (i + 1) rows
first_of rows i r l is = let e : suc i ≡ i + 1 = omega arith in drop-cons rows i r l ∙ ap (λ s. s ∷ drop (suc i) rows) (sym is) ∙ ap (λ n. r ∷ drop n rows) e

pub forget-requires-clause-billed : goal.forget-requires-clause-billed
forget-requires-clause-billed c =
    let r = c.index-row.result.now in
    let known = known_at (length c.args.accounts.now) c.args.rows.now.items c.loop-place.place r (omega (arith, c.loop-place-test.true, c.requires.count)) c.index-row.ensures c.requires.known in
    let bound = gone_bound c.loop-place.accounts (r.campaign - 1) c.index-accounts-row.result (omega (arith, known, c.loop-place.invariant.many)) in
    omega (arith, bound, c.loop-place.invariant.counted, c.requires.gone, c.requires.few, c.requires.count, c.loop-place-test.true)

pub forget-requires-clause-lost : goal.forget-requires-clause-lost
forget-requires-clause-lost c =
    let r = c.index-row.result.now in
    let known = known_at (length c.args.accounts.now) c.args.rows.now.items c.loop-place.place r (omega (arith, c.loop-place-test.true, c.requires.count)) c.index-row.ensures c.requires.known in
    let bound = gone_bound c.loop-place.accounts (r.campaign - 1) c.index-accounts-row.result (omega (arith, known, c.loop-place.invariant.many)) in
    omega (arith, bound, c.loop-place.invariant.counted, c.requires.gone, c.requires.few, c.requires.count, c.loop-place-test.true)

pub forget-requires-clause-expired : goal.forget-requires-clause-expired
forget-requires-clause-expired c =
    let r = c.index-row.result.now in
    let known = known_at (length c.args.accounts.now) c.args.rows.now.items c.loop-place.place r (omega (arith, c.loop-place-test.true, c.requires.count)) c.index-row.ensures c.requires.known in
    let bound = gone_bound c.loop-place.accounts (r.campaign - 1) c.index-accounts-row.result (omega (arith, known, c.loop-place.invariant.many)) in
    omega (arith, bound, c.loop-place.invariant.counted, c.requires.gone, c.requires.few, c.requires.count, c.loop-place-test.true)

pub loop-place-preserved : goal.loop-place-preserved
loop-place-preserved c =
    let r = c.index-row.result.now in
    let rows = c.args.rows.now.items in
    let accounts = c.loop-place.accounts in
    let place = c.loop-place.place in
    let k = r.campaign - 1 in
    let e = c.index-accounts-row.result in
    let b = c.forget.new.self in
    let inside : place < length rows = omega (arith, c.loop-place-test.true, c.requires.count) in
    let known = known_at (length c.args.accounts.now) rows place r inside c.index-row.ensures c.requires.known in
    let there : k < length accounts = omega (arith, known, c.loop-place.invariant.many) in
    let number : r.campaign ≡ k + 1 = omega (arith, known) in
    let out = settled_at c.args.count rows place r c.loop-place-test.true inside c.index-row.ensures c.requires.settled in
    let is : b ≡ with_gone (gone_more r.state r.price (get_or accounts k e).gone) (get_or accounts k e) =
    c.forget.ensures ∙ ap (λ p. with_gone (gone_more r.state p (get_or accounts k e).gone) (get_or accounts k e)) c.get.ensures.value in
    let first = subst (λ xs. AreAccounts xs accounts) (first_of rows place r inside c.index-row.ensures) c.loop-place.invariant.summed in
    record {
      many = length-set accounts k b ∙ c.loop-place.invariant.many;
      summed = all_gone accounts (drop (place + 1) rows) k r b e first number there out is;
      counted = omega (arith, forgotten_more accounts k r b e there out is, c.loop-place.invariant.counted);
      campaigns = campaigns_more (funds_of_all c.args.accounts.now) accounts rows place k r b e inside (sym c.index-row.ensures) number there out is c.loop-place.invariant.campaigns;
    }
