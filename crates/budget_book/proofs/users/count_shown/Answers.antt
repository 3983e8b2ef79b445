use Rattle.std.proofs.Common.{◌≡◌, ℕ, ◌+◌, ◌-◌, ◌<◌, ◌≤◌, Bool, true, false, List, length, get_or, refl, sym, ◌∙◌, ap, arith, suc, take, [], None}
use Rattle.std.specs.Prelude.{count_by}
use mir.Val.{bool_byte}
use Rattle.std.proofs.lemmas.List.{get_or_default}
use Rattle.budget_book.specs.LastSales.{last_at, place_of}
use Rattle.budget_book.specs.Users.{places_of, last_below, AreChains}
use Rattle.budget_book.specs.declared.sales.SaleRow.{SaleRow}
use Rattle.budget_book.specs.declared.sales.SaleState.TheVariants.{Held}
use Rattle.budget_book.proofs.Chained.{chain_start, chain_step, counted_expired, is_counted, many_places, pick}
use Rattle.budget_book.proofs.users.count_shown.Goals as goal

byte : (b : Bool) → bool_byte b ≡ pick b 1 0
byte true = refl
byte false = refl

any : SaleRow
any = record { campaign = 0; state = Held; price = 0; moment = 0; due = 0; user = None }

-- one sale of the chain, from the invariant
step : (c : ℕ) (user : List ℕ) (seconds m : ℕ) (rows : List SaleRow) (links : List ℕ) (lasts : List ℕ) (f : ℕ) → AreChains f (places_of rows) links lasts → (n : ℕ) (d : SaleRow) → 0 < n
    → ((k : ℕ) × (k ≤ length rows) × (n ≡ last_below (place_of c user) (places_of rows) k))
    → (n - 1 < length rows) × (n - 1 < length links)
    × (count_by (is_counted c user seconds m) (take n rows) ≡ pick (is_counted c user seconds m (get_or rows (n - 1) d)) 1 0 + count_by (is_counted c user seconds m) (take (n - get_or links (n - 1) 0) rows))
    × (n - get_or links (n - 1) 0 ≡ last_below (place_of c user) (places_of rows) (n - 1)) × (n - get_or links (n - 1) 0 < n)
step c user seconds m rows links lasts f h n d past (k, l, at) =
    let is : n ≡ suc (n - 1) = omega arith in
    let (inside, counted, link, less) = chain_step c user seconds m rows links lasts f h n k (n - 1) d l at is in
    (inside, omega (arith, inside, h.linked, many_places c user seconds m rows links lasts f h), counted, link, omega (arith, less))

pub returns : goal.returns
returns c =
    let rows = c.args.rows.now.items in
    let none : take c.loop-nth.nth rows ≡ [] = ap (λ n. take n rows) (let e : c.loop-nth.nth ≡ 0 = omega arith in e) in
    let counted : c.loop-nth.count + 0 ≡ count_by (is_counted c.args.ask.now.campaign c.args.ask.now.user.now c.args.ask.now.seconds c.args.ask.now.moment) rows =
    ap (λ xs. c.loop-nth.count + count_by (is_counted c.args.ask.now.campaign c.args.ask.now.user.now c.args.ask.now.seconds c.args.ask.now.moment) xs) (sym none) ∙ c.loop-nth.invariant.counted in
    let last = counted_expired c.args.ask.now.campaign c.args.ask.now.user.now c.args.ask.now.seconds c.args.ask.now.moment rows in
    omega (arith, counted, last)

pub loop-nth-init : goal.loop-nth-init
loop-nth-init c =
    let a = c.args.ask.now in
    let last : c.saturating_sub-last.result ≡ last_at (place_of a.campaign a.user.now) c.args.lasts.now - c.args.forgotten =
    c.saturating_sub-last.ensures ∙ ap (λ n. n - c.args.forgotten) (c.get.ensures ∙ ap (λ b. last_at b c.args.lasts.now) c.place.ensures) in
    let (counted, at) = chain_start a.campaign a.user.now a.seconds a.moment c.args.rows.now.items c.args.links.now.items c.args.lasts.now c.args.forgotten c.requires.chains c.saturating_sub-last.result any last in
    record { counted = omega (arith, counted); at = (length c.args.rows.now.items, omega arith, at) }

pub loop-nth-preserved : goal.loop-nth-preserved
loop-nth-preserved c =
    let a = c.args.ask.now in
    let n = c.loop-nth.nth in
    let r = c.index.result.now in
    let rows = c.args.rows.now.items in
    let links = c.args.links.now.items in
    let (inside, inside2, counted, link, less) = step a.campaign a.user.now a.seconds a.moment rows links c.args.lasts.now c.args.forgotten c.requires.chains n r c.loop-nth-test.true c.loop-nth.invariant.at in
    let one = c.from-count.ensures ∙ byte c.counts.result ∙ ap (λ b. pick b 1 0) c.counts.ensures ∙ ap (λ (s : SaleRow). pick (is_counted a.campaign a.user.now a.seconds a.moment s) 1 0) c.index.ensures in
    let back : c.index-in-loop-nth.result.now ≡ get_or links (n - 1) 0 = c.index-in-loop-nth.ensures ∙ get_or_default links (n - 1) c.index-in-loop-nth.result.now 0 inside2 in
    let next : c.saturating_sub-nth.result ≡ n - get_or links (n - 1) 0 = c.saturating_sub-nth.ensures ∙ ap (λ d. n - d) back in
    let rest = ap (λ k. count_by (is_counted a.campaign a.user.now a.seconds a.moment) (take k rows)) next in
    record { counted = omega (arith, one, counted, rest, c.loop-nth.invariant.counted); at = (n - 1, omega (arith, inside), next ∙ link) }

pub loop-nth-smaller : goal.loop-nth-smaller
loop-nth-smaller c =
    let a = c.args.ask.now in
    let n = c.loop-nth.nth in
    let links = c.args.links.now.items in
    let (inside, inside2, counted, link, less) = step a.campaign a.user.now a.seconds a.moment c.args.rows.now.items links c.args.lasts.now c.args.forgotten c.requires.chains n any c.loop-nth-test.true c.loop-nth.invariant.at in
    let back : c.index-in-loop-nth.result.now ≡ get_or links (n - 1) 0 = c.index-in-loop-nth.ensures ∙ get_or_default links (n - 1) c.index-in-loop-nth.result.now 0 inside2 in
    let next : c.saturating_sub-nth.result ≡ n - get_or links (n - 1) 0 = c.saturating_sub-nth.ensures ∙ ap (λ d. n - d) back in
    omega (arith, next, less)

pub index-requires : goal.index-requires
index-requires c =
    let a = c.args.ask.now in
    let (inside, inside2, counted, link, less) = step a.campaign a.user.now a.seconds a.moment c.args.rows.now.items c.args.links.now.items c.args.lasts.now c.args.forgotten c.requires.chains c.loop-nth.nth any c.loop-nth-test.true c.loop-nth.invariant.at in
    omega (arith, inside)

pub index-requires-in-loop-nth : goal.index-requires-in-loop-nth
index-requires-in-loop-nth c =
    let a = c.args.ask.now in
    let (inside, inside2, counted, link, less) = step a.campaign a.user.now a.seconds a.moment c.args.rows.now.items c.args.links.now.items c.args.lasts.now c.args.forgotten c.requires.chains c.loop-nth.nth any c.loop-nth-test.true c.loop-nth.invariant.at in
    omega (arith, inside2)
