use Rattle.std.proofs.Common.{◌≡◌, ℕ, ◌+◌, ◌<◌, ◌++◌, length, get_or, take, sym, ◌∙◌, ap, arith}
use Rattle.std.specs.List.{enumerate_from, filter_map}
use Rattle.std.specs.Option.{option_to_list}
use Rattle.std.proofs.lemmas.List.{take_all}
use Rattle.std.proofs.lemmas.List.FromFn.{get_or-enumerate_from, length-enumerate_from}
use Rattle.plain_exchange.specs.Auction.{Award}
use Rattle.plain_exchange.specs.State.{forgotten}
use Rattle.plain_exchange.specs.Step.{sold_as}
use Rattle.auction_core.proofs.Auctioning.{kept_further}
use Rattle.auction_core.proofs.exchange.Core.list_sales.Goals as goal

pub loop-place-preserved : goal.loop-place-preserved
loop-place-preserved c =
    let s = c.args.self.now.state in
    let r = c.args.request.now in
    let awards = c.args.awards.now in
    let first = forgotten s + length s.sales + 1 in
    let k = c.loop-place.place in
    let inside : k < length awards = omega arith in
    let inside2 : k < length (enumerate_from first awards) = omega (arith, length-enumerate_from first awards) in
    let a = c.index-awards-place.result in
    let x : ℕ × Award = (first + k, a) in
    let award : get_or awards k a ≡ a = sym c.index-awards-place.is in
    let item : get_or (enumerate_from first awards) k x ≡ x = get_or-enumerate_from first awards k x inside ∙ ap (λ y. (first + k, y)) award in
    let number : c.forgotten_count.result + c.sales.result + 1 + k ≡ first + k = omega (arith, c.forgotten_count.ensures.value, c.sales.ensures.value) in
    c.in_ok-push_sold.ensures
    ∙ ap (λ o. c.loop-place.all ++ option_to_list o) (c.in_ok-sold.ensures ∙ ap (λ n. sold_as s r (n, a)) number)
    ∙ ap (λ l. l ++ option_to_list (sold_as s r x)) c.loop-place.invariant
    ∙ sym (kept_further (sold_as s r) (enumerate_from first awards) k x inside2 item)

pub returns : goal.returns
returns c =
    let s = c.args.self.now.state in
    let all = enumerate_from (forgotten s + length s.sales + 1) c.args.awards.now in
    let whole : take c.loop-place.place all ≡ all = take_all c.loop-place.place all (omega (arith, length-enumerate_from (forgotten s + length s.sales + 1) c.args.awards.now)) in
    c.loop-place.invariant ∙ ap (filter_map (sold_as s c.args.request.now)) whole
