use Rattle.std.proofs.Common.{◌≡◌, ◌+◌, ◌<◌, ◌≤◌, ◌++◌, [], Option, Some, length, get_or, take, sym, ◌∙◌, ap, arith, length-append}
use Rattle.std.specs.Prelude.{fold, option_map, slice_get}
use Rattle.std.specs.List.{enumerate_from}
use Rattle.std.specs.Option.{option_to_list}
use Rattle.std.proofs.lemmas.List.{take_all}
use Rattle.std.proofs.lemmas.List.FromFn.{get_or-enumerate_from, length-enumerate_from}
use Rattle.std.proofs.lemmas.List.Sums.{fold_more}
use Rattle.std.proofs.lemmas.Option.{get_or_from_slice_get, slice_get-map}
use Rattle.clearing.specs.declared.Win.{Win}
use Rattle.auction_core.specs.Auctions.{beside}
use Rattle.auction_core.specs.Draft.{found_for}
use Rattle.plain_exchange.specs.Auction.{Award, award_next, win}
use Rattle.plain_exchange.specs.State.{swept}
use Rattle.auction_core.proofs.Auctioning.{one_at_most, some_there}
use Rattle.auction_core.proofs.exchange.Core.awards_asked.Goals as goal

pub loop-imp-preserved : goal.loop-imp-preserved
loop-imp-preserved c =
    let r = c.args.asked.now in
    let m = c.args.moment in
    let s = c.args.self.now.state in
    let next = award_next c.args.self.now.settings m r (swept m s) in
    let i = c.loop-imp.imp in
    let inside : i < length r.imps = omega (arith, ap length c.imps-imp-end.ensures) in
    let inside2 : i < length (enumerate_from 0 r.imps) = omega (arith, inside, length-enumerate_from 0 r.imps) in
    let (x, at) = some_there r.imps i inside in
    let won = c.in_ok-win.ensures x at in
    let number : 0 + i ≡ i = omega arith in
    let item : get_or (enumerate_from 0 r.imps) i (0, x) ≡ (i, x) = get_or-enumerate_from 0 r.imps i (0, x) inside ∙ ap (λ n. (n, get_or r.imps i x)) number ∙ ap (λ y. (i, y)) (get_or_from_slice_get r.imps i x x at) in
    let more : Option Award = option_map (λ (w : Win). (i, w)) c.in_ok-win.win in
    let one : length (option_to_list more) ≤ 1 = one_at_most more in
    record {
      value = c.in_ok-push_award.ensures
          ∙ ap (λ w. c.loop-imp.awards.items ++ option_to_list (option_map (λ (v : Win). (i, v)) w)) (won ∙ ap (λ ds. win (beside c.args.self.now.settings m r s ds) r x m) c.as_slice.ensures.value)
          ∙ ap (λ ds. next ds (i, x)) c.loop-imp.invariant.value
          ∙ ap (λ p. next (fold next [] (take i (enumerate_from 0 r.imps))) p) (sym item)
          ∙ sym (fold_more next [] (enumerate_from 0 r.imps) i (0, x) inside2);
      few = omega (arith, one, ap length c.in_ok-push_award.ensures, length-append c.loop-imp.awards.items (option_to_list more), c.loop-imp.invariant.few);
    }

pub returns-clause-value : goal.returns-clause-value
returns-clause-value c =
    let r = c.args.asked.now in
    let s = c.args.self.now.state in
    let whole : take c.loop-imp.imp (enumerate_from 0 r.imps) ≡ enumerate_from 0 r.imps = take_all c.loop-imp.imp (enumerate_from 0 r.imps) (omega (arith, ap length c.imps-imp-end.ensures, length-enumerate_from 0 r.imps)) in
    c.loop-imp.invariant.value ∙ ap (fold (award_next c.args.self.now.settings c.args.moment r (swept c.args.moment s)) []) whole

pub loop-imp-init : goal.loop-imp-init
loop-imp-init c = record { value = c.new-awards.ensures.items; few = omega (arith, ap length c.new-awards.ensures.items) }

pub win-requires-clause-found : goal.win-requires-clause-found
win-requires-clause-found c i at =
    let find = found_for c.args.self.now.state c.args.asked.now in
    let found : slice_get c.args.found.now c.loop-imp.imp ≡ Some (find i) = ap (λ l. slice_get l c.loop-imp.imp) c.requires.found ∙ slice_get-map find c.args.asked.now.imps c.loop-imp.imp ∙ ap (option_map find) at in
    c.index-found-imp.is ∙ get_or_from_slice_get c.args.found.now c.loop-imp.imp (find i) c.index-found-imp.result found
