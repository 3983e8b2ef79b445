use Rattle.std.proofs.Common.{◌≡◌, ◌+◌, ◌<◌, ◌≤◌, ◌++◌, [], List, Option, length, get_or, take, sym, ◌∙◌, ap, arith, length-append, subst}
use Rattle.std.specs.Prelude.{fold, option_map}
use Rattle.std.specs.List.{enumerate_from}
use Rattle.std.specs.Option.{option_to_list}
use Rattle.std.proofs.lemmas.List.{take_all}
use Rattle.std.proofs.lemmas.List.FromFn.{get_or-enumerate_from, length-enumerate_from}
use Rattle.std.proofs.lemmas.List.Sums.{fold_more}
use Rattle.std.proofs.lemmas.Option.{get_or_from_slice_get}
use Rattle.clearing.specs.declared.Win.{Win}
use Rattle.auction_core.specs.Auctions.{beside}
use Rattle.auction_core.specs.Found.{may_be_sold}
use Rattle.plain_exchange.specs.Auction.{Award, award_next, win}
use Rattle.plain_exchange.specs.State.{swept}
use Rattle.auction_core.proofs.Auctioning.{one_at_most, some_there}
use Rattle.auction_core.proofs.Passing.{AreRefused, carried, carried_on}
use Rattle.auction_core.proofs.Touching.{cost_further, cost_whole}
use Rattle.auction_core.proofs.exchange.Core.awards_found.Goals as goal

pub loop-imp-init : goal.loop-imp-init
loop-imp-init g c = record { value = c.new-awards.ensures.items; few = omega (arith, ap length c.new-awards.ensures.items); refused = λ k cs e has. absurd (omega (arith, e)); cost = omega arith }

pub kept-refused-requires : goal.kept-refused-requires
kept-refused-requires g c =
    let inside : c.loop-imp.imp < length c.args.findings.now.asked.now.imps = omega (arith, ap length c.imps-imp-end.ensures) in
    subst (λ n. c.loop-imp.imp < n) (sym c.requires.may_sell.found_are.long) inside

pub win_found-requires-clause-refused : goal.win_found-requires-clause-refused
win_found-requires-clause-refused g c = λ cs has.
    let f = c.args.findings.now in
    let may = may_be_sold c.args.self.now f.touched.now f.asked.now c.args.moment c.as_slice.result.now in
    carried may f.candidates.now c.loop-imp.imp c.loop-imp.refused c.kept-refused.result cs c.kept-refused.ensures
    (subst (λ (ds : List Award). AreRefused (may_be_sold c.args.self.now f.touched.now f.asked.now c.args.moment ds) f.candidates.now c.loop-imp.imp c.loop-imp.refused) (sym c.as_slice.ensures.value) c.loop-imp.invariant.refused) has

pub loop-imp-preserved : goal.loop-imp-preserved
loop-imp-preserved g c =
    let f = c.args.findings.now in
    let core = c.args.self.now in
    let r = f.asked.now in
    let m = c.args.moment in
    let s = core.state in
    let next = award_next core.settings m r (swept m s) in
    let i = c.loop-imp.imp in
    let inside : i < length r.imps = omega (arith, ap length c.imps-imp-end.ensures) in
    let inside2 : i < length (enumerate_from 0 r.imps) = omega (arith, inside, length-enumerate_from 0 r.imps) in
    let (x, at) = some_there r.imps i inside in
    let (cs, has) = some_there f.candidates.now i (subst (λ n. i < n) (sym c.requires.may_sell.found_are.long) inside) in
    let won = c.in_ok-win.ensures.sale x at in
    let number : 0 + i ≡ i = omega arith in
    let item : get_or (enumerate_from 0 r.imps) i (0, x) ≡ (i, x) = get_or-enumerate_from 0 r.imps i (0, x) inside ∙ ap (λ n. (n, get_or r.imps i x)) number ∙ ap (λ y. (i, y)) (get_or_from_slice_get r.imps i x x at) in
    let more : Option Award = option_map (λ (w : Win). (i, w)) c.in_ok-win.win in
    let one : length (option_to_list more) ≤ 1 = one_at_most more in
    record {
      value = c.in_ok-push_award.ensures
          ∙ ap (λ w. c.loop-imp.awards.items ++ option_to_list (option_map (λ (v : Win). (i, v)) w)) (won ∙ ap (λ ds. win (beside core.settings m r s ds) r x m) c.as_slice.ensures.value)
          ∙ ap (λ ds. next ds (i, x)) c.loop-imp.invariant.value
          ∙ ap (λ p. next (fold next [] (take i (enumerate_from 0 r.imps))) p) (sym item)
          ∙ sym (fold_more next [] (enumerate_from 0 r.imps) i (0, x) inside2);
      few = omega (arith, one, ap length c.in_ok-push_award.ensures, length-append c.loop-imp.awards.items (option_to_list more), c.loop-imp.invariant.few);
      refused = carried_on core f.touched.now r m c.as_slice.result.now c.loop-imp.awards.items c.push_award.new.awards.items (option_to_list more) f.candidates.now i c.win_found.new.refused
          c.as_slice.ensures.value c.in_ok-push_award.ensures (λ cs has. c.win_found.ensures.refused cs has);
      cost = cost_further core f.touched.now r m f.candidates.now i x cs c.as_slice.result.now c.args.steps.now c.loop-imp.steps c.win_found.new.steps at has
          (c.as_slice.ensures.value ∙ c.loop-imp.invariant.value) (c.win_found.ensures.cost x cs at has) c.loop-imp.invariant.cost;
    }

pub returns-clause-value : goal.returns-clause-value
returns-clause-value g c =
    let r = c.args.findings.now.asked.now in
    let s = c.args.self.now.state in
    let whole : take c.loop-imp.imp (enumerate_from 0 r.imps) ≡ enumerate_from 0 r.imps = take_all c.loop-imp.imp (enumerate_from 0 r.imps) (omega (arith, ap length c.imps-imp-end.ensures, length-enumerate_from 0 r.imps)) in
    c.loop-imp.invariant.value ∙ ap (fold (award_next c.args.self.now.settings c.args.moment r (swept c.args.moment s)) []) whole

pub returns-clause-cost : goal.returns-clause-cost
returns-clause-cost g c =
    let f = c.args.findings.now in
    cost_whole c.args.self.now f.touched.now f.asked.now c.args.moment f.candidates.now c.loop-imp.imp c.args.steps.now c.loop-imp.steps c.loop-imp.invariant.cost

pub returns-in_err-win-clause-cost : goal.returns-in_err-win-clause-cost
returns-in_err-win-clause-cost g c =
    let f = c.args.findings.now in
    let core = c.args.self.now in
    let r = f.asked.now in
    let m = c.args.moment in
    let i = c.loop-imp.imp in
    let inside : i < length r.imps = omega (arith, ap length c.imps-imp-end.ensures) in
    let (x, at) = some_there r.imps i inside in
    let (cs, has) = some_there f.candidates.now i (subst (λ n. i < n) (sym c.requires.may_sell.found_are.long) inside) in
    cost_whole core f.touched.now r m f.candidates.now (i + 1) c.args.steps.now c.win_found.new.steps
    (cost_further core f.touched.now r m f.candidates.now i x cs c.as_slice.result.now c.args.steps.now c.loop-imp.steps c.win_found.new.steps at has
    (c.as_slice.ensures.value ∙ c.loop-imp.invariant.value) (c.win_found.ensures.cost x cs at has) c.loop-imp.invariant.cost)

pub returns-in_err-push_award-clause-cost : goal.returns-in_err-push_award-clause-cost
returns-in_err-push_award-clause-cost g c =
    let f = c.args.findings.now in
    let core = c.args.self.now in
    let r = f.asked.now in
    let m = c.args.moment in
    let i = c.loop-imp.imp in
    let inside : i < length r.imps = omega (arith, ap length c.imps-imp-end.ensures) in
    let (x, at) = some_there r.imps i inside in
    let (cs, has) = some_there f.candidates.now i (subst (λ n. i < n) (sym c.requires.may_sell.found_are.long) inside) in
    cost_whole core f.touched.now r m f.candidates.now (i + 1) c.args.steps.now c.win_found.new.steps
    (cost_further core f.touched.now r m f.candidates.now i x cs c.as_slice.result.now c.args.steps.now c.loop-imp.steps c.win_found.new.steps at has
    (c.as_slice.ensures.value ∙ c.loop-imp.invariant.value) (c.win_found.ensures.cost x cs at has) c.loop-imp.invariant.cost)
