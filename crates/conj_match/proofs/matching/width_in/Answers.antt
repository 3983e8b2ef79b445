use Rattle.std.proofs.Common.{◌≤◌, ◌+◌, take, arith}
use Rattle.conj_match.specs.Matching.{lists_at}
use Rattle.conj_match.specs.Tally.{IsBelow}
use Rattle.conj_match.proofs.Marks.{all_more, below_more, entries_below_more, list_more, sum_more}
use Rattle.conj_match.proofs.matching.width_in.Goals as goal

pub loop-place-preserved : goal.loop-place-preserved
loop-place-preserved g c =
    let i = c.loop-place.place-index in
    let es = c.index-lists-place.result in
    let front = lists_at c.args.lists.now (take i c.args.chosen.now) in
    let more = lists_at c.args.lists.now (take (i + 1) c.args.chosen.now) in
    let is = list_more c.args.lists.now c.args.chosen.now i es c.requires c.loop-place-test.true c.index-lists-place.is in
    let width = c.max-width.result in
    let before : c.loop-place.width ≤ width = omega (arith, c.max-width.ensures) in
    let here : c.width_of.result ≤ width = omega (arith, c.max-width.ensures) in
    record {
      below = all_more (IsBelow width) front more es is (below_more c.loop-place.width width before front c.loop-place.invariant.below) (entries_below_more c.width_of.result width here es c.width_of.ensures.width);
      short = omega (arith, c.max-width.ensures, c.width_of.ensures.short, c.loop-place.invariant.short);
      cost = omega (arith, c.width_of.ensures.cost, c.loop-place.invariant.cost);
      few = omega (arith, sum_more front more es is, c.width_of.ensures.few, c.loop-place.invariant.few);
    }
