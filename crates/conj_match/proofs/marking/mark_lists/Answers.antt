use Rattle.std.proofs.Common.{◌+◌, ◌∙◌, take, arith}
use Rattle.postings.specs.Order.{IsRising}
use Rattle.conj_match.specs.Matching.{lists_at}
use Rattle.conj_match.specs.Tally.{all_in}
use Rattle.conj_match.proofs.Marks.{all_more, list_more, sum_more, tallied_list}
use Rattle.conj_match.proofs.marking.mark_lists.Goals as goal

pub loop-place-preserved : goal.loop-place-preserved
loop-place-preserved g c =
    let i = c.loop-place.place-index in
    let es = c.index-lists-place.result in
    let marks = c.mark_list.new.marks in
    let front = lists_at c.args.lists.now (take i c.args.chosen.now) in
    let more = lists_at c.args.lists.now (take (i + 1) c.args.chosen.now) in
    let is = list_more c.args.lists.now c.args.chosen.now i es c.requires c.loop-place-test.true c.index-lists-place.is in
    record {
      len = c.mark_list.ensures.len ∙ c.loop-place.invariant.len;
      rising = all_more IsRising front more es is c.loop-place.invariant.rising c.mark_list.ensures.rising;
      tallied = λ fresh. tallied_list marks front more es is (c.mark_list.ensures.marks (all_in front) (c.loop-place.invariant.tallied fresh));
      cost = omega (arith, sum_more front more es is, c.mark_list.ensures.cost, c.loop-place.invariant.cost);
    }
