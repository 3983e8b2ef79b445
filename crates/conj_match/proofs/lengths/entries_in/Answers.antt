use Rattle.std.proofs.Common.{◌<◌, ◌+◌, take, arith}
use Rattle.conj_match.specs.Matching.{lists_at}
use Rattle.conj_match.proofs.Marks.{list_more, sum_more}
use Rattle.conj_match.proofs.lengths.entries_in.Goals as goal

pub loop-place-preserved : goal.loop-place-preserved
loop-place-preserved c =
    let h = c.loop-place.invariant in
    let i = c.loop-place.place-index in
    let es = c.index-lists-place.result in
    let front = lists_at c.args.lists.now (take i c.args.chosen.now) in
    let more = lists_at c.args.lists.now (take (i + 1) c.args.chosen.now) in
    let is = list_more c.args.lists.now c.args.chosen.now i es c.requires c.loop-place-test.true c.index-lists-place.is in
    let len = c.len.ensures.value in
    let bound : c.len.result < 18446744073709551616 = c.len.type_inv in
    record {
      sum = omega (arith, sum_more front more es is, h.sum, len);
      small = omega (arith, h.small, bound);
    }
