use Rattle.std.proofs.Common.{◌+◌, take, arith}
use Rattle.conj_match.specs.Matching.{lists_at}
use Rattle.conj_match.proofs.Marks.{list_more}
use Rattle.conj_match.proofs.Shortest.{longest_more}
use Rattle.conj_match.proofs.lengths.longest_in.Goals as goal

pub loop-place-preserved : goal.loop-place-preserved
loop-place-preserved c =
    let i = c.loop-place.place-index in
    let es = c.index-lists-place.result in
    let front = lists_at c.args.lists.now (take i c.args.chosen.now) in
    let more = lists_at c.args.lists.now (take (i + 1) c.args.chosen.now) in
    let is = list_more c.args.lists.now c.args.chosen.now i es c.requires c.loop-place-test.true c.index-lists-place.is in
    omega (arith, longest_more front more es is, c.max-most.ensures, c.len.ensures.value, c.loop-place.invariant)
