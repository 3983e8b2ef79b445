use Rattle.std.proofs.Common.{◌+◌, ◌∙◌, refl, sym, take, arith}
use Rattle.conj_match.specs.Matching.{lists_at}
use Rattle.conj_match.specs.Tally.{all_in}
use Rattle.conj_match.proofs.Marks.{list_more, sum_more, taken_list, taken_none}
use Rattle.conj_match.proofs.taking.take_lists.Goals as goal

pub loop-place-init : goal.loop-place-init
loop-place-init g c = record {
  marks_len = refl;
  hits_len = refl;
  taken = taken_none c.args.k c.args.marks.now c.args.hits.now;
  cost = omega arith;
}

pub loop-place-preserved : goal.loop-place-preserved
loop-place-preserved g c =
    let h = c.loop-place.invariant in
    let i = c.loop-place.place-index in
    let es = c.index-lists-place.result in
    let front = lists_at c.args.lists.now (take i c.args.chosen.now) in
    let more = lists_at c.args.lists.now (take (i + 1) c.args.chosen.now) in
    let is = list_more c.args.lists.now c.args.chosen.now i es c.requires.within c.loop-place-test.true c.index-lists-place.is in
    record {
      marks_len = c.take_list.ensures.marks_len ∙ h.marks_len;
      hits_len = c.take_list.ensures.hits_len ∙ h.hits_len;
      taken = taken_list c.args.k c.args.marks.now c.args.hits.now c.take_list.new.marks c.take_list.new.hits front more es is (c.take_list.ensures.taken c.args.marks.now c.args.hits.now (all_in front) (sym h.marks_len) h.taken);
      cost = omega (arith, sum_more front more es is, c.take_list.ensures.cost, h.cost);
    }
