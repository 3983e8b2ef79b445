use Rattle.std.proofs.Common.{◌<◌, ◌*◌, ◌∙◌, ap, arith, cond, length, refl, slice_index}
use Rattle.std.proofs.lemmas.List.{length-set, take_rest}
use Rattle.conj_match.specs.Tally.{is_hit}
use Rattle.conj_match.proofs.Words.{swept_ahead, swept_done, word_from}
use Rattle.conj_match.proofs.taking.sweep.Goals as goal

pub loop-place-init : goal.loop-place-init
loop-place-init c = record {
  len = refl;
  done = λ i h. absurd (omega arith);
  ahead = λ i h. refl;
}

pub loop-place-preserved : goal.loop-place-preserved
loop-place-preserved c =
    let h = c.loop-place.invariant in
    let marks = c.args.marks.now in
    let p = c.loop-place.place in
    let v = c.hits_in.result in
    let k = c.args.k in
    let within : p < length c.loop-place.hits = omega (arith, c.loop-place-test.true, h.len, c.requires.len) in
    let word = word_from marks k p v (λ i low. c.hits_in.ensures i low ∙ ap (λ l. cond (is_hit k (slice_index l i)) 1 0) (take_rest marks (64 * p))) in
    record {
      len = length-set c.loop-place.hits p _ ∙ h.len;
      done = swept_done marks c.args.hits.now c.loop-place.hits k p v within word h.done h.ahead;
      ahead = swept_ahead c.args.hits.now c.loop-place.hits p v h.ahead;
    }

pub returns-clause-hits : goal.returns-clause-hits
returns-clause-hits c = λ i h. c.loop-place.invariant.done i (omega (arith, h, c.loop-place-test.false, c.requires.len))
