use Rattle.std.proofs.Common.{◌+◌, ◌*◌, ◌∙◌, arith, refl, sym}
use Rattle.conj_match.proofs.Strikes.{struck_end}
use Rattle.conj_match.proofs.marking.strike_all.Goals as goal

pub loop-place-init : goal.loop-place-init
loop-place-init c = record {
  len = refl;
  struck = λ i h. refl;
}

pub loop-place-preserved : goal.loop-place-preserved
loop-place-preserved c =
    let h = c.loop-place.invariant in
    record {
      len = c.strike_word.ensures.len ∙ h.len;
      struck = c.strike_word.ensures.struck c.args.marks.now (sym h.len) h.struck;
    }

pub returns-clause-struck : goal.returns-clause-struck
returns-clause-struck c = struck_end c.args.marks.now c.args.ids.now c.args.negated.now c.loop-place.marks (64 * c.loop-place.place) (omega (arith, c.loop-place-test.false)) c.loop-place.invariant.struck
