use Rattle.std.proofs.Common.{◌+◌, arith, refl, w64}
use Rattle.std.specs.Int.{trailing_zeros}
use Rattle.conj_match.proofs.Strikes.{word_all, word_more, word_none}
use Rattle.conj_match.proofs.Words.{cleared_less}
use Rattle.conj_match.proofs.marking.strike_word.Goals as goal

pub loop-rest-init : goal.loop-rest-init
loop-rest-init c = (0, word_none c.args.ids.now c.args.negated.now c.args.place c.args.marks.now _ refl)

pub loop-rest-smaller : goal.loop-rest-smaller
loop-rest-smaller c = cleared_less c.loop-rest.rest (trailing_zeros w64 c.loop-rest.rest) (omega (arith, c.loop-rest-test.true)) c.loop-rest.auto.rest-fits.fits refl

pub loop-rest-preserved : goal.loop-rest-preserved
loop-rest-preserved c =
    let (m, struck) = c.loop-rest.invariant in
    let t = trailing_zeros w64 c.loop-rest.rest in (
      t + 1,
      word_more c.args.ids.now c.args.negated.now c.args.place c.args.marks.now c.loop-rest.rest m c.loop-rest.marks c.strike_at.new.marks t (omega (arith, c.loop-rest-test.true)) c.loop-rest.auto.rest-fits.fits refl c.strike_at.ensures.len c.strike_at.ensures.there c.strike_at.ensures.past struck,
    )

pub returns-clause-len : goal.returns-clause-len
returns-clause-len c =
    let (m, struck) = c.loop-rest.invariant in
    struck.len

pub returns-clause-struck : goal.returns-clause-struck
returns-clause-struck c = λ first long before.
    let (m, struck) = c.loop-rest.invariant in
    word_all c.args.ids.now c.args.negated.now c.args.place c.args.marks.now c.loop-rest.rest m c.loop-rest.marks (omega (arith, c.loop-rest-test.false)) struck first long before
