use Rattle.std.proofs.Common.{◌+◌, ◌*◌, ◌%◌, ◌^◌, arith, bit_and, refl, subst, sym, w64}
use Rattle.std.specs.Int.{bit_not, trailing_zeros}
use Rattle.conj_match.proofs.Words.{ArePushed, cleared_less, pushed_all, pushed_more, pushed_none}
use Rattle.conj_match.proofs.bits.push_bits.Goals as goal

pub loop-rest-init : goal.loop-rest-init
loop-rest-init c = (0, pushed_none c.args.word c.args.base c.args.numbers.now.items)

pub loop-rest-smaller : goal.loop-rest-smaller
loop-rest-smaller c = cleared_less c.loop-rest.rest (trailing_zeros w64 c.loop-rest.rest) (omega (arith, c.loop-rest-test.true)) c.loop-rest.auto.rest-fits.fits refl

pub loop-rest-preserved : goal.loop-rest-preserved
loop-rest-preserved c =
    let (m, pushed) = c.loop-rest.invariant in
    let t = trailing_zeros w64 c.loop-rest.rest in (
      t + 1,
      subst (λ l. ArePushed c.args.word c.args.base c.args.numbers.now.items (bit_and c.loop-rest.rest (bit_not w64 (1 * 2 ^ t % 18446744073709551616))) (t + 1) l) (sym c.in_ok-push.ensures.items)
          (pushed_more c.args.word c.args.base c.args.numbers.now.items c.loop-rest.rest m c.loop-rest.numbers.items t (omega (arith, c.loop-rest-test.true)) c.loop-rest.auto.rest-fits.fits refl pushed),
    )

pub returns : goal.returns
returns c = λ bits word_is those.
    let (m, pushed) = c.loop-rest.invariant in
    pushed_all c.args.word c.args.base c.args.numbers.now.items c.loop-rest.rest m c.loop-rest.numbers.items (omega (arith, c.loop-rest-test.false)) pushed bits word_is those
