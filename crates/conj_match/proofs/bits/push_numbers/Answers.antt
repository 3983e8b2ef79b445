use Rattle.std.proofs.Common.{◌≡◌, ◌*◌, ◌+◌, arith, length, subst}
use Rattle.postings.specs.Packed.{is_marked}
use Rattle.conj_match.specs.Bits.{AreThose}
use Rattle.conj_match.proofs.Words.{those_none, word_is}
use Rattle.conj_match.proofs.bits.push_numbers.Goals as goal

pub loop-place-init : goal.loop-place-init
loop-place-init c = those_none (is_marked c.args.bits.now) c.args.numbers.now.items c.requires.none

pub loop-place-preserved : goal.loop-place-preserved
loop-place-preserved c =
    let bits = c.args.bits.now in
    let p = c.loop-place.place in
    let next : 64 * p + 64 ≡ 64 * (p + 1) = omega arith in
    subst (λ n. AreThose (is_marked bits) n c.push_word.new.numbers.items) next (c.in_ok-push_word.ensures bits (word_is bits p) c.loop-place.invariant)

pub returns : goal.returns
returns c =
    let bits = c.args.bits.now in
    let end : c.loop-place.place ≡ length bits = omega (arith, c.loop-place-test.false) in
    subst (λ n. AreThose (is_marked bits) (64 * n) c.loop-place.numbers.items) end c.loop-place.invariant
