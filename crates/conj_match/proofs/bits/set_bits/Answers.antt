use Rattle.std.proofs.Common.{◌==◌, ◌∙◌, get_or, refl, subst, take_all}
use Rattle.std.specs.List.{list_any}
use Rattle.conj_match.specs.Bits.{AreSet}
use Rattle.conj_match.proofs.Words.{set_more}
use Rattle.conj_match.proofs.bits.set_bits.Goals as goal

pub loop-number-preserved : goal.loop-number-preserved
loop-number-preserved c =
    let h = c.loop-number.invariant in
    let i = c.loop-number.number-index in
    record {
      len = c.set_bit.ensures.len ∙ h.len;
      set = set_more c.args.numbers.now i (get_or c.args.numbers.now i 0) c.args.bits.now c.loop-number.bits c.set_bit.new.bits c.loop-number-test.true refl h.len h.set c.set_bit.ensures.set;
    }

pub returns-clause-set : goal.returns-clause-set
returns-clause-set c =
    subst (λ l. AreSet (λ i. list_any (λ n. i == n) l) c.args.bits.now c.loop-number.bits) (take_all c.loop-number.number-index c.args.numbers.now c.loop-number-test.false) c.loop-number.invariant.set
