use Rattle.std.proofs.Common.{◌≡◌, ◌<◌, ◌+◌, ◌-◌, ◌/◌, ◌^◌, ℕ, ◌∙◌, sym, ap, arith, ◌++◌, append_assoc, append-nil, ◌∷◌, []}
use Rattle.std.proofs.Math.Nat.{mod-lt}
use Rattle.rtb_num.specs.Amounts.{fraction_digits}
use Rattle.rtb_num.proofs.Numbers.{pow_ten_pos}
use Rattle.rtb_num.proofs.Fractions.{digit_lt, digit_moved, no_more}
use Rattle.rtb_num.proofs.write_amounts.push_fraction.Goals as goal

digit_of : (k r u : ℕ) → 0 < r → r < 10 ^ k → u ≡ 10 ^ (k - 1) → r / u < 10
digit_of k r u h g e = rw e (digit_lt k r h g)

unit_pos : (k u : ℕ) → u ≡ 10 ^ k → 0 < u
unit_pos k u e = rw e (pow_ten_pos k)

pub nonzero_div-left : goal.nonzero_div-left
nonzero_div-left c = unit_pos _ _ c.pow-unit.ensures

pub nonzero_rem-left : goal.nonzero_rem-left
nonzero_rem-left c = unit_pos _ _ c.pow-unit.ensures

pub overflow_cast-left : goal.overflow_cast-left
overflow_cast-left c = let small = digit_of _ _ _ c.loop-left-test.true c.loop-left.invariant.below c.pow-unit.ensures in omega (arith, small)

pub overflow_add-left : goal.overflow_add-left
overflow_add-left c = let small = digit_of _ _ _ c.loop-left-test.true c.loop-left.invariant.below c.pow-unit.ensures in omega (arith, small)

pub loop-left-preserved : goal.loop-left-preserved
loop-left-preserved c =
    let (done, so_far) = c.loop-left.invariant.front in
    let pushed = c.in_ok-push.ensures.ok in
    record {
      few = omega arith;
      below = omega (arith, mod-lt c.loop-left.left (unit_pos _ _ c.pow-unit.ensures), c.pow-unit.ensures);
      rest = digit_moved _ _ _ _ _ _ c.loop-left-test.true c.loop-left.invariant.below c.pow-unit.ensures pushed c.loop-left.invariant.rest;
      front = (done ++ (48 + c.loop-left.left / c.pow-unit.result) ∷ [], pushed ∙ ap (λ s. s ++ (48 + c.loop-left.left / c.pow-unit.result) ∷ []) so_far ∙ append_assoc _ done _);
    }

pub returns-clause-ok : goal.returns-clause-ok
returns-clause-ok c =
    let out = c.loop-left.out in
    let none : c.loop-left.left ≡ 0 = omega arith in
    sym (append-nil out)
    ∙ ap (λ s. out ++ s) (sym (no_more c.loop-left.place))
    ∙ ap (λ r. out ++ fraction_digits c.loop-left.place r) (sym none)
    ∙ c.loop-left.invariant.rest
