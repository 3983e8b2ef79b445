use Rattle.std.proofs.Common.{◌+◌, ◌*◌, ◌∙◌, min, arith, ap, sym}
use Rattle.std.proofs.Math.Nat.{pow-zero}
use Rattle.rtb_num.proofs.Numbers.{number_none, number_push, pow_ten_more}
use Rattle.rtb_num.proofs.Scaling.{capped_step, digit_behind}
use Rattle.rtb_num.proofs.number_parts.read_on.Goals as goal

pub loop-c-init : goal.loop-c-init
loop-c-init c = omega (arith, number_none, pow-zero 10)

pub loop-c-preserved : goal.loop-c-preserved
loop-c-preserved c =
    let i = c.loop-c.c-index in
    capped_step _ _ _ _ _ (omega arith) c.loop-c.invariant (c.min-number.ensures ∙ ap (λ d. min (c.loop-c.number * 10 + d) 1000000000001) c.from.ensures)
    ∙ ap (λ n. min n 1000000000001) (sym (digit_behind c.args.start _ _ _ _ _ (pow_ten_more i) (number_push c.args.digits.now i (omega arith))))
