use Rattle.std.proofs.Common.{◌+◌, ◌∙◌, ◌-◌, ◌^◌, min, arith, ap, sym}
use Rattle.rtb_num.proofs.Numbers.{number_none, number_push}
use Rattle.rtb_num.proofs.Scaling.{saturated_step}
use Rattle.command_read.proofs.numbers.digits_value.Goals as goal

pub loop-c-init : goal.loop-c-init
loop-c-init c = ap (λ n. min n (2 ^ 128 - 1)) (sym number_none)

pub loop-c-preserved : goal.loop-c-preserved
loop-c-preserved c =
    saturated_step _ _ _ _ _ _ c.loop-c.invariant c.saturating_mul.ensures (c.saturating_add-number.ensures ∙ ap (λ d. min (c.saturating_mul.result + d) (2 ^ 128 - 1)) (c.from.ensures ∙ c.saturating_sub.ensures))
    ∙ ap (λ n. min n (2 ^ 128 - 1)) (sym (number_push c.args.digits.now c.loop-c.c-index (omega arith)))
