use Rattle.std.proofs.Common.{◌≡◌, ◌+◌, ◌*◌, ◌∙◌, ◌&&◌, ◌-◌, ℕ, take, get_or, true, arith, ap, sym, refl}
use Rattle.std.specs.List.{list_all}
use Rattle.std.proofs.lemmas.List.Folds.{list_all_more}
use Rattle.rtb_num.specs.Amounts.{is_digit, number_of}
use Rattle.rtb_num.proofs.Numbers.{number_none, number_push}
use Rattle.json_fields.proofs.Short.{at_most_eight, at_most_nine, digit_below}
use Rattle.json_fields.proofs.short_numbers.few_digits.Goals as goal

pub loop-c-init : goal.loop-c-init
loop-c-init c = record { value = sym number_none; digits = refl }

pub overflow_mul-number : goal.overflow_mul-number
overflow_mul-number c = omega (arith, c.loop-c.invariant.value, at_most_eight c.args.text.now c.loop-c.c-index c.loop-c.invariant.digits (omega arith))

pub overflow_add-number : goal.overflow_add-number
overflow_add-number c =
    let digit : is_digit (get_or c.args.text.now c.loop-c.c-index 0) ≡ true = sym c.is_ascii_digit.ensures.value ∙ c.if-not-is_ascii_digit.false in
    let few = at_most_eight c.args.text.now c.loop-c.c-index c.loop-c.invariant.digits (omega arith) in
    omega (arith, c.loop-c.invariant.value, few, digit_below (get_or c.args.text.now c.loop-c.c-index 0) digit, c.from.ensures)

pub loop-c-preserved : goal.loop-c-preserved
loop-c-preserved c =
    let i = c.loop-c.c-index in
    let digit : is_digit (get_or c.args.text.now i 0) ≡ true = sym c.is_ascii_digit.ensures.value ∙ c.if-not-is_ascii_digit.false in
    record {
      value = ap (λ n. n * 10 + c.from.result) c.loop-c.invariant.value ∙ ap (λ d. number_of (take i c.args.text.now) * 10 + d) c.from.ensures ∙ sym (number_push c.args.text.now i (omega arith));
      digits = list_all_more is_digit c.args.text.now i 0 (omega arith) ∙ ap (λ b. b && is_digit (get_or c.args.text.now i 0)) c.loop-c.invariant.digits ∙ digit;
    }

pub returns-clause-bound : goal.returns-clause-bound
returns-clause-bound c = omega (arith, c.loop-c.invariant.value, at_most_nine c.args.text.now c.loop-c.c-index c.loop-c.invariant.digits (omega arith))
