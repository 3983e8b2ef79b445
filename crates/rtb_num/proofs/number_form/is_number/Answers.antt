use Rattle.std.proofs.Common.{◌≡◌, ◌+◌, ◌-◌, length, take, drop, ◌∙◌, sym, ap, arith, length-drop, position, ◌&&◌}
use Rattle.std.proofs.lemmas.List.{take_all}
use Rattle.rtb_num.specs.Amounts.{is_decimal}
use Rattle.rtb_num.specs.Numbers.{is_exponent, is_exponent_mark, without_minus}
use Rattle.rtb_num.proofs.Points.{number_none, number_some}
use Rattle.rtb_num.proofs.number_form.is_number.Goals as goal

pub returns-in-None : goal.returns-in-None
returns-in-None c =
    let unsigned = c.without_minus-unsigned.ensures in
    c.is_decimal.ensures ∙ ap is_decimal unsigned ∙ number_none c.args.text.now (ap (position is_exponent_mark) (sym unsigned) ∙ sym c.exponent_mark_of.ensures ∙ c.in-None.is)

pub returns-then-is_decimal : goal.returns-then-is_decimal
returns-then-is_decimal c =
    let at = c.in-Some.at in
    let text = c.without_minus-unsigned.result.now in
    let unsigned : text ≡ without_minus c.args.text.now = c.without_minus-unsigned.ensures in
    let rest : take (length text - (at + 1)) (drop (at + 1) text) ≡ drop (at + 1) text = take_all _ _ (omega (arith, length-drop (at + 1) text)) in
    c.is_exponent.ensures
    ∙ ap is_exponent rest
    ∙ ap (λ b. b && is_exponent (drop (at + 1) text)) (sym c.if-is_decimal.true ∙ c.is_decimal-in-Some.ensures)
    ∙ ap (λ t. is_decimal (take at t) && is_exponent (drop (at + 1) t)) unsigned
    ∙ number_some c.args.text.now at (ap (position is_exponent_mark) (sym unsigned) ∙ sym c.exponent_mark_of.ensures ∙ c.in-Some.is)
