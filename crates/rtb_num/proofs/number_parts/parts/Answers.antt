use Rattle.std.proofs.Common.{◌≡◌, ℕ, ◌+◌, ◌-◌, ◌^◌, ◌++◌, length, min, ◌∙◌, sym, ap, arith, inl, inr}
use Rattle.std.specs.List.{list_all, before_first, after_first}
use Rattle.rtb_num.specs.Amounts.{is_digit, is_point, digits_of, places_of}
use Rattle.rtb_num.specs.Numbers.{number_in, is_exponent_mark, without_minus, without_sign, decimal_part, exponent_part, up_by, down_by}
use Rattle.rtb_num.proofs.Points.{number_decimal, decimal_digits, exponent_digits, parts_short, unsigned_short, one_way}
use Rattle.rtb_num.proofs.number_parts.parts.Goals as goal

pub powers-up-requires : goal.powers-up-requires
powers-up-requires c =
    ap (λ s. list_all is_digit (without_sign s)) (c.split_at_exponent.ensures.exponent ∙ ap (after_first is_exponent_mark) c.without_minus.ensures)
    ∙ exponent_digits c.args.text.now c.requires

-- the sum stops at the greatest number, as its second part does
falls : (m a b d r : ℕ) → d ≡ min b m → r ≡ min (a + d) m → r ≡ min (a + b) m
falls m a b d r e f = omega arith

pub returns : goal.returns
unfolding number_in
returns c =
    let text = c.args.text.now in
    let whole = c.split_at_point.result.0.now in
    let fraction = c.split_at_point.result.1.now in
    let decimal : c.split_at_exponent.result.0.now ≡ decimal_part text = c.split_at_exponent.ensures.decimal ∙ ap (before_first is_exponent_mark) c.without_minus.ensures in
    let exponent : c.split_at_exponent.result.1.now ≡ exponent_part text = c.split_at_exponent.ensures.exponent ∙ ap (after_first is_exponent_mark) c.without_minus.ensures in
    let before : whole ≡ before_first is_point (decimal_part text) = c.split_at_point.ensures.whole ∙ ap (before_first is_point) decimal in
    let behind : fraction ≡ after_first is_point (decimal_part text) = c.split_at_point.ensures.fraction ∙ ap (after_first is_point) decimal in
    let digits : digits_of (decimal_part text) ≡ whole ++ fraction = sym (ap (λ s. s ++ fraction) before ∙ ap (λ s. before_first is_point (decimal_part text) ++ s) behind) in
    let places : length fraction ≡ places_of (decimal_part text) = ap length behind in
    record {
      sign = c.has_minus.ensures;
      digits = digits;
      are_digits = ap (list_all is_digit) (sym digits) ∙ decimal_digits (decimal_part text) (number_decimal text c.requires);
      short = omega (arith, ap length before, places, parts_short is_point (decimal_part text), parts_short is_exponent_mark (without_minus text), unsigned_short text);
      rises = c.powers-up.ensures.up ∙ ap (λ s. min (up_by s) (2 ^ 64 - 1)) exponent;
      falls = falls (2 ^ 64 - 1) (places_of (decimal_part text)) (down_by (exponent_part text)) c.powers-up.result.1 _ (c.powers-up.ensures.down ∙ ap (λ s. min (down_by s) (2 ^ 64 - 1)) exponent) (c.saturating_add.ensures ∙ ap (λ n. min (n + c.powers-up.result.1) (2 ^ 64 - 1)) places);
      plain = elim (one_way (exponent_part text)) [ inl none ↦ inl none | inr none ↦ inr (ap (λ n. places_of (decimal_part text) + n) none ∙ omega (arith, places)) ];
    }
