use Rattle.std.proofs.Common.{◌≡◌, ◌∙◌, ap, not, ◌&&◌, ◌||◌}
use Rattle.std.specs.Prelude.{nat_lt}
use Rattle.rtb_num.specs.Numbers.{number_in}
use Rattle.rtb_num.specs.Parts.{units_of, is_finer}
use Rattle.rtb_num.proofs.Scaled.{sign_is, units_are, finer_is, read_is, rest_is, IsRead, IsSplit}
use Rattle.rtb_num.proofs.number_parts.scale.Goals as goal

split : (c : goal.After-new) → IsSplit c.args.places c.parts-number.result.whole.now c.parts-number.result.fraction.now c.parts-number.result.up c.parts-number.result.down
    c.saturating_add-up.result c.saturating_sub-zeros.result c.saturating_sub-behind.result c.saturating_sub-before.result c.min.result
    c.split_at.result.0.now c.split_at-2.result.0.now c.split_at.result.1.now c.split_at-2.result.1.now
split c = record {
  few = c.requires.few;
  power = c.saturating_add-up.ensures;
  added_are = c.saturating_sub-zeros.ensures;
  behind_are = c.saturating_sub-behind.ensures;
  before_are = c.saturating_sub-before.ensures;
  at = c.min.ensures;
  whole_front = c.split_at.ensures.front;
  whole_back = c.split_at.ensures.back;
  fraction_front = c.split_at-2.ensures.front;
  fraction_back = c.split_at-2.ensures.back;
}

read : (c : goal.After-new) → IsRead (number_in c.args.text.now) c.args.places c.parts-number.result.whole.now c.parts-number.result.fraction.now
    c.split_at.result.0.now c.split_at-2.result.0.now c.saturating_sub-zeros.result c.saturating_sub-before.result
read c = read_is _ _ _ _ _ _ _ _ _ _ _ _ _ _ _ _ c.parts-number.ensures (split c)

units : (c : goal.After-new) → c.with_zeros-units.result ≡ units_of (number_in c.args.text.now) c.args.places
units c = units_are _ _ _ _ _ _ _ _ _ _ _ (read c) c.read_on.ensures c.read_on-2.ensures c.with_zeros-units.ensures.value

finer : (c : goal.After-new) → not c.are_both_zeros-finer.result ≡ is_finer (number_in c.args.text.now) c.args.places
finer c = finer_is _ _ _ _ _ _ c.split_at.result.1.now c.split_at-2.result.1.now _ _ _ (read c) (rest_is _ _ _ _ _ _ _ _ _ _ _ _ _ _ (split c)) c.are_both_zeros-finer.ensures

pub returns-clause-sign : goal.returns-clause-sign
returns-clause-sign c =
    let minus = c.parts-number.result.minus in
    c.new.ensures.sign
    ∙ ap (λ n. minus && (nat_lt 0 n || not c.are_both_zeros-finer.result)) (units c)
    ∙ ap (λ b. minus && (nat_lt 0 (units_of (number_in c.args.text.now) c.args.places) || b)) (finer c)
    ∙ sign_is (number_in c.args.text.now) c.args.places minus c.parts-number.ensures.sign

pub returns-clause-units : goal.returns-clause-units
returns-clause-units c = c.new.ensures.units ∙ units c

pub returns-clause-finer : goal.returns-clause-finer
returns-clause-finer c = c.new.ensures.finer ∙ finer c
