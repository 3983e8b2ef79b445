use Rattle.std.proofs.Common.{◌≡◌, ◌≤◌, ◌^◌, length, true, ap, sym, ◌∙◌, arith, Option, Some, None, Ok}
use Rattle.std.specs.List.{list_all, before_first, after_first}
use Rattle.std.specs.Prelude.{IfSome}
use Rattle.rtb_num.specs.Amounts.{is_digit, is_point, number_of}
use Rattle.json_fields.specs.Amounts.{floor_of}
use Rattle.json_fields.proofs.Short.{floor_of_parts}
use Rattle.json_fields.proofs.short_numbers.short_floor.Goals as goal

pub returns-in-Some-Some : goal.returns-in-Some-Some
returns-in-Some-Some c =
    let s = c.split_at_point.ensures in
    let e = c.in-Some-Some.ensures in
    let f = c.in-Some-Some.ensures' in
    floor_of_parts c.args.text.now _ _ c.in-Some-Some.dollars c.in-Some-Some.micros c.in_micros.result c.new.result
    s.whole s.fraction e.digits f.digits e.value f.value (omega (arith, c.if-fraction-gt-PLACES.false)) c.in_micros.ensures c.new.ensures.variant c.new.ensures.value
