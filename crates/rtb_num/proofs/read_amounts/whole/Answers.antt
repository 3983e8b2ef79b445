use Rattle.std.proofs.Common.{ℤ, Option, Some, None}
use Rattle.std.specs.Prelude.{IfSome}
use Rattle.rtb_num.specs.Numbers.{number_in}
use Rattle.rtb_num.proofs.Millionths.{no_integer, integer_is, out_of_range}
use Rattle.rtb_num.proofs.read_amounts.whole.Goals as goal

some_weaker : (r : Option ℤ) (P Q : ℤ → Type 0) → ((z : ℤ) → P z → Q z) → IfSome r P → IfSome r Q
some_weaker None P Q f h = h
some_weaker (Some z) P Q f h = f z h

pub returns-then-number-clause-none : goal.returns-then-number-clause-none
returns-then-number-clause-none c = λ _ z low high. no_integer (number_in c.args.text.now) _ c.scale-number.ensures.finer c.if-number.true z

pub returns-clause-value : goal.returns-clause-value
returns-clause-value c =
    let e = c.scale-number.ensures in
    some_weaker _ _ _ (λ z h. integer_is (number_in c.args.text.now) _ _ _ z e.units e.finer c.if-number.false e.sign h) c.to_i32.ensures.value

pub returns-clause-none : goal.returns-clause-none
returns-clause-none c =
    let e = c.scale-number.ensures in
    λ none z low high. out_of_range (number_in c.args.text.now) _ _ e.units e.sign (c.to_i32.ensures.none none) (c.to_i32.ensures.none_below none) z low high
