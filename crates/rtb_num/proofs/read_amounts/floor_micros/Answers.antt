use Rattle.std.proofs.Common.{◌∙◌, sym, refl}
use Rattle.std.proofs.lemmas.Result.{IfOk-weaker}
use Rattle.rtb_num.specs.Numbers.{number_in}
use Rattle.rtb_num.proofs.Millionths.{floor_enough, floor_least, floor_large}
use Rattle.rtb_num.proofs.read_amounts.floor_micros.Goals as goal

pub returns-clause-enough : goal.returns-clause-enough
returns-clause-enough c =
    let e = c.scale-number.ensures in
    IfOk-weaker _ _ _ (λ m h. floor_enough (number_in c.args.text.now) _ m _ e.units e.finer h.0 h.1) c.round_up.ensures.value

pub returns-clause-least : goal.returns-clause-least
returns-clause-least c =
    let e = c.scale-number.ensures in
    IfOk-weaker _ _ _ (λ m h. floor_least (number_in c.args.text.now) _ m _ e.units e.finer h.0) c.round_up.ensures.value

pub returns-clause-large : goal.returns-clause-large
returns-clause-large c =
    let e = c.scale-number.ensures in
    let large = floor_large (number_in c.args.text.now) _ _ _ e.units e.finer refl in
    (λ h. (sym e.sign ∙ c.if-number.false, large.0 (c.round_up.ensures.large.0 h)), λ h. c.round_up.ensures.large.1 (large.1 h.1))
