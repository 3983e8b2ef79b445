use Rattle.std.proofs.Common.{◌∙◌, sym}
use Rattle.std.proofs.lemmas.Result.{IfOk-weaker}
use Rattle.rtb_num.specs.Numbers.{number_in}
use Rattle.rtb_num.proofs.Millionths.{exact_value, exact_large, exact_fine}
use Rattle.rtb_num.proofs.read_amounts.exact_micros.Goals as goal

pub returns-clause-exact : goal.returns-clause-exact
returns-clause-exact c =
    let e = c.scale-number.ensures in
    IfOk-weaker _ _ _ (λ m h. exact_value (number_in c.args.text.now) _ m _ e.units e.finer h) c.amount.ensures.exact

pub returns-clause-large : goal.returns-clause-large
returns-clause-large c =
    let e = c.scale-number.ensures in
    let large = exact_large (number_in c.args.text.now) _ _ e.units e.finer in
    (λ h. (sym e.sign ∙ c.if-number.false, large.0 (c.amount.ensures.large.0 h)), λ h. c.amount.ensures.large.1 (large.1 h.1))

pub returns-clause-fine : goal.returns-clause-fine
returns-clause-fine c =
    let e = c.scale-number.ensures in
    let fine = exact_fine (number_in c.args.text.now) _ _ e.units e.finer in (
      λ h. (let fact = fine.0 (c.amount.ensures.fine.0 h) in (sym e.sign ∙ c.if-number.false, fact.0, fact.1)),
      λ h. c.amount.ensures.fine.1 (fine.1 (h.1, h.2)),
    )
