use Rattle.std.proofs.Common.{◌≡◌, ◌+◌, ◌-◌, ◌&&◌, drop, get_or, true, sym, ◌∙◌, ap, arith}
use Rattle.std.proofs.lemmas.List.{get_or_default}
use Rattle.target_expr.specs.Kept.{attr_below, rise}
use Rattle.target_expr.proofs.ByteOrder.{rise_end, rise_step}
use Rattle.target_expr.proofs.order.preds_rise.Goals as goal

pub loop-i-preserved : goal.loop-i-preserved
loop-i-preserved c =
    let xs = c.args.preds.now in
    let i = c.loop-i.i in
    let p = c.index-preds-i.result in
    let q = c.index-preds-i-in-loop-i.result in
    let second = c.index-preds-i-in-loop-i.is ∙ get_or_default xs i q p c.loop-i-test.true in
    let passes : attr_below (get_or xs (i - 1) p) (get_or xs i p) ≡ true =
    ap (λ x. attr_below x (get_or xs i p)) (sym c.index-preds-i.is) ∙ ap (attr_below p) (sym second) ∙ sym c.attr_below.ensures ∙ c.if-not-attr_below.false in
    let here : i + 1 - 1 ≡ i = omega arith in
    ap (λ k. rise attr_below (drop k xs)) here
    ∙ sym (ap (λ b. b && rise attr_below (drop i xs)) passes)
    ∙ sym (rise_step attr_below xs i p c.loop-i.auto.i c.loop-i-test.true)
    ∙ c.loop-i.invariant

pub returns : goal.returns
returns c = sym (rise_end attr_below c.args.preds.now c.loop-i.i c.loop-i.auto.i c.loop-i-test.false) ∙ c.loop-i.invariant
