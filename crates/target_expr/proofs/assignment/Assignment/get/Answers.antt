use Rattle.std.proofs.Common.{◌≡◌, ℕ, List, Some, sym, ◌∙◌, ap, option_map}
use Rattle.target_expr.specs.declared.attr.Attr.{Attr}
use Rattle.target_expr.specs.Truth.{same_attr, value_at}
use Rattle.target_expr.proofs.Finds.{find_here, none_more}
use Rattle.target_expr.proofs.assignment.Assignment.get.Goals as goal

pub returns-then-is_same : goal.returns-then-is_same
returns-then-is_same c =
    let a = c.args.a in
    let item = c.pair-item.result in
    let yes = ap (λ (p : Attr × List ℕ). same_attr p.0 a) (sym c.pair-item.is) ∙ sym c.is_same.ensures ∙ c.if-is_same.true in
    let found = find_here (λ (p : Attr × List ℕ). same_attr p.0 a) c.as_slice-pair-items.result.now c.loop-pair.pair-index item c.loop-pair-test.true c.loop-pair.invariant yes in
    let whole : value_at c.as_slice-pair-items.result.now a ≡ Some item.1 = ap (option_map (λ (p : Attr × List ℕ). p.1)) (found ∙ ap (λ x. Some x) (sym c.pair-item.is)) in
    sym whole ∙ ap (λ ps. value_at ps a) (c.as_slice-pair-items.ensures ∙ c.self.view_is)

pub loop-pair-preserved : goal.loop-pair-preserved
loop-pair-preserved c =
    let a = c.args.a in
    let no = ap (λ (p : Attr × List ℕ). same_attr p.0 a) (sym c.pair-item.is) ∙ sym c.is_same.ensures ∙ c.if-is_same.false in
    none_more (λ (p : Attr × List ℕ). same_attr p.0 a) c.as_slice-pair-items.result.now c.loop-pair.pair-index c.pair-item.result c.loop-pair-test.true c.loop-pair.invariant no
