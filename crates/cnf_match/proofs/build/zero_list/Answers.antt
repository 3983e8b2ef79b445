use Rattle.std.proofs.Common.{sym, ◌∙◌, ap}
use Rattle.std.specs.List.{filter_map, list_all, list_any}
use Rattle.target_expr.specs.declared.pred.Pred.{Pred}
use Rattle.target_expr.proofs.Enumerated.{taken_whole}
use Rattle.cnf_match.specs.Content.{needs_none, zero_place}
use Rattle.cnf_match.proofs.Built.{zero_absent, zero_there, zeros_are}
use Rattle.cnf_match.proofs.build.zero_list.Goals as goal
use Rattle.cnf_match.proofs.build.zero_list.Goals.{then-needs_none+in_ok-push, else-needs_none}

pub loop-n-preserved : goal.loop-n-preserved
loop-n-preserved c =
    let xs = c.args.exprs.now in
    let i = c.loop-n.n in
    let item = c.index-exprs-n.result in
    let tested = ap needs_none (sym c.index-exprs-n.is) ∙ ap (list_all (list_any (λ (p : Pred). p.negated))) (sym c.clauses.ensures.value) ∙ sym c.needs_none.ensures in
    elim c.if-needs_none.branch [
      | then-needs_none+in_ok-push w ↦ zero_there xs i item c.loop-n.zeros.items c.if-needs_none.zeros.items c.loop-n-test.true (tested ∙ w.if-needs_none.true) c.loop-n.invariant (ap (λ v. v.items) w.zeros-is ∙ w.in_ok-push.ensures.items)
      | else-needs_none w ↦ zero_absent xs i item c.loop-n.zeros.items c.if-needs_none.zeros.items c.loop-n-test.true (tested ∙ w.if-needs_none.false) c.loop-n.invariant (ap (λ v. v.items) w.zeros-is)
    ]

pub returns : goal.returns
returns c =
    let xs = c.args.exprs.now in
    c.loop-n.invariant ∙ ap (filter_map zero_place) (taken_whole xs c.loop-n.n c.loop-n-test.false) ∙ zeros_are xs
