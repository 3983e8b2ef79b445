use Rattle.std.proofs.Common.{◌≡◌, ℕ, ◌+◌, ◌<◌, [], true, false, length, take, get_or, set, sym, subst, ◌∙◌, ap, refl, arith}
use Rattle.std.proofs.lemmas.List.{length-set}
use Rattle.target_expr.proofs.Faults.{first_here, first_nowhere, none_more}
use Rattle.cnf_match.specs.Making.{is_wrong, mark_of, weight_fault}
use Rattle.cnf_match.specs.declared.fault.CnfFault.TheVariants as fault
use Rattle.cnf_match.proofs.Faults.{told, untold}
use Rattle.cnf_match.proofs.Seen.{AreSeen, none_same, seen_more}
use Rattle.cnf_match.proofs.check.weights_fault.Goals as goal

pub returns-then-is_wrong : goal.returns-then-is_wrong
returns-then-is_wrong c =
    let ws = c.args.weights.now in
    let i = c.loop-at.at in
    let wrong = ap (is_wrong (take i ws)) (sym c.index-weights-at.is) ∙ sym c.is_wrong.ensures ∙ c.if-is_wrong.true in
    first_here [] (weight_fault ws) ws i c.index-weights-at.result _ refl c.loop-at-test.true c.loop-at.invariant.0 (told _ (fault.Weight i) wrong) refl

pub loop-at-init : goal.loop-at-init
loop-at-init c = (refl, (refl, refl))

pub is_wrong-requires : goal.is_wrong-requires
is_wrong-requires c new =
    none_same c.loop-at.seen c.index-weights-at.result (take c.loop-at.at c.args.weights.now) c.loop-at.invariant.1.0
    (ap (λ m. get_or c.loop-at.seen m false) (sym c.mark_of-mark.ensures.value) ∙ new)

pub loop-at-preserved : goal.loop-at-preserved
loop-at-preserved c =
    let ws = c.args.weights.now in
    let i = c.loop-at.at in
    let seen = c.loop-at.seen in
    let item = c.index-weights-at.result in
    let right = ap (is_wrong (take i ws)) (sym c.index-weights-at.is) ∙ sym c.is_wrong.ensures ∙ c.if-is_wrong.false in
    let mark : c.mark_of-mark.result ≡ mark_of (get_or ws i item) = c.mark_of-mark.ensures.value ∙ ap mark_of c.index-weights-at.is in
    let within : mark_of (get_or ws i item) < length seen = omega (arith, mark, c.mark_of-mark.ensures.small, c.loop-at.invariant.1.1) in (
      none_more (weight_fault ws) ws i item _ c.loop-at-test.true c.loop-at.invariant.0 (untold _ (fault.Weight i) right) refl,
      (
        subst (λ (m : ℕ). AreSeen (set seen m true) (take (i + 1) ws)) (sym mark) (seen_more seen ws i item c.loop-at-test.true c.loop-at.invariant.1.0 within),
        length-set seen c.mark_of-mark.result true ∙ c.loop-at.invariant.1.1,
      ),
    )

pub returns : goal.returns
returns c = first_nowhere [] (weight_fault c.args.weights.now) c.args.weights.now c.loop-at.at refl c.loop-at-test.false c.loop-at.invariant.0
