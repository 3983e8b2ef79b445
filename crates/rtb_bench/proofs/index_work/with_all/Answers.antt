use Rattle.std.proofs.Common.{ℕ, ◌<◌, ◌≤◌, ◌++◌, ◌∷◌, [], All, List, sym, subst}
use Rattle.target_expr.specs.declared.pred.Pred.{Pred}
use Rattle.conj_index.specs.Campaigns.{Campaigns, conjunctions_in}
use Rattle.rtb_bench.proofs.Totals.{above, fewer}
use Rattle.rtb_bench.proofs.index_work.with_all.Goals as goal

pub add-requires-clause-above : goal.add-requires-clause-above
add-requires-clause-above g c =
    let d = c.loop-number-item.result in
    subst (λ (l : Campaigns). All (λ (p : ℕ × List (List Pred)). p.0 < d.0) l) (sym c.loop-number.invariant)
    (above c.args.campaigns.now c.loop-number.number-index d c.loop-number-test.true c.requires.rising c.loop-number-item.is)

pub add-requires-clause-room : goal.add-requires-clause-room
add-requires-clause-room g c =
    let d = c.loop-number-item.result in
    subst (λ (l : Campaigns). conjunctions_in (l ++ d ∷ []) ≤ 1000000) (sym c.loop-number.invariant)
    (fewer c.args.campaigns.now c.loop-number.number-index d c.loop-number-test.true c.requires.few c.loop-number-item.is)
