use Rattle.std.proofs.Common.{◌∙◌, ◌++◌, ◌+◌, ◌∷◌, [], ◌<◌, ◌≤◌, ℕ, List, All, length, ap, sym, subst, arith}
use Rattle.conj_index.specs.Campaigns.{Campaigns, conjunctions_in}
use Rattle.target_expr.specs.declared.pred.Pred.{Pred}
use Rattle.live_index.specs.Reached.{live_expression}
use Rattle.live_index.proofs.Fronts as fronts
use Rattle.live_index.proofs.index.builder_of.Goals as goal

pub add_where_live-requires-clause-above : goal.add_where_live-requires-clause-above
add_where_live-requires-clause-above g c =
    let k = c.loop-place.place in
    subst (λ (b : Campaigns). All (λ (p : ℕ × List (List Pred)). p.0 < k + 1) b) (sym c.loop-place.invariant.0) (fronts.above c.args.table.now.campaigns k)

pub add_where_live-requires-clause-room : goal.add_where_live-requires-clause-room
add_where_live-requires-clause-room g c = λ d at.
    let k = c.loop-place.place in
    let cs = c.args.table.now.campaigns in
    subst (λ (b : Campaigns). conjunctions_in (b ++ (k + 1, d.entry.expr) ∷ []) ≤ 1000000) (sym c.loop-place.invariant.0)
    (fronts.room cs k (k + 1) d c.count-place-end.ensures.within (sym (fronts.numbered cs k) ∙ at))

pub loop-place-preserved : goal.loop-place-preserved
loop-place-preserved g c =
    let k = c.loop-place.place in
    let cs = c.args.table.now.campaigns in
    let inside : k < length cs = omega (arith, c.count-place-end.ensures.value, c.loop-place-test.true) in
    let (d, at) = fronts.item_at cs k inside in
    let added =
    c.in_ok-add_where_live.ensures.ok d (fronts.numbered cs k ∙ at)
    ∙ ap (λ (b : Campaigns). b ++ live_expression (k + 1, d)) c.loop-place.invariant.0
    ∙ sym (fronts.one_more cs k d inside at) in
    (added, omega (arith, c.in_ok-add_where_live.ensures.cost, c.loop-place.invariant.1))

pub returns-clause-content : goal.returns-clause-content
returns-clause-content g c = c.loop-place.invariant.0 ∙ fronts.all_of_them c.args.table.now.campaigns c.loop-place.place (omega (arith, c.count-place-end.ensures.value, c.loop-place-test.false))
