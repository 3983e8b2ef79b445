use Rattle.std.proofs.Common.{◌≤◌, ◌<◌, ◌∷◌, [], ◌++◌, ℕ, List, All, sym, subst}
use Rattle.campaign_store.specs.declared.record.Record.{Record}
use Rattle.conj_index.specs.Campaigns.{Campaigns, conjunctions_in}
use Rattle.target_expr.specs.declared.pred.Pred.{Pred}
use Rattle.index_versions.proofs.Firsts as firsts
use Rattle.index_versions.proofs.version.builder_of.Goals as goal

pub add-requires-clause-above : goal.add-requires-clause-above
add-requires-clause-above g c =
    let r = c.campaign-item.result in
    subst (λ (b : Campaigns). All (λ (p : ℕ × List (List Pred)). p.0 < r.number) b) (sym c.loop-campaign.invariant.0)
    (firsts.above c.args.live.now c.loop-campaign.campaign-index r c.requires.rising c.loop-campaign-test.true c.campaign-item.is)

pub add-requires-clause-room : goal.add-requires-clause-room
add-requires-clause-room g c =
    let r = c.campaign-item.result in
    let fits = firsts.room c.args.live.now c.loop-campaign.campaign-index r c.requires.few c.loop-campaign-test.true c.campaign-item.is in
    subst (λ (e : Record). conjunctions_in (c.loop-campaign.builder ++ (r.number, e.expr) ∷ []) ≤ 1000000) (sym c.record.ensures)
    (subst (λ (b : Campaigns). conjunctions_in (b ++ (r.number, r.entry.expr) ∷ []) ≤ 1000000) (sym c.loop-campaign.invariant.0) fits)
