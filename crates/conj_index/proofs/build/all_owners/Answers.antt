use Rattle.std.proofs.Common.{ℕ, List, ◌++◌, ◌∙◌, ap, length, replicate, subst, IsTrue}
use Rattle.std.proofs.lemmas.List.Elements.{All-more}
use Rattle.target_expr.specs.declared.pred.Pred.{Pred}
use Rattle.target_expr.specs.Kept.{is_kept}
use Rattle.conj_index.proofs.BuildLoops.{owners_step}
use Rattle.conj_index.proofs.build.all_owners.Goals as goal

pub loop-campaign-preserved : goal.loop-campaign-preserved
loop-campaign-preserved c =
    let kept : ℕ × List (List Pred) → Type 0 = λ p. IsTrue (is_kept p.1) in
    let item = c.campaign-item.result in
    record {
      owners = owners_step c.args.added.now c.loop-campaign.campaign-index item c.loop-campaign.owners c.push_times.new.owners c.conjunctions.result
          c.loop-campaign-test.true c.campaign-item.is (c.conjunctions.ensures.value ∙ ap length c.expr.ensures) c.loop-campaign.invariant.owners
          (c.in_ok-push_times.ensures ∙ ap (λ n. c.loop-campaign.owners ++ replicate c.conjunctions.result n) c.number.ensures);
      kept = All-more kept c.args.added.now c.loop-campaign.campaign-index item c.loop-campaign-test.true c.loop-campaign.invariant.kept
          (subst kept c.campaign-item.is (subst (λ e. IsTrue (is_kept e)) c.expr.ensures c.conjunctions.ensures.kept));
    }
