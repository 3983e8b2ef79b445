use Rattle.std.proofs.Common.{◌+◌, ◌≡◌, ◌∙◌, ap, arith, subst, sym, Some, ℕ}
use Rattle.std.specs.Prelude.{slice_get}
use Rattle.std.proofs.lemmas.Result.{on_ok_weaker}
use Rattle.assign.specs.Rows.{pairs_of}
use Rattle.conj_index.specs.Campaigns.{DoRise}
use Rattle.conj_index.specs.Find.{true_under}
use Rattle.exchange_state.specs.Finding.{AreAll}
use Rattle.exchange_state.proofs.Founds.{front_more, item_at, one_longer}
use Rattle.index_versions.specs.Versions.{campaigns_of}
use Rattle.exchange_state.proofs.finding.push_new.Goals as goal

pub returns-clause-long : goal.returns-clause-long
returns-clause-long c = on_ok_weaker c.push.result (λ is. one_longer c.args.found.now c.push.new.self c.in_ok-candidates.candidates c.args.imp is c.requires.front) c.push.ensures

pub returns-clause-pushed : goal.returns-clause-pushed
returns-clause-pushed c =
    let r = c.args.asked.now in
    let live = c.args.version.now.live in
    let cs = c.in_ok-candidates.candidates in
    let (i, at) = item_at r.imps c.args.imp c.requires.imp in
    on_ok_weaker c.push.result
    (λ is so_far rise index. front_more live r c.args.imp i c.args.found.now c.push.new.self cs at (so_far rise index)
    (subst (λ ls. AreAll ls r i cs) c.as_slice.ensures
    (c.in_ok-candidates.ensures i at (subst (λ ls. DoRise (campaigns_of ls)) (sym c.as_slice.ensures) rise)
    (c.as_slice-2.ensures ∙ c.requires.numbers i at index ∙ ap (λ ls. true_under (pairs_of r i) (campaigns_of ls)) (sym c.as_slice.ensures)))) is)
    c.push.ensures

pub returns-clause-last : goal.returns-clause-last
returns-clause-last c =
    on_ok_weaker c.push.result
    (λ is p i behind at unclosed. let place : p ≡ c.args.imp = omega (arith, behind) in c.requires.numbers i (subst (λ (n : ℕ). slice_get c.args.asked.now.imps n ≡ Some i) place at))
    c.push.ensures
