use Rattle.std.proofs.Common.{◌∙◌, ◌<◌, length, arith}
use Rattle.std.specs.Prelude.{sum_by}
use Rattle.exchange_state.specs.Finding.{true_at}
use Rattle.exchange_state.proofs.Founds.{cost_of_one_more, cost_within, item_at, pushed}
use Rattle.index_versions.specs.Touched.{conjunctions_of}
use Rattle.rtb_types.specs.declared.request.Imp.{Imp}
use Rattle.exchange_state.proofs.finding.true_all.Goals as goal

pub returns-in_err-numbers-clause-cost : goal.returns-in_err-numbers-clause-cost
returns-in_err-numbers-clause-cost g c =
    let r = c.args.request.now in
    let k = c.loop-imp.imp in
    let inside : k < length r.imps = omega (arith, c.len-imp-end.ensures, c.loop-imp-test.true) in
    let (i, at) = item_at r.imps k inside in
    omega (arith, c.loop-imp.invariant.cost, c.in_err-numbers.ensures.cost, cost_within (λ (imp : Imp). sum_by (conjunctions_of c.args.table.now.campaigns) c.args.touched.now) r.imps k i inside at)

pub returns-in_err-push-clause-cost : goal.returns-in_err-push-clause-cost
returns-in_err-push-clause-cost g c =
    let r = c.args.request.now in
    let k = c.loop-imp.imp in
    let inside : k < length r.imps = omega (arith, c.len-imp-end.ensures, c.loop-imp-test.true) in
    let (i, at) = item_at r.imps k inside in
    omega (arith, c.loop-imp.invariant.cost, c.in_ok-numbers.ensures.cost, cost_within (λ (imp : Imp). sum_by (conjunctions_of c.args.table.now.campaigns) c.args.touched.now) r.imps k i inside at)

pub loop-imp-preserved : goal.loop-imp-preserved
loop-imp-preserved g c =
    let r = c.args.request.now in
    let k = c.loop-imp.imp in
    let now = c.args.table.now.campaigns in
    let touched = c.args.touched.now in
    let inside : k < length r.imps = omega (arith, c.len-imp-end.ensures, c.loop-imp-test.true) in
    let (i, at) = item_at r.imps k inside in
    record {
      now = c.in_ok-push.ensures.items ∙ pushed (true_at touched now r) r.imps k i c.loop-imp.now.items c.in_ok-numbers.numbers inside at c.loop-imp.invariant.now (c.in_ok-numbers.ensures.now i at);
      cost = omega (arith, c.loop-imp.invariant.cost, c.in_ok-numbers.ensures.cost, cost_of_one_more (λ (imp : Imp). sum_by (conjunctions_of now) touched) r.imps k i inside at);
    }
