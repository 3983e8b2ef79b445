use Rattle.std.proofs.Common.{◌≡◌, ◌+◌, ◌*◌, ◌≤◌, [], ◌∷◌, ◌++◌, length, subst, sym, ◌∙◌, ap, arith}
use Rattle.std.proofs.lemmas.List.{length-append}
use Rattle.conj_index.specs.Campaigns.{Campaigns, conjunctions_in, numbers_of}
use Rattle.rtb_bench.proofs.Totals.{CountUp, few_more, number_more, numbers_rise}
use Rattle.rtb_bench.proofs.generated.campaigns.Goals as goal

pub loop-i-preserved : goal.loop-i-preserved
loop-i-preserved c =
    let xs = c.loop-i.all.items in
    let i = c.loop-i.i in
    let e = c.in_ok-expr.field-0 in
    let pushed : c.push.new.self.items ≡ xs ++ (i + 1, e) ∷ [] = c.in_ok-push.ensures.items in
    let count : i + 1 ≡ length xs + 1 = omega (arith, c.loop-i.invariant.count) in
    record {
      numbered = subst (λ (l : Campaigns). CountUp 1 (numbers_of l)) (sym pushed) (number_more xs (i + 1) e c.loop-i.invariant.numbered count);
      count = ap length pushed ∙ length-append xs ((i + 1, e) ∷ []) ∙ omega (arith, count);
      few = subst (λ (l : Campaigns). conjunctions_in l ≤ 3 * (i + 1)) (sym pushed) (few_more xs (i + 1) i e c.loop-i.invariant.few c.in_ok-expr.ensures);
    }

pub returns-clause-rising : goal.returns-clause-rising
returns-clause-rising c = numbers_rise c.loop-i.all.items c.loop-i.invariant.numbered
