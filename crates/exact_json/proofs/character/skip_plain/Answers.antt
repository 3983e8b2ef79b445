use Rattle.std.proofs.Common.{◌≤◌, ◌<◌, drop, take, ap, ◌∙◌, arith}
use Rattle.std.specs.List.{prefix_len}
use Rattle.exact_json.specs.Reading.{skip_plain}
use Rattle.exact_json.specs.Strings.{is_plain}
use Rattle.exact_json.proofs.Runs.{all_plain, stopped}
use Rattle.exact_json.proofs.character.skip_plain.Goals as goal

pub returns-then-count-lt16-clause-value : goal.returns-then-count-lt16-clause-value
returns-then-count-lt16-clause-value c =
    let left = c.loop-left.left.now in
    let less : prefix_len is_plain (take 16 left) < 16 = omega (arith, c.if-count-lt16.true, c.plain_front-count.ensures) in
    c.behind.ensures.value ∙ ap (λ n. drop n left) c.plain_front-count.ensures ∙ stopped 16 left c.loop-left-test.true less ∙ c.loop-left.invariant.same

pub loop-left-preserved : goal.loop-left-preserved
loop-left-preserved c =
    let left = c.loop-left.left.now in
    let more : 16 ≤ prefix_len is_plain (take 16 left) = omega (arith, c.if-count-lt16.false, c.plain_front-count.ensures) in
    record {
      same = ap skip_plain c.behind-left.ensures.value ∙ all_plain 16 left c.loop-left-test.true more ∙ c.loop-left.invariant.same;
      within = omega (arith, c.behind-left.ensures.len, c.loop-left.invariant.within);
    }
