use Rattle.std.proofs.Common.{◌≡◌, ◌≤◌, ◌+◌, ◌*◌, ◌∙◌, true, subst, sym, length, take, take_all, arith}
use Rattle.std.specs.List.{list_all}
use Rattle.conj_match.specs.Matching.{digits, lists_at, longest}
use Rattle.conj_match.specs.Skip.{is_asked}
use Rattle.conj_match.proofs.Digits.{digits_mono}
use Rattle.conj_match.proofs.Marks.{list_is, list_more, lists_length}
use Rattle.conj_match.proofs.Shortest.{longest_at}
use Rattle.conj_match.proofs.Skips.{asked_cost, asked_more, asked_not, asked_within}
use Rattle.conj_match.proofs.skipping.all_ask.Goals as goal

pub loop-place-preserved : goal.loop-place-preserved
loop-place-preserved g c =
    let h = c.loop-place.invariant in
    let lists = c.args.lists.now in
    let chosen = c.args.chosen.now in
    let i = c.loop-place.place-index in
    let es = c.index-lists-place.result in
    let all = lists_at lists chosen in
    let is = list_more lists chosen i es c.requires c.loop-place-test.true c.index-lists-place.is in
    let at = list_is lists chosen i es c.requires c.loop-place-test.true c.index-lists-place.is in
    let low : length es ≤ longest all = subst (λ l. length l ≤ longest all) (sym at) (longest_at all i (omega (arith, c.loop-place-test.true, lists_length lists chosen))) in
    record {
      asked = asked_more c.args.id (lists_at lists (take i chosen)) (lists_at lists (take (i + 1) chosen)) es is h.asked (sym c.is_asked.ensures.value ∙ c.if-not-is_asked.false);
      cost = asked_cost i (2 * digits (longest all) + 3) (2 * digits (length es) + 3) c.args.steps.now c.loop-place.steps c.is_asked.new.steps h.cost c.is_asked.ensures.cost (omega (arith, digits_mono (length es) (longest all) low));
    }

pub returns-then-not-is_asked-clause-value : goal.returns-then-not-is_asked-clause-value
returns-then-not-is_asked-clause-value g c =
    let lists = c.args.lists.now in
    let chosen = c.args.chosen.now in
    let i = c.loop-place.place-index in
    let es = c.index-lists-place.result in
    let at = list_is lists chosen i es c.requires c.loop-place-test.true c.index-lists-place.is in
    sym (asked_not c.args.id (lists_at lists chosen) i es (omega (arith, c.loop-place-test.true, lists_length lists chosen)) at (sym c.is_asked.ensures.value ∙ c.if-not-is_asked.true))

pub returns-then-not-is_asked-clause-cost : goal.returns-then-not-is_asked-clause-cost
returns-then-not-is_asked-clause-cost g c =
    let h = c.loop-place.invariant in
    let lists = c.args.lists.now in
    let chosen = c.args.chosen.now in
    let i = c.loop-place.place-index in
    let es = c.index-lists-place.result in
    let all = lists_at lists chosen in
    let at = list_is lists chosen i es c.requires c.loop-place-test.true c.index-lists-place.is in
    let low : length es ≤ longest all = subst (λ l. length l ≤ longest all) (sym at) (longest_at all i (omega (arith, c.loop-place-test.true, lists_length lists chosen))) in
    asked_within (i + 1) (length chosen) (2 * digits (longest all) + 3) c.args.steps.now c.is_asked.new.steps (omega (arith, c.loop-place-test.true))
    (asked_cost i (2 * digits (longest all) + 3) (2 * digits (length es) + 3) c.args.steps.now c.loop-place.steps c.is_asked.new.steps h.cost c.is_asked.ensures.cost (omega (arith, digits_mono (length es) (longest all) low)))

pub returns-clause-value : goal.returns-clause-value
returns-clause-value g c =
    sym (subst (λ l. list_all (is_asked c.args.id) (lists_at c.args.lists.now l) ≡ true) (take_all c.loop-place.place-index c.args.chosen.now c.loop-place-test.false) c.loop-place.invariant.asked)

pub returns-clause-cost : goal.returns-clause-cost
returns-clause-cost g c =
    asked_within c.loop-place.place-index (length c.args.chosen.now) (2 * digits (longest (lists_at c.args.lists.now c.args.chosen.now)) + 3) c.args.steps.now c.loop-place.steps (omega (arith, c.loop-place.auto)) c.loop-place.invariant.cost
