use Rattle.std.proofs.Common.{◌≡◌, ◌<◌, ◌≤◌, ◌+◌, ◌*◌, ◌∙◌, ◌&&◌, not, [], Contains, ap, subst, sym, get_or, length, arith}
use Rattle.std.specs.List.{list_all}
use Rattle.std.proofs.lemmas.List.{get_or_default}
use Rattle.conj_match.specs.Matching.{digits, lists_at, longest}
use Rattle.conj_match.specs.Skip.{IsSkipped, is_asked}
use Rattle.conj_match.proofs.Marks.{lists_length}
use Rattle.conj_match.proofs.Shortest.{skips_price}
use Rattle.conj_match.proofs.Skips.{asked_cost, common_is, common_parts, skipped_all, skipped_no, skipped_none, skipped_yes}
use Rattle.conj_match.proofs.skipping.skip_lists.Goals.{then-is_common+in_ok-push, else-is_common}
use Rattle.conj_match.proofs.skipping.skip_lists.Goals as goal

pub loop-place-init : goal.loop-place-init
loop-place-init g c = record {
  found = skipped_none (lists_at c.args.lists.now c.args.chosen.now) c.args.k c.index-lists-first.result c.new-ids.result.items c.new-ids.ensures.items;
  cost = omega arith;
}

pub loop-place-preserved : goal.loop-place-preserved
loop-place-preserved g c =
    let h = c.loop-place.invariant in
    let lists = lists_at c.args.lists.now c.args.chosen.now in
    let k = c.args.k in
    let es = c.index-lists-first.result in
    let n = c.loop-place.place in
    let ids = c.loop-place.ids.items in
    let e = c.entry_at-entry.result in
    let x = 2 * digits (longest lists) + 3 in
    let within : n < length es = omega (arith, c.loop-place-test.true, c.len-place-end.ensures.value) in
    let is = c.entry_at-entry.ensures.value in
    let many : length c.args.chosen.now ≡ k = c.requires.skips.many in
    let same = common_is e.id k lists (lists_length c.args.lists.now c.args.chosen.now ∙ many) in
    let price : c.is_common.new.steps ≤ c.entry_at-entry.new.steps + k * x = subst (λ m. c.is_common.new.steps ≤ c.entry_at-entry.new.steps + m * x) many c.is_common.ensures.cost in
    let cost = asked_cost n (k * x + 1) (k * x + 1) c.args.steps.now c.loop-place.steps c.is_common.new.steps h.cost (omega (arith, price, c.entry_at-entry.ensures.cost)) (omega arith) in
    elim c.if-is_common.branch [
      | then-is_common+in_ok-push w ↦
          let (plain, all) = common_parts e.negated (list_all (is_asked e.id) lists) (sym c.is_common.ensures.value ∙ w.if-is_common.true) in
          record {
            found = subst (IsSkipped lists k es (n + 1)) (sym (ap (λ v. v.items) w.ids-is ∙ w.in_ok-push.ensures.items)) (skipped_yes lists k es n ids e c.entry_at-entry.ensures.rising within is plain (same ∙ all) h.found);
            cost = cost;
          }
      | else-is_common w ↦
          record {
            found = subst (IsSkipped lists k es (n + 1)) (sym (ap (λ v. v.items) w.ids-is)) (skipped_no lists k es n ids e is (ap (λ b. not e.negated && b) same ∙ sym c.is_common.ensures.value ∙ w.if-is_common.false) h.found);
            cost = cost;
          }
    ]

pub returns-in_err-push-clause-cost : goal.returns-in_err-push-clause-cost
returns-in_err-push-clause-cost g c =
    let h = c.loop-place.invariant in
    let lists = lists_at c.args.lists.now c.args.chosen.now in
    let k = c.args.k in
    let es = c.index-lists-first.result in
    let n = c.loop-place.place in
    let x = 2 * digits (longest lists) + 3 in
    let skips = c.requires.skips in
    let many : length c.args.chosen.now ≡ k = skips.many in
    let price : c.is_common.new.steps ≤ c.entry_at-entry.new.steps + k * x = subst (λ m. c.is_common.new.steps ≤ c.entry_at-entry.new.steps + m * x) many c.is_common.ensures.cost in
    let cost = asked_cost n (k * x + 1) (k * x + 1) c.args.steps.now c.loop-place.steps c.is_common.new.steps h.cost (omega (arith, price, c.entry_at-entry.ensures.cost)) (omega arith) in
    let same : es ≡ get_or c.args.lists.now c.args.first [] = c.index-lists-first.is ∙ get_or_default c.args.lists.now c.args.first es [] skips.there in
    skips_price lists k (length es) (n + 1) c.args.steps.now c.is_common.new.steps c.requires.some (omega (arith, c.loop-place-test.true, c.len-place-end.ensures.value)) (ap length same ∙ skips.least) (lists_length c.args.lists.now c.args.chosen.now ∙ many) skips.smaller cost

pub returns-clause-cost : goal.returns-clause-cost
returns-clause-cost g c =
    let h = c.loop-place.invariant in
    let lists = lists_at c.args.lists.now c.args.chosen.now in
    let es = c.index-lists-first.result in
    let skips = c.requires.skips in
    let same : es ≡ get_or c.args.lists.now c.args.first [] = c.index-lists-first.is ∙ get_or_default c.args.lists.now c.args.first es [] skips.there in
    skips_price lists c.args.k (length es) c.loop-place.place c.args.steps.now c.loop-place.steps c.requires.some (omega (arith, c.loop-place.auto, c.len-place-end.ensures.value)) (ap length same ∙ skips.least) (lists_length c.args.lists.now c.args.chosen.now ∙ skips.many) skips.smaller h.cost

pub returns-clause-answer : goal.returns-clause-answer
returns-clause-answer g c =
    let lists = lists_at c.args.lists.now c.args.chosen.now in
    let es = c.index-lists-first.result in
    let skips = c.requires.skips in
    let same : es ≡ get_or c.args.lists.now c.args.first [] = c.index-lists-first.is ∙ get_or_default c.args.lists.now c.args.first es [] skips.there in
    skipped_all lists c.args.k es c.loop-place.place c.loop-place.ids.items (lists_length c.args.lists.now c.args.chosen.now ∙ skips.many) (subst (Contains lists) (sym same) skips.member) (omega (arith, c.loop-place-test.false, c.len-place-end.ensures.value)) c.loop-place.invariant.found
