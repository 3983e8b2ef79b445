use Rattle.std.proofs.Common.{ℕ, ◌+◌, ◌≤◌, ◌++◌, Bor, List, length, map, ◌∙◌, ap, subst}
use Rattle.std.specs.List.{filter_map, flat_map, sum_by}
use Rattle.std.proofs.lemmas.List.Filters.{dedup_is}
use Rattle.cnf_match.specs.declared.index.Entry.{Entry}
use Rattle.cnf_match.specs.Searching.{mark_all, number_left}
use Rattle.cnf_match.proofs.Answered.{answered, cost_is}
use Rattle.cnf_match.proofs.index.CnfIndex.find.Goals as goal

pub returns-clause-answer : goal.returns-clause-answer
returns-clause-answer g c = λ es is.
    let index = c.args.self.now in
    let lists = c.in_ok-lists.lists.items in
    let read = λ (ls : List (Bor (List Entry))). flat_map (λ (l : Bor (List Entry)). l.now) ls in
    let numbers = λ (left : List ℕ) (ls : List (Bor (List Entry))) (zeros : List ℕ). filter_map (number_left left) (map (λ (e : Entry). e.expression) (read ls) ++ zeros) in
    c.from_vec.ensures ∙ dedup_is _ _ _ c.dedup.ensures.filtered
    ∙ answered (λ (l : Bor (List Entry)). l.now) lists c.args.assignment.now c.pairs.result.now es index c.in_ok-left.left.items c.in_ok-numbers.numbers.items c.sort_unstable.new.self.items
    c.pairs.ensures.single is c.pairs.ensures.value c.in_ok-lists.ensures
    (c.in_ok-left.ensures.left ∙ ap (λ n. mark_all n (read c.as_slice-2.result.now)) c.as_slice.ensures ∙ ap (λ ls. mark_all index.negated (read ls)) c.as_slice-2.ensures.value)
    (c.in_ok-numbers.ensures.numbers
    ∙ ap (λ left. numbers left c.as_slice-3.result.now index.zeros) c.as_slice-4.ensures.value
    ∙ ap (λ ls. numbers c.in_ok-left.left.items ls index.zeros) c.as_slice-3.ensures.value)
    c.sort_unstable.ensures.permutation c.sort_unstable.ensures.sorted

pub returns-clause-cost : goal.returns-clause-cost
returns-clause-cost g c =
    let total = λ (ls : List (Bor (List Entry))). sum_by (λ (l : Bor (List Entry)). length l.now) ls in
    cost_is (λ (l : Bor (List Entry)). l.now) c.in_ok-lists.lists.items c.args.assignment.now c.pairs.result.now c.args.self.now c.args.steps.now c.mark_all.new.steps c.numbers_of.new.steps
    c.pairs.ensures.value c.in_ok-lists.ensures
    (subst (λ (ls : List (Bor (List Entry))). c.mark_all.new.steps ≤ c.args.steps.now + total ls) c.as_slice-2.ensures.value c.mark_all.ensures.cost)
    (subst (λ (ls : List (Bor (List Entry))). c.numbers_of.new.steps ≤ c.mark_all.new.steps + (total ls + length c.args.self.now.zeros)) c.as_slice-3.ensures.value c.numbers_of.ensures.cost)
