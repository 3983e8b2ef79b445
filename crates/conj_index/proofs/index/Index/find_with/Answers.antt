use Rattle.std.proofs.Common.{◌+◌, ◌∙◌, length, subst, take, arith}
use Rattle.std.proofs.lemmas.List.Filters.{dedup_is}
use Rattle.conj_index.specs.Searching.{AreFound}
use Rattle.conj_index.proofs.Answered.{answer_is}
use Rattle.conj_index.proofs.index.Index.find_with.Goals as goal

pub returns-clause-answer : goal.returns-clause-answer
returns-clause-answer g c = λ added is.
    let a = c.args.assignment.now in
    let index = c.args.self.now in
    let parts = take (length a + 1) index.parts in
    c.from_vec.ensures ∙ dedup_is _ _ _ c.dedup.ensures.filtered
    ∙ answer_is a c.pairs.ensures.single added index is (length parts) c.in_ok-numbers.numbers.items c.sort_unstable.new.self.items (omega arith)
    (subst (λ (b : _). AreFound b index.owners (take (length b + 1) index.parts) (length (take (length b + 1) index.parts)) c.in_ok-numbers.numbers.items) c.pairs.ensures.value c.in_ok-numbers.ensures.found)
    c.sort_unstable.ensures.permutation c.sort_unstable.ensures.sorted
