use Rattle.std.proofs.Common.{◌||◌, ◌∙◌, ap, arith}
use Rattle.conj_match.specs.Matching.{is_match, lists_at}
use Rattle.conj_match.proofs.Words.{answer_those}
use Rattle.conj_match.proofs.matching.count_lists.Goals as goal

pub returns-clause-answer : goal.returns-clause-answer
returns-clause-answer g c =
    let lists = lists_at c.args.lists.now c.args.chosen.now in
    answer_those lists c.args.k c.args.width c.count.new.self c.push_found.new.ids.items c.requires.some c.requires.below
    (omega (arith, c.in_ok-begin.ensures.room, c.count.ensures.len))
    (λ i h. c.count.ensures.found i (omega (arith, h, c.count.ensures.len)) ∙ ap (λ b. b || is_match lists c.args.k i) (c.in_ok-begin.ensures.none i))
    c.in_ok-push_found.ensures
