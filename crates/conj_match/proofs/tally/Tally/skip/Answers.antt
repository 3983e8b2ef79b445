use Rattle.std.proofs.Common.{◌==◌, subst}
use Rattle.std.specs.List.{list_any}
use Rattle.conj_match.specs.Bits.{AreSet}
use Rattle.conj_match.specs.Matching.{lists_at}
use Rattle.conj_match.proofs.Words.{answer_set}
use Rattle.conj_match.proofs.tally.Tally.skip.Goals as goal

pub returns-clause-found : goal.returns-clause-found
returns-clause-found g c =
    answer_set (lists_at c.args.lists.now c.args.chosen.now) c.args.k c.in_ok-ids.ids.items c.args.self.now c.set.new.self c.in_ok-ids.ensures.answer
    (subst (λ l. AreSet (λ i. list_any (λ n. i == n) l) c.args.self.now c.set.new.self) c.as_slice.ensures.value c.set.ensures.set)
