use Rattle.std.proofs.Common.{◌++◌, ◌∙◌, subst}
use Rattle.conj_match.specs.Tally.{AreTallied}
use Rattle.conj_match.proofs.Strikes.{tallied_by}
use Rattle.conj_match.proofs.marking.mark_list.Goals as goal

pub returns-clause-marks : goal.returns-clause-marks
returns-clause-marks g c = λ before tallied.
    let entries = c.read-entries.result in
    subst (λ l. AreTallied c.strike_all.new.marks (before ++ l)) c.read-entries.ensures.value
    (tallied_by c.args.marks.now c.count_all.new.marks c.strike_all.new.marks entries.ids.now entries.negated.now before c.count_all.ensures.len (c.strike_all.ensures.len ∙ c.count_all.ensures.len) c.count_all.ensures.counts c.strike_all.ensures.struck tallied)
