use Rattle.std.proofs.Common.{◌∙◌, ◌-◌, ap, sym}
use Rattle.std.specs.List.{slice_get}
use Rattle.conj_match.proofs.Marks.{below_last, below_none}
use Rattle.conj_match.proofs.matching.width_of.Goals as goal

pub returns-in-Some-clause-width : goal.returns-in-Some-clause-width
returns-in-Some-clause-width g c =
    let list = c.args.list.now in
    below_last list c.in-Some.last c.len.ensures.rising
    (sym (ap (slice_get list) (c.saturating_sub.ensures ∙ ap (λ n. n - 1) c.len.ensures.value)) ∙ sym c.at.ensures.value ∙ c.in-Some.is)

pub returns-in-None-clause-width : goal.returns-in-None-clause-width
returns-in-None-clause-width g c =
    let list = c.args.list.now in
    below_none list
    (sym (ap (slice_get list) (c.saturating_sub.ensures ∙ ap (λ n. n - 1) c.len.ensures.value)) ∙ sym c.at.ensures.value ∙ c.in-None.is)
