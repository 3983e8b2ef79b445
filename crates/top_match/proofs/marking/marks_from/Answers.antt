use Rattle.std.proofs.Common.{◌∙◌, ap}
use Rattle.std.specs.List.{fold}
use Rattle.top_match.specs.Choosing.{choose}
use Rattle.top_match.proofs.Marked.{marks_are}
use Rattle.top_match.proofs.marking.marks_from.Goals as goal

pub returns : goal.returns
returns c = λ es a is.
    c.chosen_in.ensures ∙ ap (fold choose c.args.reasons) c.as_slice.ensures ∙ ap (λ m. fold choose m c.args.chosen.now) is ∙ marks_are es a c.args.chosen.now
