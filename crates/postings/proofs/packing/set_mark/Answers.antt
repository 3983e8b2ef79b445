use Rattle.std.proofs.Common.{◌∙◌, sym}
use Rattle.postings.proofs.Marks.{set_here, set_other}
use Rattle.postings.proofs.packing.set_mark.Goals as goal

pub returns-then-negated-clause-here : goal.returns-then-negated-clause-here
returns-then-negated-clause-here c = λ _. set_here c.args.marks.now c.args.place c.requires ∙ sym c.if-negated.true

pub returns-then-negated-clause-others : goal.returns-then-negated-clause-others
returns-then-negated-clause-others c = λ i other. set_other c.args.marks.now c.args.place i c.requires other
