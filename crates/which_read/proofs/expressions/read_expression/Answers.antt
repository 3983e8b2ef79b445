use Rattle.std.proofs.Common.{refl, subst}
use Rattle.exact_json.specs.View.{tree_of}
use Rattle.json_fields.specs.Answers.{Answers}
use Rattle.json_fields.specs.Readings.{with_faults}
use Rattle.json_fields.proofs.First.{answers_behind}
use Rattle.which_read.specs.declared.fault.WhichFault.{WhichFault}
use Rattle.which_read.specs.Request.{expression_at, made_at, made_of, making_faults}
use Rattle.which_read.proofs.expressions.read_expression.Goals as goal

pub returns : goal.returns
unfolding made_at
returns c =
    let i = c.args.place in
    let read = expression_at i (tree_of c.args.value.now) in
    let (none, is) = c.in_ok-written.ensures in
    answers_behind WhichFault.Memory read.faults (with_faults (making_faults i read.value) (made_of read.value)) c.make.result none
    (subst (λ w. Answers WhichFault.Memory (with_faults (making_faults i w) (made_of w)) c.make.result) is (c.make.ensures i refl))
