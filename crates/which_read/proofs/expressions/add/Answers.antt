use Rattle.std.proofs.Common.{[], sym, refl, ◌∙◌}
use Rattle.top_match.specs.Certificate.{reason}
use Rattle.which_read.specs.Request.{made_of, making_faults}
use Rattle.which_read.proofs.Made.{clean, next_of_right, no_fault, still_faulty}
use Rattle.which_read.proofs.expressions.add.Goals as goal

pub returns-then-is_some : goal.returns-then-is_some
returns-then-is_some c = (refl, still_faulty c.args.assignment.now c.args.i c.args.written c.args.judging.now (sym c.is_some.ensures ∙ c.if-is_some.true))

pub keep-requires : goal.keep-requires
keep-requires c = record { right = no_fault c.args.judging.now.fault (sym c.is_some.ensures ∙ c.if-is_some.false) }

pub returns : goal.returns
returns c =
    let a = c.args.assignment.now in
    let right = no_fault c.args.judging.now.fault (sym c.is_some.ensures ∙ c.if-is_some.false) in
    clean [] _ _ _ refl (sym (next_of_right a c.args.i c.args.written c.args.judging.now right))
    (c.keep.ensures (making_faults c.args.i c.args.written) (reason a (made_of c.args.written)) (c.reason_of.ensures c.args.i refl))
