use Rattle.std.proofs.Common.{map, subst}
use Rattle.json_fields.specs.Answers.{IsFirst}
use Rattle.cnf_match.specs.Making.{faults}
use Rattle.which_read.specs.declared.fault.WhichFault.{WhichFault}
use Rattle.which_read.specs.Request.{making_faults}
use Rattle.which_read.proofs.Making.{making_first}
use Rattle.which_read.proofs.expressions.make.Goals as goal

pub returns-in-Err : goal.returns-in-Err
unfolding making_faults
returns-in-Err c = λ place is.
    let written = c.args.written in
    let first = making_first c.args.number (faults written.0 written.1) c.in-Err.fault c.in-Err.ensures.fault in
    subst (λ n. IsFirst WhichFault.Memory (map (WhichFault.Expression n) (faults written.0 written.1)) c.making_fault.result) is (rw c.making_fault.ensures first)
