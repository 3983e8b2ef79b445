use Rattle.std.proofs.Common.{[], ◌∷◌, ◌++◌, subst, sym}
use Rattle.std.specs.Prelude.{Bool, Ok}
use Rattle.std.proofs.lemmas.List.{append-nil}
use Rattle.compaction.specs.Passing.{Steps}
use Rattle.compaction.proofs.Gathered.{begun_stays}
use Rattle.journal_file.specs.Compaction.{Adds}
use Rattle.compaction.proofs.passing.write_block.Goals as goal

pub returns-in-Ok-clause-steps : goal.returns-in-Ok-clause-steps
returns-in-Ok-clause-steps g c =
    let payload = c.pass_block.new.payload in
    let steps = subst (λ (b : Bool). Steps g.D.Disk c.args.from.now c.pass_block.new.from payload c.args.core.now.state c.pass_block.new.core.state c.args.gate.now c.pass_block.new.gate (Ok b)) c.in-Ok-true.field-0-test c.in-Ok-true.ensures.steps in
    (payload ∷ [], steps, λ written adds. subst (λ block. Adds c.add.new.self (written ++ block ∷ [])) c.as_bytes.ensures.value (c.in-Ok.ensures.added written adds))

pub returns-in-Ok-false-clause-steps : goal.returns-in-Ok-false-clause-steps
returns-in-Ok-false-clause-steps g c =
    let payload = c.pass_block.new.payload in
    let steps = subst (λ (b : Bool). Steps g.D.Disk c.args.from.now c.pass_block.new.from payload c.args.core.now.state c.pass_block.new.core.state c.args.gate.now c.pass_block.new.gate (Ok b)) c.in-Ok-false.field-0-test c.in-Ok-false.ensures.steps in
    (steps, λ written adds. subst (λ l. Adds c.args.file.now l) (sym (append-nil written)) adds)

pub returns-in-Ok-false-clause-any_moment : goal.returns-in-Ok-false-clause-any_moment
returns-in-Ok-false-clause-any_moment g c = λ written adds. begun_stays c.args.file.now written adds

pub returns-in-Err-clause-any_moment : goal.returns-in-Err-clause-any_moment
returns-in-Err-clause-any_moment g c = λ written adds. begun_stays c.args.file.now written adds

pub returns-in-Err-clause-steps : goal.returns-in-Err-clause-steps
returns-in-Err-clause-steps g c = c.in-Err.ensures.steps
