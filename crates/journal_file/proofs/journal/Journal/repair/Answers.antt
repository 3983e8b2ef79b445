use Rattle.rtb_disk.proofs.Moments.{always_then}
use Rattle.journal_file.specs.Standing.{Broken}
use Rattle.journal_file.proofs.Stopping.{on_err}
use Rattle.journal_file.proofs.journal.Journal.repair.Goals as goal

pub returns-in_ok-place-in-Block-clause-any_moment : goal.returns-in_ok-place-in-Block-clause-any_moment
returns-in_ok-place-in-Block-clause-any_moment g c = λ names payloads b.
    always_then _ _ _ _ (c.in_ok-place-in-Block.ensures.any_moment names payloads b)
    (c.open.ensures.any_moment names payloads c.args.block.now (c.in_ok-place-in-Block.ensures.broken names payloads b))

pub returns-in_err-place-in-Block-clause-stopped : goal.returns-in_err-place-in-Block-clause-stopped
returns-in_err-place-in-Block-clause-stopped g c = λ names payloads b.
    on_err c.from_residual.result (Broken {D = g.row.D.Denot} {G = g.D.Disk} names c.place.new.self payloads c.args.block.now) (c.in_err-place-in-Block.ensures.broken names payloads b)

pub returns-in_ok-place-in-Block-clause-added : goal.returns-in_ok-place-in-Block-clause-added
returns-in_ok-place-in-Block-clause-added g c = λ names payloads b.
    c.open.ensures.added names payloads c.args.block.now (c.in_ok-place-in-Block.ensures.broken names payloads b)

pub returns-in_ok-place-in-Block-clause-stopped : goal.returns-in_ok-place-in-Block-clause-stopped
returns-in_ok-place-in-Block-clause-stopped g c = λ names payloads b.
    c.open.ensures.stopped names payloads c.args.block.now (c.in_ok-place-in-Block.ensures.broken names payloads b)

pub returns-in-Gate-clause-any_moment : goal.returns-in-Gate-clause-any_moment
returns-in-Gate-clause-any_moment g c = λ names payloads b. c.open-in-Gate.ensures.any_moment names payloads c.args.block.now b
