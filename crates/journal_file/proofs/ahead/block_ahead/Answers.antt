use Rattle.std.proofs.Common.{◌<◌, ℕ, drop, length, subst}
use Rattle.std.specs.Prelude.{IfSome, Ok, Option, Some}
use Rattle.journal_file.specs.Damage.{IsBlockAt}
use Rattle.journal_file.proofs.ahead.block_ahead.Goals as goal

pub returns-in-Some-clause-block : goal.returns-in-Some-clause-block
returns-in-Some-clause-block g c = λ told.
    let image = (g.D.Disk.store c.args.disk.now).reads in
    subst (λ (o : Option ℕ). IfSome o (λ next. IsBlockAt c.args.gate (drop c.args.gate image) c.args.out.now c.block.new.out (Ok (Some next)))) c.in-Some.is
    (c.in_ok-next.ensures.block image (c.requires.held told))

pub returns-in-Some-clause-inside : goal.returns-in-Some-clause-inside
returns-in-Some-clause-inside g c = λ told.
    let image = (g.D.Disk.store c.args.disk.now).reads in
    subst (λ (o : Option ℕ). IfSome o (λ next. next < length image)) c.in-Some.is (c.in_ok-next.ensures.inside image (c.requires.held told))
