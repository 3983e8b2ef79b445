use Rattle.std.proofs.Common.{refl, subst, sym}
use Rattle.run_commands.specs.Beside.{IsLeft, untold}
use Rattle.run_commands.proofs.Following.{left}
use Rattle.run_commands.proofs.beside_command.announce.Goals as goal

pub returns-in-Ok-clause-ends : goal.returns-in-Ok-clause-ends
returns-in-Ok-clause-ends g c = λ first into started.
    c.end_behind.ensures.ends first into (g.K.Sink.written c.args.sink.now) started c.in-Ok.ensures.ok

pub returns-in-Err-clause-ends : goal.returns-in-Err-clause-ends
returns-in-Err-clause-ends g c = λ first into started.
    untold refl refl refl c.in-Err.ensures.err
    (subst (λ d. IsLeft g.W.Disk.Disk first c.args.from into d) (sym c.into_disk.ensures) (left c.args.options.now.keep first c.args.from into c.args.beside started))
