use Rattle.std.proofs.Common.{◌∙◌, Option, Result, ap, refl, subst, sym}
use Rattle.std.specs.Prelude.{Ok}
use Rattle.compaction.specs.declared.fault.CompactionFault.{CompactionFault}
use Rattle.run_commands.specs.Beside.{IsBroken, IsLeft, broken, freed, not_freed}
use Rattle.run_commands.specs.Turns.{Followed}
use Rattle.run_commands.proofs.Following.{left}
use Rattle.run_commands.proofs.beside_command.end_behind.Goals as goal

pub returns-in-Ok-Some-clause-ends : goal.returns-in-Ok-Some-clause-ends
returns-in-Ok-Some-clause-ends g c = λ first into before started line.
    let o = c.args.options.now in
    let end = c.follow.new in
    let h = subst (λ (r : Result (Option g.row.W-Disk.Denot) CompactionFault). Followed g.W.World o.journal o.keep first into c.args.world.now end.world end.from end.beside r) (c.in-Ok-Some.is ∙ ap Ok c.in-Ok-Some.field-0-is) (c.follow.ensures.followed o.keep first into started) in
    let f = c.finish.ensures.finishes o.keep first into h.1 in
    freed (g.K.Sink.written c.args.sink.now) line c.in-Ok-Some.last f.given' h.0 f.last_is f.line f.done f.ended f.told

pub returns-in-Ok-None-clause-ends : goal.returns-in-Ok-None-clause-ends
returns-in-Ok-None-clause-ends g c = λ first into before started line.
    let o = c.args.options.now in
    let end = c.follow.new in
    let h = subst (λ (r : Result (Option g.row.W-Disk.Denot) CompactionFault). Followed g.W.World o.journal o.keep first into c.args.world.now end.world end.from end.beside r) (c.in-Ok-None.is ∙ ap Ok c.in-Ok-None.field-0-is) (c.follow.ensures.followed o.keep first into started) in
    not_freed (g.K.Sink.written c.args.sink.now) line h.0 refl
    (subst (λ d. IsLeft g.W.Disk.Disk first end.from into d) (sym c.into_disk.ensures) (left o.keep first end.from into end.beside h.1)) c.end_with.ensures.ends

pub returns-in-Err-clause-ends : goal.returns-in-Err-clause-ends
returns-in-Err-clause-ends g c = λ first into before started line.
    let o = c.args.options.now in
    let end = c.follow.new in
    let h = c.in-Err.ensures.followed o.keep first into started in
    broken (g.K.Sink.written c.args.sink.now) line h.0 refl c.in-Err.fault
    (subst (λ d. IsBroken g.W.Disk.Disk o.keep first end.from into d c.in-Err.fault) (sym c.into_disk-in-Err.ensures) h.1) c.end_fault.ensures.ends
