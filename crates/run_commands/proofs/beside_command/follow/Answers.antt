use Rattle.std.proofs.Common.{◌∙◌, Option, Result, ap, subst, sym}
use Rattle.std.specs.Prelude.{Err, Ok}
use Rattle.std.proofs.lemmas.Result.{err_from_is_err_and}
use Rattle.compaction.specs.declared.fault.CompactionFault.{CompactionFault}
use Rattle.rtb_num.specs.declared.streams.Failed.{Failed}
use Rattle.run_commands.specs.Turns.{Followed, Turned}
use Rattle.run_commands.proofs.Following.{freed_then, not_freed_then, waits_none, waits_then}
use Rattle.run_commands.proofs.beside_command.follow.Goals as goal

pub loop-init : goal.loop-init
loop-init g c = record { started = λ keep first into started. (waits_none g.W.World c.args.world.now, started); whole = c.requires.whole }

pub returns-in_err-follow_once-clause-followed : goal.returns-in_err-follow_once-clause-followed
returns-in_err-follow_once-clause-followed g c = λ keep first into started.
    let end = c.follow_once.new in
    let inv = c.loop.invariant.started keep first into started in
    let t = c.in_err-follow_once.ensures.turned keep first into inv.1 in
    let p = err_from_is_err_and c.from_residual.result c.from_residual.ensures.1 in
    subst (λ (r : Result (Option g.row.W-Disk.Denot) CompactionFault). Followed g.W.World c.args.path.now keep first into c.args.world.now end.world end.from end.beside r) (sym (p.1 ∙ ap Err p.2))
    (waits_then g.W.World c.args.world.now c.loop.world end.world inv.0 t.0, t.1)

pub returns-in-Ok-Some-clause-followed : goal.returns-in-Ok-Some-clause-followed
returns-in-Ok-Some-clause-followed g c = λ keep first into started.
    let end = c.follow_once.new in
    let inv = c.loop.invariant.started keep first into started in
    let t = subst (λ (r : Result (Option g.row.W-Disk.Denot) Failed). Turned g.W.World c.args.path.now keep first into c.loop.world end.world end.from end.beside (Ok r)) (c.in-Ok-Some.is ∙ ap Ok c.in-Ok-Some.field-0-is) (c.in_ok-follow_once.ensures.turned keep first into inv.1) in
    (freed_then g.W.World c.args.path.now c.args.world.now c.loop.world end.world c.in-Ok-Some.disk inv.0 t.0, t.1)

pub returns-in-Err-clause-followed : goal.returns-in-Err-clause-followed
returns-in-Err-clause-followed g c = λ keep first into started.
    let end = c.follow_once.new in
    let inv = c.loop.invariant.started keep first into started in
    let t = subst (λ (r : Result (Option g.row.W-Disk.Denot) Failed). Turned g.W.World c.args.path.now keep first into c.loop.world end.world end.from end.beside (Ok r)) c.in-Err.is (c.in_ok-follow_once.ensures.turned keep first into inv.1) in
    (not_freed_then g.W.World c.args.path.now c.args.world.now c.loop.world end.world inv.0 t.0, t.1)

pub loop-preserved : goal.loop-preserved
loop-preserved g c = record {
  started = λ keep first into started.
      (let end = c.follow_once.new in
      let inv = c.loop.invariant.started keep first into started in
      let t = subst (λ (r : Result (Option g.row.W-Disk.Denot) Failed). Turned g.W.World c.args.path.now keep first into c.loop.world end.world end.from end.beside (Ok r)) (c.in-Ok-None.is ∙ ap Ok c.in-Ok-None.field-0-is) (c.in_ok-follow_once.ensures.turned keep first into inv.1) in
      (waits_then g.W.World c.args.world.now c.loop.world end.world inv.0 t.0, t.1));
  whole = c.in_ok-follow_once.ensures.whole;
}
