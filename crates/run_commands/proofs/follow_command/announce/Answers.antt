use Rattle.std.proofs.Common.{◌∙◌, ap, refl}
use Rattle.run_commands.specs.Follow.{told, untold}
use Rattle.run_commands.proofs.follow_command.announce.Goals as goal

pub returns-in-Ok-clause-reports : goal.returns-in-Ok-clause-reports
returns-in-Ok-clause-reports g c =
    let h = c.serve_reports-done.ensures in
    let new = c.new-follower.ensures in
    told (record {
      before = c.new-follower.result;
      after = c.serve_reports-done.new.follower;
      new = record { disk_is = new.disk; state = new.state; count = new.count; within = new.within };
      reports = h.served;
      disk_is = c.into_disk.ensures;
      unwritten = ap g.D.Disk.store c.into_disk.ensures ∙ h.served.follows.same ∙ ap g.D.Disk.store new.disk;
      done = c.serve_reports-done.result;
      all = h.all;
      cause = h.cause;
      announced = g.K.Sink.written c.write_all.new.sink;
      line = c.in-Ok.ensures.ok;
      ends = c.end_behind.ensures.ends;
    })

pub returns-in-Err-clause-reports : goal.returns-in-Err-clause-reports
returns-in-Err-clause-reports g c = untold refl refl refl c.in-Err.ensures.err
