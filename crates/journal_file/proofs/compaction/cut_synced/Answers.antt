use Rattle.std.proofs.Common.{◌∙◌, inr, take}
use Rattle.rtb_disk.specs.Stores.{Fails, cut}
use Rattle.rtb_disk.specs.Images.{cut_part}
use Rattle.journal_file.proofs.Stopping.{on_err}
use Rattle.journal_file.proofs.compaction.cut_synced.Goals as goal

pub returns-in_err-sync-clause-failed : goal.returns-in_err-sync-clause-failed
returns-in_err-sync-clause-failed g c = λ told.
    let old = g.D.Disk.store c.args.disk.now in
    let done = c.in_err-sync.ensures.failed (c.in_ok-cut.ensures.told ∙ told) ∙ c.in_ok-cut.ensures.done told in
    on_err c.from_residual-in_err-sync.result (Fails (cut c.args.count) old (g.D.Disk.store c.sync.new.self))
    (inr (take c.args.count old.reads, cut_part old.reads c.args.count, done))
