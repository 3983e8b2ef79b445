use Rattle.std.proofs.Common.{◌∙◌, ◌++◌, inr, length, arith}
use Rattle.rtb_disk.specs.Stores.{Fails, overwritten, write}
use Rattle.rtb_disk.specs.Images.{torn_part}
use Rattle.journal_file.proofs.Stopping.{on_err}
use Rattle.journal_file.proofs.blocks.write_parts_synced.Goals as goal

pub returns-in_err-sync-clause-failed : goal.returns-in_err-sync-clause-failed
returns-in_err-sync-clause-failed g c = λ told.
    let old = g.D.Disk.store c.args.disk.now in
    let bytes = c.args.head.now ++ c.args.body.now ++ c.args.tail.now in
    let done = c.in_err-sync.ensures.failed (c.in_ok-write_parts.ensures.told ∙ told) ∙ c.in_ok-write_parts.ensures.done told in
    on_err c.from_residual-in_err-sync.result (Fails (write c.args.place (length bytes)) old (g.D.Disk.store c.sync.new.self))
    (inr (overwritten old.reads c.args.place bytes, torn_part old.reads bytes c.args.place (length bytes) (omega arith), done))
