use Rattle.std.proofs.Common.{◌<◌, ◌∙◌, length}
use Rattle.rtb_disk.specs.Stores.{cut}
use Rattle.rtb_disk.proofs.Moments.{always_then}
use Rattle.journal_file.specs.Unfinished.{IsUnfinished}
use Rattle.journal_file.proofs.CreationLemmas.{always_not_synced, always_synced, each_same, each_synced}
use Rattle.journal_file.proofs.CompactLemmas.{cut_keeps, cut_short, short_unfinished}
use Rattle.journal_file.proofs.compaction.cut_and_name.Goals as goal

pub returns-in_err-cut_synced-clause-any_moment : goal.returns-in_err-cut_synced-clause-any_moment
returns-in_err-cut_synced-clause-any_moment g c = λ told only un.
    always_not_synced IsUnfinished IsUnfinished (cut 8) _ _ cut_keeps (λ i u. u) (each_same IsUnfinished (g.D.Disk.store c.args.disk.now) only un) (c.in_err-cut_synced.ensures.failed told)

pub returns-clause-any_moment : goal.returns-clause-any_moment
returns-clause-any_moment g c = λ told only un.
    let s0 = g.D.Disk.store c.args.disk.now in
    let e = c.in_ok-cut_synced.ensures.done told in
    let one = always_synced IsUnfinished IsUnfinished (cut 8) _ _ _ cut_keeps (λ i u. u) (each_same IsUnfinished (g.D.Disk.store c.args.disk.now) only un) (short_unfinished _ (cut_short s0.reads)) e in
    let each = each_synced (λ image. length image < 9) (cut 8) s0 (g.D.Disk.store c.cut_synced.new.disk) _ (cut_short s0.reads) e in
    always_then IsUnfinished _ _ _ one (c.name_short.ensures.any_moment (c.in_ok-cut_synced.ensures.told ∙ told) each)

pub returns-clause-begun : goal.returns-clause-begun
returns-clause-begun g c = λ told. c.name_short.ensures.begun (c.in_ok-cut_synced.ensures.told ∙ told)
