use Rattle.std.proofs.Common.{◌<◌, ◌∙◌, ap, length, arith}
use Rattle.rtb_disk.specs.Stores.{Store, overwritten, write}
use Rattle.journal_file.specs.Blocks.{compacted_name}
use Rattle.rtb_disk.proofs.Moments.{always_changed, always_failed, always_map, always_then}
use Rattle.journal_file.specs.Unfinished.{BeginsZero, IsUnfinished}
use Rattle.journal_file.proofs.CreationLemmas.{always_not_synced, always_synced, each_synced}
use Rattle.journal_file.proofs.CompactLemmas.{begins_unfinished, name_reads, short_keeps, short_unfinished, zero_keeps, zero_reads}
use Rattle.journal_file.proofs.compaction.name_short.Goals as goal

pub returns-in_err-write_synced-clause-any_moment : goal.returns-in_err-write_synced-clause-any_moment
returns-in_err-write_synced-clause-any_moment g c = λ told here.
    always_not_synced (λ image. length image < 9) IsUnfinished (write 0 1) _ _ short_keeps short_unfinished here (c.in_err-write_synced.ensures.failed told)

pub returns-in_err-write_at-clause-any_moment : goal.returns-in_err-write_at-clause-any_moment
returns-in_err-write_at-clause-any_moment g c = λ told here.
    let s0 = g.D.Disk.store c.args.disk.now in
    let e = c.in_ok-write_synced.ensures.done told in
    let one = always_synced (λ image. length image < 9) IsUnfinished (write 0 1) _ _ _ short_keeps short_unfinished here (begins_unfinished _ (zero_reads s0.reads)) e in
    let each = each_synced BeginsZero (write 0 1) s0 (g.D.Disk.store c.write_synced.new.disk) _ (zero_reads s0.reads) e in
    always_then IsUnfinished _ _ _ one
    (always_map BeginsZero IsUnfinished begins_unfinished _ _ (always_failed BeginsZero _ _ _ (zero_keeps 1 _ (omega arith)) each (c.in_err-write_at.ensures.failed (c.in_ok-write_synced.ensures.told ∙ told))))

pub returns-clause-any_moment : goal.returns-clause-any_moment
returns-clause-any_moment g c = λ told here.
    let s0 = g.D.Disk.store c.args.disk.now in
    let e = c.in_ok-write_synced.ensures.done told in
    let one = always_synced (λ image. length image < 9) IsUnfinished (write 0 1) _ _ _ short_keeps short_unfinished here (begins_unfinished _ (zero_reads s0.reads)) e in
    let each = each_synced BeginsZero (write 0 1) s0 (g.D.Disk.store c.write_synced.new.disk) _ (zero_reads s0.reads) e in
    always_then IsUnfinished _ _ _ one
    (always_map BeginsZero IsUnfinished begins_unfinished _ _ (always_changed BeginsZero _ _ _ _ (zero_keeps 1 _ (omega arith)) each (c.in_ok-write_at.ensures.done (c.in_ok-write_synced.ensures.told ∙ told))))

pub returns-clause-begun : goal.returns-clause-begun
returns-clause-begun g c = λ told.
    let s0 = g.D.Disk.store c.args.disk.now in
    let e = c.in_ok-write_synced.ensures.done told in
    let named = c.in_ok-write_at.ensures.done (c.in_ok-write_synced.ensures.told ∙ told) in
    let each = each_synced BeginsZero (write 0 1) s0 (g.D.Disk.store c.write_synced.new.disk) _ (zero_reads s0.reads) e in (
      ap (λ (s : Store). s.reads) named ∙ ap (overwritten (g.D.Disk.store c.write_synced.new.disk).reads 1) c.as_slice.ensures
          ∙ ap (λ (s : Store). overwritten s.reads 1 compacted_name) e ∙ name_reads s0.reads (c.requires.short told),
      (always_changed BeginsZero _ (g.D.Disk.store c.write_synced.new.disk) (g.D.Disk.store c.write_at.new.self) _ (zero_keeps 1 _ (omega arith)) each named).last,
    )
