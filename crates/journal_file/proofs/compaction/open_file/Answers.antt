use Rattle.std.proofs.Common.{◌∙◌, inl, inr, [], ◌∷◌}
use Rattle.rtb_disk.specs.Stores.{write}
use Rattle.rtb_disk.proofs.Moments.{always_then}
use Rattle.journal_file.specs.Blocks.{HasBlocks, compacted_name}
use Rattle.journal_file.specs.Unfinished.{BeginsZero, IsUnfinishedOr}
use Rattle.journal_file.proofs.CreationLemmas.{always_not_synced, always_synced, each_synced}
use Rattle.journal_file.proofs.CompactLemmas.{IsSealed, begins_unfinished, opened_reads, sealed_either, sealed_keeps, sealed_reads, zero_keeps}
use Rattle.journal_file.proofs.compaction.open_file.Goals as goal

pub returns-in_err-write_synced-clause-any_moment : goal.returns-in_err-write_synced-clause-any_moment
returns-in_err-write_synced-clause-any_moment g c = λ told payloads is reads here.
    always_not_synced BeginsZero (IsUnfinishedOr payloads) (write c.args.end 1) _ _ (zero_keeps c.args.end 1 c.requires.first) (λ i z. inl (begins_unfinished i z)) here (c.in_err-write_synced.ensures.failed told)

pub returns-in_err-write_synced-2-clause-any_moment : goal.returns-in_err-write_synced-2-clause-any_moment
returns-in_err-write_synced-2-clause-any_moment g c = λ told payloads is reads here.
    let s0 = g.D.Disk.store c.args.disk.now in
    let sealed = sealed_reads payloads s0.reads c.args.end is reads in
    let e = c.in_ok-write_synced.ensures.done told in
    let one = always_synced BeginsZero (IsUnfinishedOr payloads) (write c.args.end 1) _ _ _ (zero_keeps c.args.end 1 c.requires.first) (λ i z. inl (begins_unfinished i z)) here (sealed_either payloads _ sealed) e in
    let each = each_synced (IsSealed payloads) (write c.args.end 1) s0 (g.D.Disk.store c.write_synced.new.disk) _ sealed e in
    always_then (IsUnfinishedOr payloads) _ _ _ one
    (always_not_synced (IsSealed payloads) (IsUnfinishedOr payloads) (write 0 1) _ _ (sealed_keeps payloads) (sealed_either payloads) each (c.in_err-write_synced-2.ensures.failed (c.in_ok-write_synced.ensures.told ∙ told)))

pub returns-clause-finished : goal.returns-clause-finished
returns-clause-finished g c = λ told payloads is reads.
    let s0 = g.D.Disk.store c.args.disk.now in
    let told1 = c.in_ok-write_synced.ensures.told ∙ told in
    let sealed = sealed_reads payloads s0.reads c.args.end is reads in
    let each = each_synced (IsSealed payloads) (write c.args.end 1) s0 (g.D.Disk.store c.write_synced.new.disk) _ sealed (c.in_ok-write_synced.ensures.done told) in
    let opened = opened_reads payloads _ (each _ (g.met.D.Disk.stands c.write_synced.new.disk told1)) in
    each_synced (HasBlocks (compacted_name ∷ []) payloads) (write 0 1) (g.D.Disk.store c.write_synced.new.disk) (g.D.Disk.store c.write_synced-2.new.disk) _ opened (c.in_ok-write_synced-2.ensures.done told1)

pub returns-clause-any_moment : goal.returns-clause-any_moment
returns-clause-any_moment g c = λ told payloads is reads here.
    let s0 = g.D.Disk.store c.args.disk.now in
    let told1 = c.in_ok-write_synced.ensures.told ∙ told in
    let sealed = sealed_reads payloads s0.reads c.args.end is reads in
    let e = c.in_ok-write_synced.ensures.done told in
    let one = always_synced BeginsZero (IsUnfinishedOr payloads) (write c.args.end 1) _ _ _ (zero_keeps c.args.end 1 c.requires.first) (λ i z. inl (begins_unfinished i z)) here (sealed_either payloads _ sealed) e in
    let each = each_synced (IsSealed payloads) (write c.args.end 1) s0 (g.D.Disk.store c.write_synced.new.disk) _ sealed e in
    let opened = opened_reads payloads _ (each _ (g.met.D.Disk.stands c.write_synced.new.disk told1)) in
    always_then (IsUnfinishedOr payloads) _ _ _ one
    (always_synced (IsSealed payloads) (IsUnfinishedOr payloads) (write 0 1) _ _ _ (sealed_keeps payloads) (sealed_either payloads) each (inr opened) (c.in_ok-write_synced-2.ensures.done told1))
