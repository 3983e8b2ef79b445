use Rattle.std.proofs.Common.{◌∙◌, inl, [], ◌∷◌}
use Rattle.rtb_disk.specs.Stores.{write}
use Rattle.rtb_disk.proofs.Moments.{always_then}
use Rattle.journal_file.specs.Blocks.{HasBlocks, StandsFor, created_name}
use Rattle.journal_file.specs.Creations.{IsNamed, IsUnopened}
use Rattle.journal_file.proofs.CreationLemmas.{always_not_synced, always_synced, each_synced, named_keeps, named_reads, named_stands, opened_reads, unopened_keeps, unopened_stands}
use Rattle.journal_file.proofs.creation.name_and_open.Goals as goal

pub returns-in_err-write_synced-clause-kept : goal.returns-in_err-write_synced-clause-kept
returns-in_err-write_synced-clause-kept g c = λ told here.
    always_not_synced IsUnopened (StandsFor (created_name ∷ []) []) (write 1 8) _ _ unopened_keeps unopened_stands here (c.in_err-write_synced.ensures.failed told)

pub returns-in_err-write_synced-2-clause-kept : goal.returns-in_err-write_synced-2-clause-kept
returns-in_err-write_synced-2-clause-kept g c = λ told here.
    let s0 = g.D.Disk.store c.args.disk.now in
    let named = named_reads s0.reads (here s0.reads (g.met.D.Disk.stands c.args.disk.now told)) in
    let e = c.in_ok-write_synced.ensures.done told in
    let one = always_synced IsUnopened (StandsFor (created_name ∷ []) []) (write 1 8) _ _ _ unopened_keeps unopened_stands here (named_stands _ named) e in
    let each = each_synced IsNamed (write 1 8) s0 (g.D.Disk.store c.write_synced.new.disk) _ named e in
    always_then (StandsFor (created_name ∷ []) []) _ _ _ one (always_not_synced IsNamed (StandsFor (created_name ∷ []) []) (write 0 1) _ _ named_keeps named_stands each (c.in_err-write_synced-2.ensures.failed (c.in_ok-write_synced.ensures.told ∙ told)))

pub returns-clause-kept : goal.returns-clause-kept
returns-clause-kept g c = λ told here.
    let s0 = g.D.Disk.store c.args.disk.now in
    let named = named_reads s0.reads (here s0.reads (g.met.D.Disk.stands c.args.disk.now told)) in
    let told1 = c.in_ok-write_synced.ensures.told ∙ told in
    let e = c.in_ok-write_synced.ensures.done told in
    let one = always_synced IsUnopened (StandsFor (created_name ∷ []) []) (write 1 8) _ _ _ unopened_keeps unopened_stands here (named_stands _ named) e in
    let each = each_synced IsNamed (write 1 8) s0 (g.D.Disk.store c.write_synced.new.disk) _ named e in
    let opened = opened_reads _ (each _ (g.met.D.Disk.stands c.write_synced.new.disk told1)) in
    always_then (StandsFor (created_name ∷ []) []) _ _ _ one (always_synced IsNamed (StandsFor (created_name ∷ []) []) (write 0 1) _ _ _ named_keeps named_stands each (inl opened) (c.in_ok-write_synced-2.ensures.done told1))

pub returns-clause-opened : goal.returns-clause-opened
returns-clause-opened g c = λ told here.
    let s0 = g.D.Disk.store c.args.disk.now in
    let named = named_reads s0.reads (here s0.reads (g.met.D.Disk.stands c.args.disk.now told)) in
    let told1 = c.in_ok-write_synced.ensures.told ∙ told in
    let each = each_synced IsNamed (write 1 8) s0 (g.D.Disk.store c.write_synced.new.disk) _ named (c.in_ok-write_synced.ensures.done told) in
    let opened = opened_reads _ (each _ (g.met.D.Disk.stands c.write_synced.new.disk told1)) in
    each_synced (HasBlocks (created_name ∷ []) []) (write 0 1) (g.D.Disk.store c.write_synced.new.disk) (g.D.Disk.store c.write_synced-2.new.disk) _ opened (c.in_ok-write_synced-2.ensures.done told1)
