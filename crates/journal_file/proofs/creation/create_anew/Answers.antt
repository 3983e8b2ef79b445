use Rattle.std.proofs.Common.{◌<◌, ◌∙◌, [], ◌∷◌, length}
use Rattle.rtb_disk.specs.Stores.{write}
use Rattle.rtb_disk.proofs.Moments.{always_then}
use Rattle.journal_file.specs.Blocks.{StandsFor, created_name}
use Rattle.journal_file.specs.Creations.{IsUnopened}
use Rattle.journal_file.proofs.CreationLemmas.{always_not_synced, always_synced, closed_reads, each_synced, short_keeps, short_stands, unopened_stands}
use Rattle.journal_file.proofs.creation.create_anew.Goals as goal

pub returns-in_err-write_synced-clause-kept : goal.returns-in_err-write_synced-clause-kept
returns-in_err-write_synced-clause-kept g c = λ told here.
    always_not_synced (λ image. length image < 9) (StandsFor (created_name ∷ []) []) (write 0 1) _ _ short_keeps short_stands here (c.in_err-write_synced.ensures.failed told)

pub returns-clause-kept : goal.returns-clause-kept
returns-clause-kept g c = λ told here.
    let s0 = g.D.Disk.store c.args.disk.now in
    let closed = closed_reads s0.reads (here s0.reads (g.met.D.Disk.stands c.args.disk.now told)) in
    let e = c.in_ok-write_synced.ensures.done told in
    let one = always_synced (λ image. length image < 9) (StandsFor (created_name ∷ []) []) (write 0 1) _ _ _ short_keeps short_stands here (unopened_stands _ closed) e in
    let each = each_synced IsUnopened (write 0 1) s0 (g.D.Disk.store c.write_synced.new.disk) _ closed e in
    always_then (StandsFor (created_name ∷ []) []) _ _ _ one (c.name_and_open.ensures.kept (c.in_ok-write_synced.ensures.told ∙ told) each)

pub returns-clause-opened : goal.returns-clause-opened
returns-clause-opened g c = λ told here.
    let s0 = g.D.Disk.store c.args.disk.now in
    let closed = closed_reads s0.reads (here s0.reads (g.met.D.Disk.stands c.args.disk.now told)) in
    let each = each_synced IsUnopened (write 0 1) s0 (g.D.Disk.store c.write_synced.new.disk) _ closed (c.in_ok-write_synced.ensures.done told) in
    c.name_and_open.ensures.opened (c.in_ok-write_synced.ensures.told ∙ told) each

pub returns-clause-long : goal.returns-clause-long
returns-clause-long g c = λ told. c.name_and_open.ensures.long (c.in_ok-write_synced.ensures.told ∙ told)
