use Rattle.std.proofs.Common.{◌<◌, ◌≤◌, length, arith}
use Rattle.journal_file.specs.Creations.{IsUnopened}
use Rattle.journal_file.proofs.CreationLemmas.{each_same, nine_unopened}
use Rattle.journal_file.proofs.creation.create.Goals as goal

pub returns-then-size-lt9-clause-long : goal.returns-then-size-lt9-clause-long
returns-then-size-lt9-clause-long g c = c.create_anew.ensures.long

pub returns-then-size-lt9-clause-kept : goal.returns-then-size-lt9-clause-kept
returns-then-size-lt9-clause-kept g c = λ told only torn.
    let s = g.D.Disk.store c.args.disk.now in
    let short : length s.reads < 9 = omega (arith, c.requires.size told) in
    c.create_anew.ensures.kept told (each_same (λ image. length image < 9) s only short)

pub returns-then-size-lt9-clause-opened : goal.returns-then-size-lt9-clause-opened
returns-then-size-lt9-clause-opened g c = λ told only torn.
    let s = g.D.Disk.store c.args.disk.now in
    let short : length s.reads < 9 = omega (arith, c.requires.size told) in
    c.create_anew.ensures.opened told (each_same (λ image. length image < 9) s only short)

pub returns-then-size-lt9-clause-told : goal.returns-then-size-lt9-clause-told
returns-then-size-lt9-clause-told g c = c.create_anew.ensures.told

pub returns-then-size-lt9-clause-cause : goal.returns-then-size-lt9-clause-cause
returns-then-size-lt9-clause-cause g c = c.create_anew.ensures.cause

pub returns-clause-long : goal.returns-clause-long
returns-clause-long g c = c.name_and_open.ensures.long

pub returns-clause-kept : goal.returns-clause-kept
returns-clause-kept g c = λ told only torn.
    let s = g.D.Disk.store c.args.disk.now in
    let long : 9 ≤ length s.reads = omega (arith, c.requires.size told) in
    c.name_and_open.ensures.kept told (each_same IsUnopened s only (nine_unopened s.reads torn long))

pub returns-clause-opened : goal.returns-clause-opened
returns-clause-opened g c = λ told only torn.
    let s = g.D.Disk.store c.args.disk.now in
    let long : 9 ≤ length s.reads = omega (arith, c.requires.size told) in
    c.name_and_open.ensures.opened told (each_same IsUnopened s only (nine_unopened s.reads torn long))

pub returns-clause-told : goal.returns-clause-told
returns-clause-told g c = c.name_and_open.ensures.told

pub returns-clause-cause : goal.returns-clause-cause
returns-clause-cause g c = c.name_and_open.ensures.cause
