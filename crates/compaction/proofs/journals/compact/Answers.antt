use Rattle.std.proofs.Common.{◌≡◌, subst, true}
use Rattle.recovery.specs.Openings.{Opens}
use Rattle.compaction.proofs.Ends.{compacts}
use Rattle.compaction.proofs.journals.compact.Goals as goal

pub returns-in-Ok-clause-compacts : goal.returns-in-Ok-clause-compacts
returns-in-Ok-clause-compacts g c =
    let h = c.write_kept-into.ensures in
    let old = g.D.Disk.store c.args.from in
    let gives = λ (told : old.told ≡ true). subst (Opens old.reads) c.in-Ok.is (c.read_exchange-from.ensures.opened told) in
    compacts c.args.keep (g.D.Disk.store c.args.from) (g.D.Disk.store c.args.into) (g.D.Disk.store c.write_kept-into.result.0) c.args.line.now c.write_kept-into.new.line c.write_kept-into.result.1 c.in-Ok.core.state gives h.read h.line h.writes
