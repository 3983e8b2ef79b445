use Rattle.std.proofs.Common.{◌∙◌, [], ap, subst, sym}
use Rattle.std.specs.Prelude.{Err, Result}
use Rattle.std.proofs.lemmas.Result.{err_from_is_err_and}
use Rattle.compaction.specs.Passing.{IsJournalRead, ReadWhole}
use Rattle.compaction.proofs.Passed.{foreign_stops, journal_read, none_read}
use Rattle.journal_file.specs.declared.faults.JournalFault.{JournalFault}
use Rattle.plain_exchange.specs.State.{State, empty}
use Rattle.rtb_base.proofs.Chains.{RisesOnlyWhere-last}
use Rattle.compaction.proofs.beside.read_journal.Goals as goal

pub returns-in_err-read_header-clause-read : goal.returns-in_err-read_header-clause-read
returns-in_err-read_header-clause-read g c =
    let p = err_from_is_err_and c.from_residual.result c.from_residual.ensures.1 in
    let is = p.1 ∙ ap Err p.2 in
    subst (λ (r : Result Unit JournalFault). IsJournalRead g.D.Disk c.args.from.now c.read_header.new.disk c.args.core.now.state c.args.gate.now r) (sym is) tt

pub returns-in-Journal-clause-read : goal.returns-in-Journal-clause-read
returns-in-Journal-clause-read g c =
    let h = c.in_ok-read_header.ensures in
    journal_read g.D.Disk c.args.from.now c.read_header.new.disk _ h.begins h.shows c.in-Journal.is c.read_blocks.new.from h.same c.args.gate.now c.read_blocks.new.gate c.args.core.now.state c.read_blocks.new.core.state c.read_blocks.result c.requires.first c.requires.empty c.read_blocks.ensures.read

pub returns-in-Journal-clause-cause : goal.returns-in-Journal-clause-cause
returns-in-Journal-clause-cause g c = RisesOnlyWhere-last _ (g.D.Disk.faults c.args.from.now) (g.D.Disk.faults c.read_header.new.disk) (g.D.Disk.faults c.read_blocks.new.from) c.in_ok-read_header.ensures.cause c.read_blocks.ensures.cause

pub returns-in-Creation-clause-read : goal.returns-in-Creation-clause-read
returns-in-Creation-clause-read g c =
    let h = c.in_ok-read_header.ensures in
    let old = c.args.from.now in
    let mid = c.read_header.new.disk in (
      [],
      subst (λ n. ReadWhole g.D.Disk old mid [] c.args.core.now.state n) (sym c.requires.first)
          (subst (λ (s : State). ReadWhole g.D.Disk old mid [] s 8) (sym c.requires.empty) (none_read g.D.Disk old mid _ h.begins h.shows c.in-Creation.is)),
    )

pub returns-in-Foreign-clause-read : goal.returns-in-Foreign-clause-read
returns-in-Foreign-clause-read g c =
    let h = c.in_ok-read_header.ensures in
    foreign_stops g.D.Disk c.args.from.now c.read_header.new.disk _ h.begins h.shows [] [] c.in-Foreign.is
