-- The command `audit`.
use Rattle.std.specs.Prelude.{◌≡◌, ◌⊎◌, ℕ, List, ◌++◌, Option, None, Some, Result, Ok, Err, codes, decimal}
use Rattle.address_keys.specs.declared.keys.Keys.{Keys}
use Rattle.audit.specs.Verdicts.{Audits, IsOfJournal}
use Rattle.audit.specs.declared.verdict.AuditFault.{AuditFault}
use Rattle.audit.specs.declared.verdict.AuditFault.TheVariants as fault
use Rattle.audit.specs.declared.verdict.Verdict.{Verdict}
use Rattle.audit.specs.declared.verdict.Verdict.TheVariants as verdict
use Rattle.link_door.specs.declared.world.World.{Ghosts as WorldGhosts}
use Rattle.recovery.specs.Openings.{IsUnwritten}
use Rattle.rtb_base.specs.Faults.{RisesOnlyWhere}
use Rattle.rtb_disk.specs.declared.disk.Disk.{Ghosts as DiskGhosts}
use Rattle.rtb_io.specs.declared.status.Status.{Status}
use Rattle.rtb_io.specs.declared.status.Status.TheVariants as status
use Rattle.run_commands.specs.Endings.{Ends, EndsBy, damage_line}
use Rattle.run_commands.specs.Given.{GivesDiskToRead, GivesKeys, GivesNoDiskToRead, GivesNoKeys}
use Rattle.run_words.specs.declared.audit.AuditOptions.{AuditOptions}

-- the line of a trace that accounts for itself
abbrev pub legal_line : ℕ → ℕ → List ℕ
legal_line entries passed = codes "legal entries=" ++ decimal entries ++ codes " passed=" ++ decimal passed ++ codes "\n"

-- the line of a trace of which this entry is the first that does not account for its answer
abbrev pub illegal_line : ℕ → List ℕ
illegal_line at = codes "illegal at " ++ decimal at ++ codes "\n"

-- the line of a trace that is torn at the place
abbrev pub torn_line : ℕ → List ℕ
torn_line at = codes "rtbx: trace torn at " ++ decimal at ++ codes "\n"

-- a line that names a number, or memory was wanting for it
abbrev pub EndsNumbered : Status → List ℕ → Option (List ℕ) → Option (List ℕ) → ℕ → Type 0
EndsNumbered end line written written' code = Ends end line written written' code ⊎ EndsBy status.Memory written written' code

-- how a run ends behind what was said of the trace
abbrev pub EndsAudited : Result Verdict AuditFault → Option (List ℕ) → Option (List ℕ) → ℕ → Type 0
EndsAudited (Ok (verdict.Legal entries passed)) written written' code = EndsNumbered status.Done (legal_line entries passed) written written' code
EndsAudited (Ok (verdict.Illegal at)) written written' code = EndsNumbered status.Refused (illegal_line at) written written' code
EndsAudited (Err fault.DiskFailed) written written' code = EndsBy status.JournalFailed written written' code
EndsAudited (Err (fault.Damaged at)) written written' code = EndsNumbered status.Damaged (damage_line at) written written' code
EndsAudited (Err fault.SourceFailed) written written' code = EndsBy status.NotRead written written' code
EndsAudited (Err (fault.Torn at)) written written' code = EndsNumbered status.TraceTorn (torn_line at) written written' code
EndsAudited (Err fault.TooLong) written written' code = EndsBy status.TraceTooLong written written' code
EndsAudited (Err fault.Memory) written written' code = EndsBy status.Memory written written' code

-- What was said of the trace that came from the source, over the journal on the disk, where addresses are signed by the keys, and how the run ends behind it. The
-- journal was read first: where it gives no state nothing was read of the source. No byte was written to the disk. `left`
-- is what the source has, and `faults` its count of faults.
pub record IsAudited {Disk : Type 0} (G : DiskGhosts Disk) (keys : Keys) (disk disk' : Disk) (left left' : Option (List ℕ)) (faults faults' : ℕ) (written written' : Option (List ℕ)) (code : ℕ) : Type 0 where
  pub said : Result Verdict AuditFault
  pub audits : Audits keys (G.store disk) left left' said
  pub first : IsOfJournal said → (left' ≡ left) × (faults' ≡ faults)
  pub unwritten : IsUnwritten (G.store disk) (G.store disk')
  pub disk_cause : RisesOnlyWhere (said ≡ Err fault.DiskFailed) (G.faults disk) (G.faults disk')
  pub source_cause : RisesOnlyWhere (said ≡ Err fault.SourceFailed) faults faults'
  pub ends : EndsAudited said written written' code

-- What the command comes to with these keys, from the world w to the world w': the world gave no disk for the path of the
-- journal, and nothing was read of the source; or it gave one. `back` is the disk that comes back.
pub data RunsAuditWith {World Disk Door Link : Type 0} (W : WorldGhosts World Door Disk Link) (G : DiskGhosts Disk) (path : List ℕ) (keys : Keys) (w w' : World) (left left' : Option (List ℕ)) (faults faults' : ℕ)
    (written written' : Option (List ℕ)) (code : ℕ) (back : Option Disk) : Type 0 where
  no_disk : GivesNoDiskToRead W path w w' → left' ≡ left → faults' ≡ faults → back ≡ None → EndsBy status.NoDisk written written' code
      → RunsAuditWith W G path keys w w' left left' faults faults' written written' code back
  audited : (disk disk' : Disk) → GivesDiskToRead W path w w' disk → back ≡ Some disk' → IsAudited G keys disk disk' left left' faults faults' written written' code
      → RunsAuditWith W G path keys w w' left left' faults faults' written written' code back

-- What the command comes to: memory was short for the words, and nothing was asked for; or a key that is named was not
-- given, or its text is none, and nothing was read of the source; or the keys were given, and then what is asked for with
-- them.
pub data RunsAudit {World Disk Door Link : Type 0} (W : WorldGhosts World Door Disk Link) (G : DiskGhosts Disk) (options : AuditOptions) (w w' : World) (left left' : Option (List ℕ)) (faults faults' : ℕ)
    (written written' : Option (List ℕ)) (code : ℕ) (back : Option Disk) : Type 0 where
  starved : w' ≡ w → left' ≡ left → faults' ≡ faults → back ≡ None → EndsBy status.Memory written written' code
      → RunsAudit W G options w w' left left' faults faults' written written' code back
  no_key : GivesNoKeys W options.key options.former_key w w' → left' ≡ left → faults' ≡ faults → back ≡ None → EndsBy status.NoKey written written' code
      → RunsAudit W G options w w' left left' faults faults' written written' code back
  keyed : (keys : Keys) (between : World) → GivesKeys W options.key options.former_key w between keys
      → RunsAuditWith W G options.journal keys between w' left left' faults faults' written written' code back → RunsAudit W G options w w' left left' faults faults' written written' code back
