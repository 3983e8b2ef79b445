-- From what was read and written to what a compaction comes to.
use Rattle.std.proofs.Common.{◌≡◌, ◌≢◌, ℕ, List, ◌++◌, true, refl}
use Rattle.std.specs.Prelude.{OnOk, Result, Ok, Err}
use Rattle.compaction.specs.Lines.{compact_line}
use Rattle.compaction.specs.Writing.{Compacts, Writes}
use Rattle.compaction.specs.declared.fault.CompactionFault.{CompactionFault}
use Rattle.compaction.specs.declared.fault.CompactionFault.TheVariants.{Memory, NotEmpty, NotRead, WriteFailed}
use Rattle.journal_file.specs.declared.faults.JournalFault.{JournalFault}
use Rattle.plain_exchange.specs.State.{State, forget}
use Rattle.recovery.specs.Texts.{GivesState}
use Rattle.rtb_disk.specs.Stores.{Store}

pub compacts : (keep : ℕ) (from into into' : Store) (line line' : List ℕ) (done : Result Unit CompactionFault) (state : State)
    → (from.told ≡ true → GivesState from.reads state) → ((fault : JournalFault) → done ≢ Err (NotRead fault)) → OnOk done (line' ≡ line ++ compact_line (forget keep state))
    → (into.told ≡ true → Writes (forget keep state) into into' done) → Compacts keep from into into' line line' done
compacts keep from into into' line line' (Ok _) state gives read is writes = (state, (gives, writes), is)
compacts keep from into into' line line' (Err NotEmpty) state gives read is writes = (state, (gives, writes))
compacts keep from into into' line line' (Err WriteFailed) state gives read is writes = (state, (gives, writes))
compacts keep from into into' line line' (Err Memory) state gives read is writes = (state, (gives, writes))
compacts keep from into into' line line' (Err (NotRead fault)) state gives read is writes = absurd (read fault refl)
