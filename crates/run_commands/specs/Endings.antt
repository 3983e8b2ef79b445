-- How a run ends: its status, and the text that goes with it.
use Rattle.std.specs.Prelude.{◌≡◌, ℕ, List, [], ◌++◌, Option, codes, decimal}
use Rattle.std.specs.Io.KnownBytes.{Appends}
use Rattle.rtb_io.specs.Fronts.{AppendsFront}
use Rattle.rtb_io.specs.Statuses.{code_of}
use Rattle.rtb_io.specs.declared.status.Status.{Status}
use Rattle.rtb_io.specs.declared.status.Status.TheVariants as status

-- the line of a status that comes with no reply
abbrev pub line_of : Status → List ℕ
line_of status.Usage = codes "rtbx: usage\n"
line_of status.NoDoor = codes "rtbx: cannot listen\n"
line_of status.NoDisk = codes "rtbx: cannot open journal\n"
line_of status.JournalFailed = codes "rtbx: journal failed\n"
line_of status.DoorFailed = codes "rtbx: accept failed\n"
line_of status.Memory = codes "rtbx: memory\n"
line_of status.NotRead = codes "rtbx: input failed\n"
line_of status.LastWriteFailed = codes "rtbx: last write failed\n"
line_of status.NotEmpty = codes "rtbx: not empty\n"
line_of status.WriteFailed = codes "rtbx: write failed\n"
line_of status.TraceTooLong = codes "rtbx: trace too long\n"
line_of status.NoKey = codes "rtbx: no key\n"
line_of _ = []

-- the line of a journal that is damaged at the place
abbrev pub damage_line : ℕ → List ℕ
damage_line at = codes "rtbx: damaged at " ++ decimal at ++ codes "\n"

-- The run ends with the status, and the text was written; or the sink failed, the run ends with the status for
-- that, and a front of the text was written.
pub data Ends (end : Status) (text : List ℕ) (written written' : Option (List ℕ)) (code : ℕ) : Type 0 where
  whole : code ≡ code_of end → Appends written written' text → Ends end text written written' code
  cut_off : code ≡ code_of status.NotWritten → AppendsFront written written' text → Ends end text written written' code

-- the same, with the status's own line
abbrev pub EndsBy : Status → Option (List ℕ) → Option (List ℕ) → ℕ → Type 0
EndsBy end written written' code = Ends end (line_of end) written written' code
