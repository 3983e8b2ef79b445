-- The numbers with which a program ends.
use Rattle.std.specs.Prelude.{ℕ}
use Rattle.rtb_io.specs.declared.status.Status.{Status}
use Rattle.rtb_io.specs.declared.status.Status.TheVariants.{Done, Refused, Usage, NoDoor, NoDisk, JournalFailed, Damaged, NotWritten, DoorFailed, Memory, NotRead, LastWriteFailed, NotEmpty, WriteFailed, TraceTorn, TraceTooLong, NoKey}

abbrev pub code_of : Status → ℕ
code_of Done = 0
code_of Refused = 1
code_of Usage = 2
code_of NoDoor = 3
code_of NoDisk = 4
code_of JournalFailed = 5
code_of Damaged = 6
code_of NotWritten = 7
code_of DoorFailed = 8
code_of Memory = 9
code_of NotRead = 10
code_of LastWriteFailed = 11
code_of NotEmpty = 12
code_of WriteFailed = 13
code_of TraceTorn = 14
code_of TraceTooLong = 15
code_of NoKey = 16
