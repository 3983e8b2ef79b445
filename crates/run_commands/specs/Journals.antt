-- What is told of a journal that was not opened or read.
use Rattle.std.specs.Prelude.{◌≡◌, ◌⊎◌, ℕ, List, Option, true}
use Rattle.journal_file.specs.declared.faults.JournalFault.{JournalFault}
use Rattle.journal_file.specs.declared.faults.JournalFault.TheVariants as fault
use Rattle.recovery.specs.Damage.{IsDamagedAt}
use Rattle.rtb_base.specs.Faults.{Rose}
use Rattle.rtb_disk.specs.Stores.{Store}
use Rattle.rtb_io.specs.declared.status.Status.TheVariants as status
use Rattle.run_commands.specs.Endings.{Ends, EndsBy, damage_line}

-- The fault has its cause: the disk's count rose, or the disk as it reads is damaged at the place. Want of
-- memory is free.
abbrev pub HasCause : Store → ℕ → ℕ → JournalFault → Type 0
HasCause store faults faults' fault.DiskFailed = Rose faults faults'
HasCause store faults faults' (fault.Damaged at) = (faults' ≡ faults) × (store.told ≡ true → IsDamagedAt store.reads at)
HasCause store faults faults' fault.Memory = faults' ≡ faults

-- The fault is told by its line. Memory may be wanting for the one that names a place.
abbrev pub EndsAt : JournalFault → Option (List ℕ) → Option (List ℕ) → ℕ → Type 0
EndsAt fault.DiskFailed written written' code = EndsBy status.JournalFailed written written' code
EndsAt (fault.Damaged at) written written' code = Ends status.Damaged (damage_line at) written written' code ⊎ EndsBy status.Memory written written' code
EndsAt fault.Memory written written' code = EndsBy status.Memory written written' code
