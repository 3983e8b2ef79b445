-- What a call of the disk showed, as a disk tells it.
use Rattle.follow_cases.specs.declared.growing_disk.Saw.{Saw}
use Rattle.follow_cases.specs.declared.growing_disk.Saw.TheVariants as saw
use Rattle.rtb_disk.specs.Showing.{Shown, bytes_from, length_was}

abbrev pub shown_of : Saw → Shown
shown_of (saw.Bytes place asked bytes) = bytes_from place asked bytes
shown_of (saw.Length count) = length_was count
