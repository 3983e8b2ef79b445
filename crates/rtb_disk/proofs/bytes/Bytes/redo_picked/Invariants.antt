use Rattle.std.proofs.Common.{◌≡◌, drop}
use Rattle.rtb_disk.specs.Crashes.{with_picked}
use Rattle.rtb_disk.proofs.bytes.Bytes.redo_picked.Given as goal

abbrev pub invariant-loop-one : goal.invariant-loop-one
invariant-loop-one l = with_picked l.left (drop l.one-index l.made) l.self ≡ with_picked l.pick l.made l.fn.self
