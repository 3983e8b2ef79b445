use Rattle.std.proofs.Common.{◌≡◌, drop}
use Rattle.rtb_disk.specs.Record.{all_done}
use Rattle.rtb_disk.proofs.bytes.Bytes.redo_all.Given as goal

abbrev pub invariant-loop-one : goal.invariant-loop-one
invariant-loop-one l = all_done (drop l.one-index l.made) l.self ≡ all_done l.made l.fn.self
