use Rattle.std.proofs.Common.{◌++◌, ◌∙◌, take}
use Rattle.std.proofs.KnownBytes.{Appends-trans}
use Rattle.rtb_io.proofs.Moved.{moved_front}
use Rattle.rtb_io.proofs.write_all.Goals as goal

pub loop-rest-preserved : goal.loop-rest-preserved
loop-rest-preserved g c =
    let (done, split, appended) = c.loop-rest.invariant.went in
    let rest = c.loop-rest.rest.now in
    let n = c.in_ok-n.n in
    record {
      went = (done ++ take n rest, moved_front _ done rest n split, Appends-trans _ _ _ _ _ appended c.in_ok-n.ensures.bytes);
      counted = c.in_ok-n.ensures.cause ∙ c.loop-rest.invariant.counted;
    }
