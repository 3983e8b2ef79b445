use Rattle.std.proofs.Common.{◌∙◌, ap}
use Rattle.conj_index.specs.Find.{key_place}
use Rattle.conj_index.proofs.Loops.{found_step}
use Rattle.conj_index.proofs.find.push_places.Goals as goal

pub loop-key-preserved : goal.loop-key-preserved
loop-key-preserved c =
    let f = key_place c.args.size c.args.part.now in
    found_step f c.args.looked.now c.args.places.now.items c.loop-key.places.items c.push_some.new.list.items c.loop-key.key-index c.key-item.result c.key_place.result
    c.loop-key-test.true c.in_ok-push_some.ensures c.loop-key.invariant (c.key_place.ensures ∙ ap f c.key-item.is)
