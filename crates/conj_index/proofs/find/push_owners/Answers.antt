use Rattle.std.proofs.Common.{slice_get}
use Rattle.conj_index.proofs.Loops.{found_step}
use Rattle.conj_index.proofs.find.push_owners.Goals as goal

pub loop-id-preserved : goal.loop-id-preserved
loop-id-preserved c =
    found_step (slice_get c.args.owners.now) c.args.ids.now c.args.numbers.now.items c.loop-id.numbers.items c.push_some.new.list.items c.loop-id.id-index 0 c.owner_of.result
    c.loop-id-test.true c.in_ok-push_some.ensures c.loop-id.invariant c.owner_of.ensures
