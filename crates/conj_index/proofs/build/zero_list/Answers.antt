use Rattle.std.proofs.Common.{◌∙◌, ap}
use Rattle.conj_index.proofs.BuildLoops.{zero_absent, zero_there}
use Rattle.conj_index.proofs.build.zero_list.Goals as goal
use Rattle.conj_index.proofs.build.zero_list.Goals.{then-size-eq0+in_ok-push, else-size-eq0}

pub loop-id-preserved : goal.loop-id-preserved
loop-id-preserved c = elim c.if-size-eq0.branch [
  | then-size-eq0+in_ok-push w ↦ zero_there c.args.sizes.now c.loop-id.id 0 c.loop-id.entries.items c.if-size-eq0.entries.items c.loop-id-test.true w.if-size-eq0.true c.loop-id.invariant (ap (λ v. v.items) w.entries-is ∙ w.in_ok-push.ensures.items)
  | else-size-eq0 w ↦ zero_absent c.args.sizes.now c.loop-id.id 0 c.loop-id.entries.items c.if-size-eq0.entries.items c.loop-id-test.true w.if-size-eq0.false c.loop-id.invariant (ap (λ v. v.items) w.entries-is)
]
