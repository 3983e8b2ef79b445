use Rattle.std.proofs.Common.{◌∙◌, ap, max, sym, get_or}
use Rattle.conj_index.proofs.BuildLoops.{greatest_more, max_by_order}
use Rattle.conj_index.proofs.build.greatest.Goals as goal

pub loop-size-preserved : goal.loop-size-preserved
loop-size-preserved c =
    c.max-most.ensures ∙ max_by_order c.loop-size.most (get_or c.args.sizes.now c.loop-size.size-index 0)
    ∙ ap (λ m. max m (get_or c.args.sizes.now c.loop-size.size-index 0)) c.loop-size.invariant
    ∙ sym (greatest_more c.args.sizes.now c.loop-size.size-index 0 c.loop-size-test.true)
