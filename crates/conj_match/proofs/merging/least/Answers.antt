use Rattle.std.proofs.Common.{◌+◌, take, sym, ◌∙◌, ap, subst}
use Rattle.conj_match.specs.Merge.{IsLeast, lesser}
use Rattle.conj_match.proofs.Merge.{least_more}
use Rattle.conj_match.proofs.merging.least.Goals as goal

pub loop-cursor-preserved : goal.loop-cursor-preserved
loop-cursor-preserved c =
    let cs = c.args.cursors.now in
    let i = c.loop-cursor.cursor-index in
    subst (λ r. IsLeast (take (i + 1) cs) r) (sym (c.lesser-least.ensures ∙ ap (lesser c.loop-cursor.least) c.current_id.ensures))
    (least_more cs i c.cursor-item.result c.loop-cursor.least c.loop-cursor-test.true c.cursor-item.is c.loop-cursor.invariant)
