use Rattle.std.proofs.Common.{◌∙◌, refl, subst, take_all}
use Rattle.conj_match.specs.Strikes.{AreCounted}
use Rattle.conj_match.proofs.Strikes.{counted_more}
use Rattle.conj_match.proofs.marking.count_all.Goals as goal

pub loop-id-init : goal.loop-id-init
loop-id-init c = record {
  len = refl;
  counts = λ i h. refl;
}

pub loop-id-preserved : goal.loop-id-preserved
loop-id-preserved c =
    let h = c.loop-id.invariant in
    record {
      len = c.count_one.ensures.len ∙ h.len;
      counts = counted_more c.args.marks.now c.loop-id.marks c.count_one.new.marks c.args.ids.now c.loop-id.id-index c.loop-id-test.true h.len h.counts c.count_one.ensures.counts;
    }

pub returns-clause-counts : goal.returns-clause-counts
returns-clause-counts c =
    subst (λ l. AreCounted c.args.marks.now l c.loop-id.marks) (take_all c.loop-id.id-index c.args.ids.now c.loop-id-test.false) c.loop-id.invariant.counts
