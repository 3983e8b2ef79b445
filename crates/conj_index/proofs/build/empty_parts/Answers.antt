use Rattle.std.proofs.Common.{◌+◌, [], ◌∙◌, ap, length, subst, sym}
use Rattle.std.proofs.lemmas.List.{length_push}
use Rattle.conj_index.specs.Growing.{AreGrown, IsGrown}
use Rattle.conj_index.proofs.Entering.{gets_push}
use Rattle.conj_index.proofs.build.empty_parts.Goals as goal

pub loop-preserved : goal.loop-preserved
loop-preserved c = record {
  count = ap length c.in_ok-push.ensures.items ∙ length_push c.loop.parts.items c.new.result ∙ ap (λ n. n + 1) c.loop.invariant.count;
  empty = subst (AreGrown []) (sym c.in_ok-push.ensures.items)
      (gets_push (λ k part. IsGrown k [] part) c.loop.parts.items c.new.result c.loop.invariant.empty c.new.ensures);
}
