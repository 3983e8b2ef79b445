use Rattle.std.proofs.Common.{◌≡◌, [], ◌∷◌, ◌++◌, ◌∙◌, List, ap, arith, map, subst, sym, append_assoc}
use Rattle.std.proofs.lemmas.Iterator.Adapters.{YieldsList-from_vec}
use Rattle.std.proofs.lemmas.Iterator.Consumers.{YieldsList-end}
use Rattle.std.proofs.lemmas.List.{map-id, map_push}
use Rattle.target_expr.specs.declared.pred.Pair.{Pair}
use Rattle.conj_index.specs.Growing.{AreGrown, shift}
use Rattle.conj_index.proofs.build.enter_pairs.Goals as goal

pub loop-pair-preserved : goal.loop-pair-preserved
loop-pair-preserved c = record {
  grown = λ before grown.
      let next : (before ++ map (shift c.args.first) c.loop-pair.yielded) ++ shift c.args.first c.in-Some.pair ∷ [] ≡ before ++ map (shift c.args.first) (c.loop-pair.yielded ++ c.in-Some.pair ∷ []) =
      append_assoc before (map (shift c.args.first) c.loop-pair.yielded) (shift c.args.first c.in-Some.pair ∷ [])
      ∙ ap (λ l. before ++ l) (sym (map_push (shift c.args.first) c.loop-pair.yielded c.in-Some.pair)) in
      let P : List Pair → Type 0 = λ ps. AreGrown ps c.enter_pair.new.parts.items in
      subst P next (c.in_ok-enter_pair.ensures.grown (before ++ map (shift c.args.first) c.loop-pair.yielded) (c.loop-pair.invariant.grown before grown));
  count = c.enter_pair.ensures.count ∙ c.loop-pair.invariant.count;
}

pub returns-clause-grown : goal.returns-clause-grown
returns-clause-grown c = λ before grown.
    let taken = YieldsList-end (YieldsList-from_vec {s = c.into_iter-pair-iterator.result} c.args.pairs.items c.into_iter-pair-iterator.ensures.into_iter_gives.0 (omega (arith, c.into_iter-pair-iterator.ensures.into_iter_gives.1))) c.loop-pair.yielded c.loop-pair.pair-iterator c.loop-pair.yielded_by c.next.result c.next.new.self c.in-None.is c.next.ensures.steps in
    let whole : c.loop-pair.yielded ≡ c.args.pairs.items = sym (map-id c.loop-pair.yielded) ∙ taken.0 in
    let P : List Pair → Type 0 = λ ps. AreGrown (before ++ map (shift c.args.first) ps) c.loop-pair.parts.items in
    subst P whole (c.loop-pair.invariant.grown before grown)
