use Rattle.std.proofs.Common.{◌∙◌, eqb, ℕ, List, ap, subst, sym}
use Rattle.std.specs.List.Sorted.{IsPermutation, IsStrictlyIncreasing}
use Rattle.std.proofs.lemmas.List.Filters.{dedup_is}
use Rattle.std.proofs.lemmas.Map.Keys.{IsStrictlyIncreasing-dedup}
use Rattle.index_versions.specs.Fixed.{is_among}
use Rattle.index_versions.proofs.Among.{same_sorted}
use Rattle.index_versions.proofs.touched.distinct.Goals as goal

pub returns-clause-rising : goal.returns-clause-rising
returns-clause-rising c =
    subst IsStrictlyIncreasing (sym (dedup_is _ _ _ c.dedup.ensures.filtered)) (IsStrictlyIncreasing-dedup c.sort_unstable.new.self.items c.sort_unstable.ensures.sorted)

pub returns-clause-same : goal.returns-clause-same
returns-clause-same c = λ n.
    let moved = subst (λ (l : List ℕ). IsPermutation l c.sort_unstable.new.self.items) c.in_ok-touched.ensures.items c.sort_unstable.ensures.permutation in
    ap (λ (l : List ℕ). is_among l n) (dedup_is _ _ _ c.dedup.ensures.filtered) ∙ same_sorted (λ m. eqb m n) c.args.edits.now c.sort_unstable.new.self.items moved
