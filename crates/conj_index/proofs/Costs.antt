-- What a find costs is the same for every index of the same campaigns.
use Rattle.std.proofs.Common.{◌≡◌, ℕ, suc, ◌+◌, min, max, List, [], ◌∷◌, length, take, slice_get, Some, refl, ◌∙◌, ap, subst, arith}
use Rattle.std.specs.Prelude.{sum_by}
use Rattle.std.specs.List.{enumerate_from, range_with_len}
use Rattle.std.proofs.lemmas.List.{length-take}
use Rattle.std.proofs.lemmas.List.Sums.{sum_by-cons}
use Rattle.conj_match.specs.Matching.{cost_of}
use Rattle.conj_index.specs.declared.index.Index.{Index}
use Rattle.conj_index.specs.declared.part.Part.{Part}
use Rattle.conj_index.specs.Campaigns.{Campaigns}
use Rattle.conj_index.specs.Content.{IsIndexOf, IsPartOf, Listed, conjunctions_of, greatest_size}
use Rattle.conj_index.specs.Cost.{campaigns_cost, size_cost}
use Rattle.conj_index.specs.Find.{find_cost, match_cost}
use Rattle.conj_index.proofs.Answered.{taken_at}
use Rattle.conj_index.proofs.Found.{Pairs}
use Rattle.conj_index.proofs.Served.{lists_are}

part_cost : (a : Pairs) (cs : List Listed) (k : ℕ) (part : Part) → IsPartOf k cs part → match_cost a (k, part) ≡ size_cost a cs k
part_cost a cs k part is = ap (λ l. cost_of l (max k 1)) (lists_are a k cs part is)

costs_from : (a : Pairs) (cs : List Listed) (n : ℕ) (parts : List Part) → ((i : ℕ) (part : Part) → slice_get parts i ≡ Some part → IsPartOf (n + i) cs part)
    → sum_by (match_cost a) (enumerate_from n parts) ≡ sum_by (size_cost a cs) (range_with_len n (length parts))
costs_from a cs n [] are = refl
costs_from a cs n (part ∷ parts) are =
    let start : n + 0 ≡ n = omega arith in
    let here = part_cost a cs n part (subst (λ k. IsPartOf k cs part) start (are 0 part refl)) in
    let rest = costs_from a cs (n + 1) parts (λ i p e. let same : n + suc i ≡ n + 1 + i = omega arith in subst (λ k. IsPartOf k cs p) same (are (suc i) p e)) in
    omega (arith, here, rest, sum_by-cons (match_cost a) (n, part) (enumerate_from (n + 1) parts), sum_by-cons (size_cost a cs) n (range_with_len (n + 1) (length parts)))

pub one_cost : (added : Campaigns) (index : Index) (a : Pairs) → IsIndexOf added index → find_cost index a ≡ campaigns_cost a added
one_cost added index a is =
    let cs = conjunctions_of added in
    let parts = take (length a + 1) index.parts in
    let many : length parts ≡ min (length a) (greatest_size cs) + 1 = omega (arith, length-take (length a + 1) index.parts, is.sizes) in
    costs_from a cs 0 parts (λ i part e. let same : i ≡ 0 + i = omega arith in subst (λ k. IsPartOf k cs part) same (is.parts i part (taken_at index.parts (length a + 1) i part e)))
    ∙ ap (λ n. sum_by (size_cost a cs) (range_with_len 0 n)) many
