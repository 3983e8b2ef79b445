use Rattle.std.proofs.Common.{◌≡◌, ◌∙◌, ◌+◌, ◌<◌, ◌≤◌, ℕ, List, OnOk, ap, length, max, sym, subst, arith}
use Rattle.std.specs.List.{All}
use Rattle.std.proofs.lemmas.Grind.{common_steps}
use Rattle.postings.specs.declared.entry.Entry.{Entry}
use Rattle.conj_match.specs.Bits.{AreSet}
use Rattle.conj_match.specs.Matching.{cost_of, is_match, lists_at}
use Rattle.conj_index.specs.Find.{places_of}
use Rattle.conj_index.proofs.Places.{places_within}
use Rattle.conj_index.proofs.find.find_in.Goals as goal

pub add_matches-requires : goal.add_matches-requires
add_matches-requires g c =
    let places = places_of c.args.looked.now c.args.size c.args.part.now in
    let same : c.as_slice-2.result.now ≡ places = c.as_slice-2.ensures.value ∙ c.in_ok-choose.ensures in
    record {
      some = omega (arith, c.max.ensures);
      within = subst (λ (l : List ℕ). All (λ n. n < length c.as_slice.result.now) l) (sym same)
          (subst (λ (ls : List (List Entry)). All (λ n. n < length ls) places) (sym c.as_slice.ensures) (places_within c.args.looked.now c.args.size c.args.part.now));
    }

pub returns-clause-found : goal.returns-clause-found
returns-clause-found g c =
    let lists = c.args.part.now.lists in
    let places = places_of c.args.looked.now c.args.size c.args.part.now in
    let new = c.add_matches.new.self in
    let same : lists_at c.as_slice.result.now c.as_slice-2.result.now ≡ lists_at lists places = ap (λ (ls : List (List Entry)). lists_at ls c.as_slice-2.result.now) c.as_slice.ensures ∙ ap (lists_at lists) (c.as_slice-2.ensures.value ∙ c.in_ok-choose.ensures) in
    let size : c.max.result ≡ max c.args.size 1 = grind (arith, common_steps, c.max.ensures) in
    subst (λ (n : ℕ). OnOk c.add_matches.result (AreSet (is_match (lists_at lists places) n) c.args.tally.now new)) size
    (subst (λ (ls : List (List Entry)). OnOk c.add_matches.result (AreSet (is_match ls c.max.result) c.args.tally.now new)) same c.add_matches.ensures.found)

pub returns-clause-cost : goal.returns-clause-cost
returns-clause-cost g c =
    let lists = c.args.part.now.lists in
    let places = places_of c.args.looked.now c.args.size c.args.part.now in
    let same : lists_at c.as_slice.result.now c.as_slice-2.result.now ≡ lists_at lists places = ap (λ (ls : List (List Entry)). lists_at ls c.as_slice-2.result.now) c.as_slice.ensures ∙ ap (lists_at lists) (c.as_slice-2.ensures.value ∙ c.in_ok-choose.ensures) in
    let size : c.max.result ≡ max c.args.size 1 = grind (arith, common_steps, c.max.ensures) in
    let price : cost_of (lists_at c.as_slice.result.now c.as_slice-2.result.now) c.max.result ≡ cost_of (lists_at lists places) (max c.args.size 1) = ap (λ (ls : List (List Entry)). cost_of ls c.max.result) same ∙ ap (cost_of (lists_at lists places)) size in
    subst (λ (n : ℕ). c.add_matches.new.steps ≤ c.args.steps.now + n) price c.add_matches.ensures.cost
