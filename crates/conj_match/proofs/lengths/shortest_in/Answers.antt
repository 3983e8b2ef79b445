use Rattle.std.proofs.Common.{◌<◌, ◌≤◌, ◌+◌, [], ℕ, inl, inr, Contains, get_or, length, refl, subst, sym, arith}
use Rattle.std.proofs.lemmas.Bool.{cases_lt}
use Rattle.conj_match.specs.Matching.{lists_at}
use Rattle.conj_match.proofs.Marks.{lists_length}
use Rattle.conj_match.proofs.Shortest.{best_kept, best_new, chosen_has, shortest_is}
use Rattle.conj_match.proofs.lengths.shortest_in.Goals as goal

pub loop-place-init : goal.loop-place-init
loop-place-init c = record {
  there = c.requires.within 0 0 c.requires.some;
  member = chosen_has c.args.lists.now c.args.chosen.now 0 (get_or c.args.chosen.now 0 0) c.requires.some refl;
  least = λ j h. absurd (omega arith);
}

pub loop-place-preserved : goal.loop-place-preserved
loop-place-preserved c =
    let h = c.loop-place.invariant in
    let lists = c.args.lists.now in
    let chosen = c.args.chosen.now in
    let i = c.loop-place.place-index in
    let best = c.loop-place.best in
    let place = get_or chosen i 0 in
    elim (cases_lt (length (get_or lists place [])) (length (get_or lists best []))) [
      | inl lt ↦
          let is = c.shorter-best.ensures.b lt in
          record {
            there = subst (λ n. n < length lists) (sym is) (c.requires.within i 0 c.loop-place-test.true);
            member = subst (λ n. Contains (lists_at lists chosen) (get_or lists n [])) (sym is) (chosen_has lists chosen i place c.loop-place-test.true refl);
            least = subst (λ n. (j : ℕ) → j < i + 1 → length (get_or lists n []) ≤ length (get_or (lists_at lists chosen) j [])) (sym is) (best_new lists chosen i best place c.loop-place-test.true refl lt h.least);
          }
      | inr ge ↦
          let is = c.shorter-best.ensures.a ge in
          record {
            there = subst (λ n. n < length lists) (sym is) h.there;
            member = subst (λ n. Contains (lists_at lists chosen) (get_or lists n [])) (sym is) h.member;
            least = subst (λ n. (j : ℕ) → j < i + 1 → length (get_or lists n []) ≤ length (get_or (lists_at lists chosen) j [])) (sym is) (best_kept lists chosen i best place c.loop-place-test.true refl ge h.least);
          }
    ]

pub returns-clause-least : goal.returns-clause-least
returns-clause-least c =
    let h = c.loop-place.invariant in
    let lists = c.args.lists.now in
    let chosen = c.args.chosen.now in
    shortest_is (lists_at lists chosen) (get_or lists c.loop-place.best []) h.member (λ j within. h.least j (omega (arith, within, lists_length lists chosen, c.loop-place-test.false)))
