use Rattle.std.proofs.Common.{◌<◌, ◌+◌, suc, length, arith, sym, ◌∙◌}
use Rattle.std.proofs.Math.Nat.{pow-suc}
use Rattle.conj_match.proofs.Skips.{one_look, seen_far, seen_short}
use Rattle.conj_match.proofs.leaping.leap.Goals as goal

pub loop-low-preserved : goal.loop-low-preserved
loop-low-preserved g c =
    let h = c.loop-low.invariant in
    let es = c.args.list.now in
    let origin = c.args.origin in
    let seen = seen_short es (origin + c.loop-low.high) c.args.id c.loop-low.entry h.shown (sym c.is_short.ensures ∙ c.loop-low-test.true) in
    let (m, is, spent) = h.cost in
    let left = h.left in
    let some = h.some in
    let high = h.high in
    let ordered = h.ordered in
    let more = c.min-high-in-loop-low.ensures in
    let here = seen.0 in
    let look = c.at-entry-in-loop-low.ensures in
    record {
      left = h.left;
      some = omega arith;
      high = omega arith;
      ordered = omega arith;
      below = seen.1;
      shown = look.value;
      cost = (suc m, omega (arith, pow-suc 2 m), omega (arith, spent, one_look (origin + (c.loop-low.high + c.min-high-in-loop-low.result)) (length es) c.loop-low.steps c.at-entry-in-loop-low.new.steps look.read look.past));
    }

pub returns-clause-reach : goal.returns-clause-reach
returns-clause-reach g c =
    let h = c.loop-low.invariant in
    let ordered = h.ordered in
    let high = h.high in
    let left = h.left in
    let len = c.len.ensures.value in
    record {
      ordered = h.ordered;
      within = omega arith;
      fits = let bound : c.len.result < 18446744073709551616 = c.len.type_inv in omega arith;
      below = h.below;
      shown = h.shown;
      far = seen_far c.args.list.now (c.args.origin + c.loop-low.high) c.args.id c.loop-low.entry h.shown (sym c.is_short.ensures ∙ c.loop-low-test.false);
    }
