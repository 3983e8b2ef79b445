use Rattle.std.proofs.Common.{rules, [], All, sym, subst}
use Rattle.std.proofs.lemmas.List.Elements.{All-append, All-cons, All-nil}
use Rattle.rtb_bench.specs.Turns.{IsHired}
use Rattle.rtb_bench.proofs.Turning.{hired, splits_one}
use Rattle.rtb_bench.proofs.turns.hire.Goals as goal

pub loop-preserved : goal.loop-preserved
loop-preserved c =
    let v = c.loop.invariant in
    let p = c.split-first.ensures in
    let here = c.args.lock.now in (
      splits_one _ here c.loop.counter c.loop.seat c.split-first.result.0 c.split-first.result.1 v.0 p,
      subst (All (IsHired here)) (sym c.push_reserved.ensures.items) (All-append (IsHired here) c.loop.jobs.items _ v.1 (All-cons (IsHired here) _ [] (hired _ here c.loop.counter c.loop.seat c.split-first.result.0 c.split-first.result.1 v.0 p) (All-nil (IsHired here)))),
      search rules,
      search rules,
    )
