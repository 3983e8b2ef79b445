use Rattle.std.proofs.Common.{◌∙◌, ap, arith}
use Rattle.std.proofs.lemmas.List.{take_all}
use Rattle.cnf_match.specs.Searching.{mark_all}
use Rattle.cnf_match.proofs.Turns.{folded_step}
use Rattle.cnf_match.specs.Searching.{mark}
use Rattle.cnf_match.proofs.find.mark_list.Goals as goal

pub loop-place-preserved : goal.loop-place-preserved
loop-place-preserved g c = record {
  left = folded_step mark c.args.left.now c.args.list.now c.loop-place.left c.mark.new.left c.loop-place.place c.at-entry.result (omega (arith, c.loop-place-test.true, c.len-place-end.ensures)) c.at-entry.ensures.value c.loop-place.invariant.left c.mark.ensures;
  cost = omega (arith, c.at-entry.ensures.read, c.loop-place.invariant.cost);
}

pub returns-clause-left : goal.returns-clause-left
returns-clause-left g c = c.loop-place.invariant.left ∙ ap (mark_all c.args.left.now) (take_all c.loop-place.place c.args.list.now (omega (arith, c.len-place-end.ensures, c.loop-place-test.false)))
