use Rattle.std.proofs.Common.{◌++◌, ◌∙◌, ap, arith}
use Rattle.std.specs.List.{filter_map}
use Rattle.std.proofs.lemmas.List.{take_all}
use Rattle.cnf_match.specs.Searching.{number_left}
use Rattle.cnf_match.proofs.Turns.{found_step}
use Rattle.cnf_match.proofs.find.push_zeros.Goals as goal

pub loop-i-preserved : goal.loop-i-preserved
loop-i-preserved g c = record {
  numbers = found_step (number_left c.args.left.now) c.args.zeros.now c.args.numbers.now.items c.loop-i.numbers.items c.push_some.new.numbers.items
      c.loop-i.i 0 c.number_left.result (omega (arith, c.loop-i-test.true, c.len-i-end.ensures)) c.in_ok-push_some.ensures c.loop-i.invariant.numbers
      (c.number_left.ensures ∙ ap (number_left c.args.left.now) (c.at-place.ensures.value 0));
  cost = omega (arith, c.at-place.ensures.read, c.loop-i.invariant.cost);
}

pub returns-clause-numbers : goal.returns-clause-numbers
returns-clause-numbers g c =
    c.loop-i.invariant.numbers
    ∙ ap (λ ns. c.args.numbers.now.items ++ filter_map (number_left c.args.left.now) ns) (take_all c.loop-i.i c.args.zeros.now (omega (arith, c.len-i-end.ensures, c.loop-i-test.false)))
