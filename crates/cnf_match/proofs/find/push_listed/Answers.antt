use Rattle.std.proofs.Common.{◌++◌, List, map, ◌∙◌, ap, arith}
use Rattle.std.specs.List.{filter_map}
use Rattle.std.proofs.lemmas.List.{take_all}
use Rattle.cnf_match.specs.declared.index.Entry.{Entry}
use Rattle.cnf_match.specs.Searching.{number_left}
use Rattle.cnf_match.proofs.Turns.{mapped_step}
use Rattle.cnf_match.proofs.find.push_listed.Goals as goal

pub loop-place-preserved : goal.loop-place-preserved
loop-place-preserved g c = record {
  numbers = mapped_step (number_left c.args.left.now) (λ (e : Entry). e.expression) c.args.list.now c.args.numbers.now.items c.loop-place.numbers.items c.push_some.new.numbers.items
      c.loop-place.place c.at-entry.result c.number_left.result (omega (arith, c.loop-place-test.true, c.len-place-end.ensures)) c.in_ok-push_some.ensures c.loop-place.invariant.numbers
      (c.number_left.ensures ∙ ap (λ (e : Entry). number_left c.args.left.now e.expression) (c.at-entry.ensures.value c.at-entry.result));
  cost = omega (arith, c.at-entry.ensures.read, c.loop-place.invariant.cost);
}

pub returns-clause-numbers : goal.returns-clause-numbers
returns-clause-numbers g c =
    c.loop-place.invariant.numbers
    ∙ ap (λ (es : List Entry). c.args.numbers.now.items ++ filter_map (number_left c.args.left.now) (map (λ (e : Entry). e.expression) es))
    (take_all c.loop-place.place c.args.list.now (omega (arith, c.len-place-end.ensures, c.loop-place-test.false)))
