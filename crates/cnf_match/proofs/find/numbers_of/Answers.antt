use Rattle.std.proofs.Common.{ℕ, ◌+◌, ◌≤◌, ◌++◌, Bor, List, length, map, sym, ◌∙◌, ap, subst}
use Rattle.std.specs.List.{filter_map, flat_map}
use Rattle.std.proofs.lemmas.List.{take_all}
use Rattle.std.proofs.lemmas.List.Elements.{filter_map-append}
use Rattle.cnf_match.specs.declared.index.Entry.{Entry}
use Rattle.cnf_match.specs.Searching.{number_left}
use Rattle.cnf_match.proofs.Turns.{listed_cost, listed_step}
use Rattle.cnf_match.proofs.find.numbers_of.Goals as goal

pub loop-list-preserved : goal.loop-list-preserved
loop-list-preserved g c =
    let f = number_left c.args.left.now in
    let item = c.list-item.result in
    record {
      numbers = listed_step f (λ (e : Entry). e.expression) (λ (l : Bor (List Entry)). l.now) c.args.lists.now c.loop-list.numbers.items c.push_listed.new.numbers.items
          c.loop-list.list-index item c.loop-list-test.true c.loop-list.invariant.numbers
          (c.in_ok-push_listed.ensures.numbers ∙ ap (λ (l : Bor (List Entry)). c.loop-list.numbers.items ++ filter_map f (map (λ (e : Entry). e.expression) l.now)) c.list-item.is);
      cost = listed_cost (λ (l : Bor (List Entry)). l.now) c.args.lists.now c.args.steps.now c.loop-list.steps c.push_listed.new.steps c.loop-list.list-index item
          c.loop-list-test.true c.loop-list.invariant.cost (subst (λ (l : Bor (List Entry)). c.push_listed.new.steps ≤ c.loop-list.steps + length l.now) c.list-item.is c.push_listed.ensures.cost);
    }

pub returns-clause-numbers : goal.returns-clause-numbers
returns-clause-numbers g c =
    let f = number_left c.args.left.now in
    let given = λ (ls : List (Bor (List Entry))). map (λ (e : Entry). e.expression) (flat_map (λ (l : Bor (List Entry)). l.now) ls) in
    c.in_ok-push_zeros.ensures.numbers
    ∙ ap (λ ns. ns ++ filter_map f c.args.zeros.now) (c.loop-list.invariant.numbers ∙ ap (λ ls. filter_map f (given ls)) (take_all c.loop-list.list-index c.args.lists.now c.loop-list-test.false))
    ∙ sym (filter_map-append f (given c.args.lists.now) c.args.zeros.now)
