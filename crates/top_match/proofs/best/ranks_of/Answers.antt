use Rattle.std.proofs.Common.{[], ◌++◌, map, ◌∙◌, ap}
use Rattle.std.specs.List.{cons_option}
use Rattle.std.proofs.lemmas.List.{map-append}
use Rattle.cnf_match.proofs.Turns.{found_step}
use Rattle.std.specs.Prelude.{option_map}
use Rattle.top_match.specs.Choosing.{scored_at, scored_of}
use Rattle.top_match.proofs.Sorted.{mapped_option}
use Rattle.top_match.proofs.best.ranks_of.Goals as goal

pub loop-number-preserved : goal.loop-number-preserved
loop-number-preserved c =
    let old = c.loop-number.ranks.items in
    found_step (scored_at c.args.exprs.now c.args.assignment.now) c.args.found.now [] (map scored_of old) (map scored_of c.push_some.new.ranks.items)
    c.loop-number.number-index 0 (option_map scored_of c.rank_at.result) c.loop-number-test.true
    (ap (map scored_of) c.in_ok-push_some.ensures ∙ map-append scored_of old (cons_option c.rank_at.result []) ∙ ap (λ l. map scored_of old ++ l) (mapped_option scored_of c.rank_at.result))
    c.loop-number.invariant c.rank_at.ensures
