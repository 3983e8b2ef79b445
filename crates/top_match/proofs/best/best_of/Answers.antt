use Rattle.std.proofs.Common.{◌≡◌, ℕ, List, map, sym, ◌∙◌, ap}
use Rattle.std.proofs.lemmas.List.{take-map}
use Rattle.std.proofs.lemmas.Result.{IfOk-weaker}
use Rattle.target_expr.specs.declared.attr.Attr.{Attr}
use Rattle.cnf_match.specs.Conjunctive.{Cnf}
use Rattle.top_match.specs.Choosing.{scored_of}
use Rattle.top_match.specs.Top.{all_scored, top_list}
use Rattle.top_match.proofs.Sorted.{best_is}
use Rattle.top_match.proofs.best.best_of.Goals as goal

pub returns : goal.returns
returns c =
    let n = c.args.n in
    let ranks = c.args.ranks.items in
    let sorted = c.sort_unstable.new.self.items in
    IfOk-weaker c.scored_in.result (λ all. all ≡ map scored_of c.as_slice.result.now)
    (λ best. (es : List Cnf) (a : List (Attr × List ℕ)) → map scored_of ranks ≡ all_scored es a → best ≡ top_list es a n)
    (λ best is es a same. best_is es a n ranks sorted best same c.sort_unstable.ensures.permutation c.sort_unstable.ensures.sorted
    (is ∙ ap (map scored_of) (c.as_slice.ensures.value ∙ c.truncate.ensures.items) ∙ sym (take-map scored_of n sorted)))
    c.scored_in.ensures
