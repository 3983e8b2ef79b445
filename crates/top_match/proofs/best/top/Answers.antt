use Rattle.std.proofs.Common.{◌≡◌, ℕ, List, map, ◌∙◌, ap}
use Rattle.std.specs.List.{filter_map}
use Rattle.std.proofs.lemmas.Result.{IfOk-weaker}
use Rattle.target_expr.specs.declared.attr.Attr.{Attr}
use Rattle.cnf_match.specs.Conjunctive.{Cnf}
use Rattle.top_match.specs.Choosing.{scored_at, scored_of}
use Rattle.top_match.specs.Top.{all_scored, top_list}
use Rattle.top_match.proofs.Sorted.{scored_are}
use Rattle.top_match.proofs.best.top.Goals as goal

pub returns : goal.returns
returns c =
    let es = c.args.exprs.now in
    let a = c.args.assignment.now in
    let n = c.args.n in
    let are = c.in_ok-ranks.ensures
    ∙ ap (λ (l : List Cnf). filter_map (scored_at l a) c.as_slice-2.result.now) c.as_slice.ensures
    ∙ ap (filter_map (scored_at es a)) (c.as_slice-2.ensures ∙ c.requires)
    ∙ scored_are es a in
    IfOk-weaker c.best_of.result
    (λ best. (ds : List Cnf) (b : List (Attr × List ℕ)) → map scored_of c.in_ok-ranks.ranks.items ≡ all_scored ds b → best ≡ top_list ds b n)
    (λ best. best ≡ top_list es a n)
    (λ best is. is es a are)
    c.best_of.ensures
