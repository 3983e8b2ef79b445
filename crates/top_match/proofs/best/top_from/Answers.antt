use Rattle.std.proofs.Common.{◌≡◌, ℕ, List, map, ◌∙◌}
use Rattle.std.proofs.lemmas.Result.{IfOk-weaker}
use Rattle.target_expr.specs.declared.attr.Attr.{Attr}
use Rattle.cnf_match.specs.Conjunctive.{Cnf}
use Rattle.top_match.specs.Certificate.{reason}
use Rattle.top_match.specs.Choosing.{scored_of}
use Rattle.top_match.specs.Top.{all_scored, top_list}
use Rattle.top_match.proofs.Reasons.{reasons_are}
use Rattle.top_match.proofs.best.top_from.Goals as goal

pub returns : goal.returns
returns c =
    let n = c.args.n in
    let ss = map scored_of c.in_ok-ranks.ranks.items in
    IfOk-weaker c.best_of.result
    (λ best. (es : List Cnf) (a : List (Attr × List ℕ)) → ss ≡ all_scored es a → best ≡ top_list es a n)
    (λ best. (es : List Cnf) (a : List (Attr × List ℕ)) → c.args.reasons.now ≡ map (reason a) es → best ≡ top_list es a n)
    (λ best is es a given. is es a (reasons_are es a c.as_slice.result.now ss c.in_ok-ranks.ensures (c.as_slice.ensures ∙ given)))
    c.best_of.ensures
