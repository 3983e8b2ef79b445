use Rattle.std.proofs.Common.{◌++◌, get_or, map, replicate, take, IsTrue, sym, ◌∙◌, ap, subst}
use Rattle.std.specs.List.{flat_map}
use Rattle.std.proofs.lemmas.List.{take_all}
use Rattle.std.proofs.lemmas.List.Elements.{All-more}
use Rattle.cnf_match.specs.Conjunctive.{Cnf, are_kept_clauses}
use Rattle.cnf_match.specs.Content.{negated_in, negated_of}
use Rattle.cnf_match.proofs.Built.{negated_is}
use Rattle.cnf_match.proofs.Turns.{spread_more}
use Rattle.cnf_match.proofs.build.all_negated.Goals as goal

pub loop-expr-preserved : goal.loop-expr-preserved
loop-expr-preserved c =
    let kept : Cnf → Type 0 = λ (e : Cnf). IsTrue (are_kept_clauses e.clauses) in
    let xs = c.args.exprs.now in
    let i = c.loop-expr.expr-index in
    let item = c.expr-item.result in
    let old = c.loop-expr.all in
    record {
      negated = c.in_ok-push_negated.ensures
          ∙ ap (λ cs. old ++ take 16 (map negated_in cs ++ replicate 16 1)) c.clauses.ensures.value
          ∙ ap (λ (e : Cnf). old ++ negated_of e) c.expr-item.is
          ∙ ap (λ l. l ++ negated_of (get_or xs i item)) c.loop-expr.invariant.negated
          ∙ sym (spread_more negated_of xs i item c.loop-expr-test.true);
      kept = All-more kept xs i item c.loop-expr-test.true c.loop-expr.invariant.kept
          (subst kept c.expr-item.is c.clauses.ensures.kept);
    }

pub returns-clause-negated : goal.returns-clause-negated
returns-clause-negated c =
    let xs = c.args.exprs.now in
    c.loop-expr.invariant.negated ∙ ap (flat_map negated_of) (take_all c.loop-expr.expr-index xs c.loop-expr-test.false) ∙ negated_is xs
