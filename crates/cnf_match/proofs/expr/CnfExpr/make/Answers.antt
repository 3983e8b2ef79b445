use Rattle.std.proofs.Common.{◌≡◌, [], map, is_some, sym, ◌∙◌, ap}
use Rattle.std.specs.List.{filter_map}
use Rattle.rtb_num.proofs.Plain.{both_nil}
use Rattle.target_expr.proofs.Faults.{none_first}
use Rattle.cnf_match.specs.Conjunctive.{are_kept_clauses, are_kept_weights}
use Rattle.cnf_match.specs.Making.{clauses_faults, faults, first_of, keep_clause, kept_weight, weight_faults}
use Rattle.cnf_match.proofs.Keeping.{clauses_kept, weights_kept}
use Rattle.cnf_match.proofs.Pairs.{both_are}
use Rattle.cnf_match.proofs.expr.CnfExpr.make.Goals as goal

-- nothing is wrong with what is kept
none : (c : goal.In_ok-clauses-in-None) → faults c.args.raw c.args.weights ≡ []
none c =
    let raw = c.args.raw in
    let ws = c.args.weights in
    none_first (faults raw ws) (ap is_some (ap (λ r. first_of (faults r ws)) (sym c.as_slice.ensures)
    ∙ ap (λ w. first_of (faults c.as_slice.result.now w)) (sym c.as_slice-2.ensures) ∙ sym c.in-None.ensures))

kept : (c : goal.In_ok-clauses-in-None) → (c.in_ok-clauses-in-None.clauses.items ≡ map keep_clause c.args.raw) × (c.in_ok-clauses-in-None.weights ≡ filter_map kept_weight c.args.weights)
kept c =
    both_are c.keep_clauses.result c.keep_weights.result c.in_ok-clauses-in-None.clauses c.in_ok-clauses-in-None.weights
    (λ all. all.items ≡ map keep_clause c.args.raw) (λ ws. ws ≡ filter_map kept_weight c.args.weights)
    c.keep_clauses.ensures c.keep_weights.ensures (sym c.in_ok-clauses-in-None.ensures)

pub of-requires-clause-clauses : goal.of-requires-clause-clauses
of-requires-clause-clauses c =
    ap are_kept_clauses (kept c).0 ∙ clauses_kept c.args.raw (both_nil (clauses_faults c.args.raw) (weight_faults c.args.weights) (none c)).0

pub of-requires-clause-weights : goal.of-requires-clause-weights
of-requires-clause-weights c =
    ap are_kept_weights (kept c).1 ∙ weights_kept c.args.weights (both_nil (clauses_faults c.args.raw) (weight_faults c.args.weights) (none c)).1

pub returns-in_ok-clauses-in-None-clause-right : goal.returns-in_ok-clauses-in-None-clause-right
returns-in_ok-clauses-in-None-clause-right c =
    let raw = c.args.raw in
    let ws = c.args.weights in
    none_first (faults raw ws) (ap is_some (ap (λ r. first_of (faults r ws)) (sym c.as_slice.ensures)
    ∙ ap (λ w. first_of (faults c.as_slice.result.now w)) (sym c.as_slice-2.ensures) ∙ sym c.in-None.ensures))

pub returns-in_ok-clauses-in-None-clause-value : goal.returns-in_ok-clauses-in-None-clause-value
returns-in_ok-clauses-in-None-clause-value c =
    let both = both_are c.keep_clauses.result c.keep_weights.result c.in_ok-clauses-in-None.clauses c.in_ok-clauses-in-None.weights
    (λ all. all.items ≡ map keep_clause c.args.raw) (λ ws. ws ≡ filter_map kept_weight c.args.weights)
    c.keep_clauses.ensures c.keep_weights.ensures (sym c.in_ok-clauses-in-None.ensures) in
    c.of.ensures ∙ ap (λ cs. record { clauses = cs; weights = c.in_ok-clauses-in-None.weights }) both.0
    ∙ ap (λ ws. record { clauses = map keep_clause c.args.raw; weights = ws }) both.1
