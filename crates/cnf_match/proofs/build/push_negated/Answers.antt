use Rattle.std.proofs.Common.{◌-◌, ◌++◌, length, map, replicate, sym, ◌∙◌, ap, append_assoc}
use Rattle.cnf_match.specs.Content.{negated_in}
use Rattle.cnf_match.proofs.Built.{padded_counts}
use Rattle.cnf_match.proofs.build.push_negated.Goals as goal

pub returns : goal.returns
returns c =
    let cs = c.args.clauses.now in
    let old = c.args.all.now in
    c.in_ok-push_ones.ensures ∙ ap (λ l. l ++ replicate (16 - length cs) 1) c.in_ok-push_counts.ensures
    ∙ append_assoc old (map negated_in cs) (replicate (16 - length cs) 1) ∙ ap (λ l. old ++ l) (sym (padded_counts cs c.requires))
