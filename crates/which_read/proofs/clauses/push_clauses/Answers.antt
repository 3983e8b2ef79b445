use Rattle.std.proofs.Common.{◌∙◌, ◌≡◌, ◌++◌, ◌∷◌, [], arith}
use Rattle.std.proofs.lemmas.Grind.{common_steps}
use Rattle.std.proofs.lemmas.Result.{err_from_is_err_and}
use Rattle.exact_json.specs.View.{tree_of}
use Rattle.json_fields.proofs.Each.{no_faults_yet, nothing_yet, read_first, read_more, read_still}
use Rattle.which_read.specs.declared.fault.WhichFault.{WhichFault}
use Rattle.which_read.specs.Clauses.{clause_at}
use Rattle.which_read.proofs.clauses.push_clauses.Goals as goal

pub loop-j-init : goal.loop-j-init
loop-j-init c = record { right = no_faults_yet (clause_at c.args.i); found = c.requires.none ∙ nothing_yet (clause_at c.args.i) }

pub returns-in_err-clause_entry : goal.returns-in_err-clause_entry
returns-in_err-clause_entry c =
    let p = err_from_is_err_and c.from_residual.result c.from_residual.ensures.1 in
    rw (p.1, p.2) (read_first WhichFault.Memory (clause_at c.args.i) tree_of c.args.values.now c.loop-j.j c.index-values-j.result _ c.loop-j-test.true c.index-values-j.is
    c.loop-j.invariant.right c.in_err-clause_entry.ensures)

pub loop-j-preserved : goal.loop-j-preserved
loop-j-preserved c =
    let e = c.in_ok-clause_entry.ensures in
    let pushed : c.push.new.items.items ≡ c.loop-j.clauses.items ++ c.in_ok-clause_entry.field-0 ∷ [] = grind (arith, common_steps) in
    record {
      right = read_still (clause_at c.args.i) tree_of c.args.values.now c.loop-j.j c.index-values-j.result c.loop-j-test.true c.index-values-j.is c.loop-j.invariant.right e.0;
      found = pushed ∙ read_more (clause_at c.args.i) tree_of c.args.values.now c.loop-j.j c.index-values-j.result _ _ c.loop-j-test.true c.index-values-j.is c.loop-j.invariant.found e.1;
    }
