use Rattle.std.proofs.Common.{List, sym, ◌∙◌, ap}
use Rattle.cnf_match.specs.Conjunctive.{Cnf}
use Rattle.top_match.specs.Checking.{is_certified}
use Rattle.top_match.proofs.Certified.{certified_is, top_certified}
use Rattle.top_match.proofs.checking.check.Goals as goal

pub returns : goal.returns
returns c =
    let es = c.args.exprs.now in
    let a = c.args.assignment.now in
    let n = c.args.n in
    let chosen = c.args.chosen.now in
    let marks = c.args.marks.now in
    let same = c.is_certified.ensures
    ∙ ap (λ (l : List Cnf). is_certified l a n c.as_slice-2.result.now c.as_slice-3.result.now) c.as_slice.ensures
    ∙ ap (λ s. is_certified es a n s c.as_slice-3.result.now) c.as_slice-2.ensures
    ∙ ap (λ m. is_certified es a n chosen m) c.as_slice-3.ensures in
    (λ passed. certified_is es a n chosen marks (sym same ∙ passed), λ both. same ∙ top_certified es a n chosen marks both.0 both.1)
