use Rattle.std.proofs.Common.{sym, ◌∙◌, ap, is_some}
use Rattle.target_expr.specs.Kept.{faults, is_kept, keep}
use Rattle.target_expr.proofs.Faults.{none_first}
use Rattle.target_expr.proofs.Keeping.{kept_is}
use Rattle.target_expr.proofs.expr.Expr.make.Goals as goal

pub of-requires : goal.of-requires
of-requires c =
    let none = ap faults (sym c.as_slice.ensures) ∙ none_first _ (ap is_some (sym c.in-None.ensures)) in
    ap is_kept (c.in_ok-conjunctions-in-None.ensures ∙ ap keep c.as_slice-in-None.ensures) ∙ kept_is c.args.raw.now none

pub returns-in_ok-conjunctions-in-None-clause-right : goal.returns-in_ok-conjunctions-in-None-clause-right
returns-in_ok-conjunctions-in-None-clause-right c = ap faults (sym c.as_slice.ensures) ∙ none_first _ (ap is_some (sym c.in-None.ensures))
