use Rattle.std.proofs.Common.{◌≡◌, ◌∙◌, ℕ, Err, true, false, ap, refl, subst, sym}
use Rattle.std.specs.Prelude.{Bool, Option, Result}
use Rattle.std.proofs.lemmas.Result.{err_from_is_err_and}
use Rattle.journal_file.proofs.Shown.{block_shown, cut_told, none_cut, shown_so, shown_then, shut_cut, shut_shown}
use Rattle.journal_file.specs.Shows.{IsBlockShown}
use Rattle.journal_file.specs.declared.faults.JournalFault.{JournalFault}
use Rattle.journal_file.specs.Showing.{IsGateShown}
use Rattle.journal_file.proofs.at_gates.block_at.Goals as goal

pub returns-then-branch-clause-shows : goal.returns-then-branch-clause-shows
returns-then-branch-clause-shows g c =
    let is : c.in_ok-is_open.field-0 ≡ true = cc c.if-branch.true in
    shown_then _ _ _ c.in_ok-is_open.ensures.shows c.block_behind.ensures.shows (λ more back found rest.
    block_shown c.args.gate more back c.args.out.now c.block_behind.new.out c.block_behind.result (subst (λ (b : Bool). IsGateShown c.args.gate more b) is found) rest)

pub returns-clause-shows : goal.returns-clause-shows
returns-clause-shows g c =
    let is : c.in_ok-is_open.field-0 ≡ false = cc c.if-branch.false in
    shown_so _ _ c.in_ok-is_open.ensures.shows (λ more found. (shut_shown c.args.gate more (subst (λ (b : Bool). IsGateShown c.args.gate more b) is found), refl))

pub returns-in_err-is_open-clause-shows : goal.returns-in_err-is_open-clause-shows
returns-in_err-is_open-clause-shows g c =
    let p = err_from_is_err_and c.from_residual.result c.from_residual.ensures.1 in
    let is = p.1 ∙ ap Err p.2 in
    shown_so _ _ c.in_err-is_open.ensures.shows (λ more _. subst (λ (r : Result (Option ℕ) JournalFault). IsBlockShown c.args.gate more c.args.out.now c.args.out.now r) (sym is) refl)

pub returns-in_err-is_open-clause-cut : goal.returns-in_err-is_open-clause-cut
returns-in_err-is_open-clause-cut g c = shown_so _ _ c.in_err-is_open.ensures.shows (λ more none cut. absurd (none_cut c.args.gate more none cut))

pub returns-then-branch-clause-cut : goal.returns-then-branch-clause-cut
returns-then-branch-clause-cut g c =
    let is : c.in_ok-is_open.field-0 ≡ true = cc c.if-branch.true in
    shown_then _ _ _ c.in_ok-is_open.ensures.shows c.block_behind.ensures.shows (λ more back found rest.
    cut_told c.args.gate more back (subst (λ (b : Bool). IsGateShown c.args.gate more b) is found) c.args.out.now c.block_behind.new.out c.block_behind.result rest)

pub returns-clause-cut : goal.returns-clause-cut
returns-clause-cut g c =
    let is : c.in_ok-is_open.field-0 ≡ false = cc c.if-branch.false in
    shown_so _ _ c.in_ok-is_open.ensures.shows (λ more found cut. absurd (shut_cut c.args.gate more (subst (λ (b : Bool). IsGateShown c.args.gate more b) is found) cut))
