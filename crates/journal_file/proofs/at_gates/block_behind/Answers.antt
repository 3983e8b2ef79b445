use Rattle.std.proofs.Common.{◌∙◌, ap, sym, subst, refl, List, ℕ, ◌∷◌, drop}
use Rattle.std.specs.Prelude.{Option, Some, None}
use Rattle.rtb_disk.specs.Stores.{Store}
use Rattle.journal_file.specs.Damage.{IsBlockAt}
use Rattle.journal_file.specs.Sizes.{IsWholeSize}
use Rattle.std.proofs.Common.{Err, Ok}
use Rattle.std.specs.Prelude.{Result}
use Rattle.std.proofs.lemmas.Result.{err_from_is_err_and}
use Rattle.journal_file.proofs.Shown.{behind_shown, shown_so, shown_then}
use Rattle.journal_file.specs.Showing.{IsBehindShown, IsSizeShown}
use Rattle.journal_file.specs.declared.faults.JournalFault.{JournalFault}
use Rattle.journal_file.proofs.at_gates.block_behind.Goals as goal

pub returns-in-None-clause-block : goal.returns-in-None-clause-block
returns-in-None-clause-block g c = λ told rest e.
    let cut : IsWholeSize rest None = subst (λ (o : Option ℕ). IsWholeSize rest o) c.in-None.is (c.in_ok-size.ensures.whole told rest e) in
    (cut, refl, refl)

pub returns-in-Some-clause-block : goal.returns-in-Some-clause-block
returns-in-Some-clause-block g c = λ told rest e.
    let same = c.in_ok-size.ensures.same in
    let sized : IsWholeSize rest (Some c.in-Some.size) = subst (λ (o : Option ℕ). IsWholeSize rest o) c.in-Some.is (c.in_ok-size.ensures.whole told rest e) in
    let told2 = ap (λ (s : Store). s.told) same ∙ told in
    let moved = ap (λ (s : Store). drop c.args.gate s.reads) same ∙ e ∙ ap (λ (l : List ℕ). 1 ∷ l) sized.1 in
    subst (λ (l : List ℕ). IsBlockAt c.args.gate (1 ∷ l) c.args.out.now c.payload_behind.new.out c.payload_behind.result) (sym sized.1) (c.payload_behind.ensures.block told2 sized.0 moved)

pub returns-in_err-size-clause-shows : goal.returns-in_err-size-clause-shows
returns-in_err-size-clause-shows g c =
    let p = err_from_is_err_and c.from_residual.result c.from_residual.ensures.1 in
    let is = p.1 ∙ ap Err p.2 in
    shown_so _ _ c.in_err-size.ensures.shows (λ more whole. subst (λ (r : Result (Option ℕ) JournalFault). IsBehindShown c.args.gate more c.args.out.now c.args.out.now r) (sym is) (whole, refl))

pub returns-in-None-clause-shows : goal.returns-in-None-clause-shows
returns-in-None-clause-shows g c =
    shown_so _ _ c.in_ok-size.ensures.shows (λ more found. (subst (λ (o : Option ℕ). IsSizeShown c.args.gate more (Ok o)) c.in-None.is found, refl, refl))

pub returns-in-Some-clause-shows : goal.returns-in-Some-clause-shows
returns-in-Some-clause-shows g c =
    shown_then _ _ _ c.in_ok-size.ensures.shows c.payload_behind.ensures.shows (λ more back found rest.
    behind_shown c.args.gate c.in-Some.size more back c.args.out.now c.payload_behind.new.out c.payload_behind.result (subst (λ (o : Option ℕ). IsSizeShown c.args.gate more (Ok o)) c.in-Some.is found) rest)
