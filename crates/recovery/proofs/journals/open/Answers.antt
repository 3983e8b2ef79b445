use Rattle.std.proofs.Common.{◌≡◌, ◌≢◌, MatchResult, ℕ, inr, subst, sym}
use Rattle.journal_file.specs.declared.faults.JournalFault.TheVariants.{DiskFailed}
use Rattle.journal_file.specs.Standing.{faults_of, store_of}
use Rattle.recovery.specs.Texts.{HasText}
use Rattle.rtb_disk.specs.Stores.{Always}
use Rattle.recovery.proofs.Completing.{by_cases}
use Rattle.recovery.proofs.journals.open.Goals as goal

pub returns-in-Ok-clause-any_moment : goal.returns-in-Ok-clause-any_moment
returns-in-Ok-clause-any_moment g c = λ told effects has.
    let start = c.in-Ok.ensures.start told in
    let same = c.in-Ok.ensures.synced told in
    by_cases c.open_from.result _ _ _ _
    (λ r a. subst (λ s. Always (λ image. HasText image effects) s (store_of r.0)) same a)
    (λ e a. inr (subst (λ s. Always (λ image. HasText image effects) s (g.D.Disk.store e.0)) same a))
    (c.open_from.ensures.any_moment start.1 effects (subst (λ l. HasText l effects) (sym start.0) has))

pub returns-in-Ok-clause-quiet : goal.returns-in-Ok-clause-quiet
returns-in-Ok-clause-quiet g c =
    subst (λ (f : ℕ). MatchResult c.open_from.result (λ r. faults_of r.0 ≡ f) (λ e. e.1 ≢ DiskFailed → g.D.Disk.faults e.0 ≡ f))
    c.in-Ok.ensures.cause (c.open_from.ensures.quiet c.in-Ok.ensures.intact)
