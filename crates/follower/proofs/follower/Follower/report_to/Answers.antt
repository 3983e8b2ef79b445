use Rattle.std.proofs.Common.{inl, inr, refl}
use Rattle.follower.proofs.follower.Follower.report_to.Goals as goal

pub returns-in-Ok-clause-reports : goal.returns-in-Ok-clause-reports
returns-in-Ok-clause-reports g c = inl c.report_with.ensures.reports

pub returns-in-Err-clause-reports : goal.returns-in-Err-clause-reports
returns-in-Err-clause-reports g c = inr (refl, refl)
