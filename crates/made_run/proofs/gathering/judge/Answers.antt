use Rattle.std.proofs.Common.{refl}
use Rattle.made_run.proofs.gathering.judge.Goals as goal

pub returns-clause-leads : goal.returns-clause-leads
returns-clause-leads c = rw c.if-not-accounts.false at c.in_ok-accounts.ensures.leads

pub returns-clause-fits : goal.returns-clause-fits
returns-clause-fits c = (rw c.if-not-accounts.false at c.in_ok-accounts.ensures.fits) refl
