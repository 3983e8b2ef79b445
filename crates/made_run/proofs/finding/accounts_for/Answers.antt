use Rattle.made_run.proofs.Keeping.{fits_on}
use Rattle.made_run.proofs.finding.accounts_for.Goals as goal

pub returns-in-Some-clause-fits : goal.returns-in-Some-clause-fits
returns-in-Some-clause-fits c =
    let before = rw c.in-Some.is at c.requires.fits in
    rw c.in-Some.is (fits_on c.in-Some.index.now c.args.core.now.state c.accounts_by.new.core.state c.accounts_by.result before c.accounts_by.ensures.listed)
