use Rattle.std.proofs.Common.{rules}
use Rattle.postings.proofs.Postings.build.Goals as goal

pub returns-clause-rising : goal.returns-clause-rising
returns-clause-rising c = search rules

pub returns-clause-repeated : goal.returns-clause-repeated
returns-clause-repeated c = search rules
