use Rattle.std.proofs.Common.{rules}
use Rattle.campaign_store.proofs.counts.Counts.of.Goals as goal

pub returns-clause-value : goal.returns-clause-value
returns-clause-value c = search rules
