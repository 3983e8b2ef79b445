use Rattle.std.proofs.Common.{rules}
use Rattle.campaign_store.proofs.table.Table.add.Goals as goal

pub returns-clause-value : goal.returns-clause-value
returns-clause-value c = search rules
