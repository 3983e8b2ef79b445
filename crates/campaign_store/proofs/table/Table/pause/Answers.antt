use Rattle.std.proofs.Common.{rules}
use Rattle.campaign_store.proofs.table.Table.pause.Goals as goal

pub returns : goal.returns
returns c = search rules
