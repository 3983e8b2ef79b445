use Rattle.std.proofs.Common.{rules}
use Rattle.campaign_store.proofs.table.push_live.Goals as goal

pub returns-in_ok-push : goal.returns-in_ok-push
returns-in_ok-push c = search rules
