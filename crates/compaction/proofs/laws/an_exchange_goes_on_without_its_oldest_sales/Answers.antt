use Rattle.compaction.proofs.Trimmed.{goes_on}
use Rattle.compaction.proofs.laws.an_exchange_goes_on_without_its_oldest_sales.Goals as goal

pub returns : goal.returns
returns c = goes_on
