-- Only private clauses cite this file. What is always true of a table.
use Rattle.std.specs.Prelude.{◌≡◌, List, None}
use Rattle.campaign_store.specs.declared.counts.Counts.{Counts}
use Rattle.campaign_store.specs.declared.listed.Listed.{Listed}
use Rattle.campaign_store.specs.Counts.{total_of}
use Rattle.campaign_store.specs.Limits.{passed_limit}
use Rattle.campaign_store.specs.Table.{entries_of}

-- the campaigns are within the limits, and the table knows what their records hold
pub record IsTable (campaigns : List Listed) (total : Counts) : Type 0 where
  pub counted : total ≡ total_of (entries_of campaigns)
  pub within : passed_limit (entries_of campaigns) ≡ None
