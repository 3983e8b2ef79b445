-- Which campaigns a version stands for, and what it costs to make it.
use Rattle.std.specs.Prelude.{ℕ, ◌+◌, List, length, map}
use Rattle.campaign_store.specs.declared.listed.Listed.{Listed}
use Rattle.campaign_store.specs.declared.listed.LiveRecord.{LiveRecord}
use Rattle.campaign_store.specs.Table.{live_records}
use Rattle.conj_index.specs.Campaigns.{Campaigns, expression_of}
use Rattle.target_expr.specs.declared.pred.Pred.{Pred}
use Rattle.target_expr.specs.Pairs.{pairs_of}

abbrev pub numbered_expression : LiveRecord → ℕ × List (List Pred)
numbered_expression r = (r.number, r.entry.expr)

-- live campaigns, each with its expression
abbrev pub campaigns_of : List LiveRecord → Campaigns
campaigns_of live = map numbered_expression live

-- the live ones of a table
abbrev pub live_in : List Listed → Campaigns
live_in campaigns = campaigns_of (live_records campaigns)

-- the campaigns, and the pairs of attribute and value in their expressions
abbrev pub version_cost : List LiveRecord → ℕ
version_cost live = length live + length (pairs_of (expression_of (campaigns_of live)))
