-- What stands in the index of a table of campaigns, and what it costs to make it and to search it.
use Rattle.std.specs.Prelude.{ℕ, ◌+◌, List, [], ◌∷◌, if◌then◌else◌, length, sum_by}
use Rattle.std.specs.List.{enumerate_from, flat_map}
use Rattle.assign.specs.Rows.{pairs_of as assignment_of}
use Rattle.campaign_store.specs.declared.listed.Listed.{Listed}
use Rattle.conj_index.specs.Campaigns.{Campaigns, expression_of}
use Rattle.conj_index.specs.Find.{find_cost}
use Rattle.conj_index.specs.declared.index.Index.{Index}
use Rattle.plain_exchange.specs.declared.commands.Command.{Command}
use Rattle.plain_exchange.specs.declared.commands.Command.TheVariants as command
use Rattle.rtb_types.specs.declared.request.BidRequest.{BidRequest}
use Rattle.rtb_types.specs.declared.request.Imp.{Imp}
use Rattle.target_expr.specs.Pairs.{pairs_of}

-- a campaign's number and expression, where it is live
abbrev pub live_expression : ℕ × Listed → Campaigns
live_expression (n, c) = if c.live then (n, c.entry.expr) ∷ [] else []

-- those of all live campaigns, which are numbered from 1
abbrev pub live_expressions : List Listed → Campaigns
live_expressions campaigns = flat_map live_expression (enumerate_from 1 campaigns)

-- the campaigns, and the pairs of attribute and value in the expressions of those that are live
abbrev pub index_cost : List Listed → ℕ
index_cost campaigns = length campaigns + length (pairs_of (expression_of (live_expressions campaigns)))

-- the most entries of the index that are read for an impression
abbrev pub imp_cost : Index → BidRequest → Imp → ℕ
imp_cost index r imp = find_cost index (assignment_of r imp)

-- and for each impression of an auction; for an act none is read
abbrev pub reach_cost : Index → Command → ℕ
reach_cost index (command.Auction r) = sum_by (imp_cost index r) r.imps
reach_cost index (command.Act a) = 0
