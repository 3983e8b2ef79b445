-- Campaigns of a table by number: which are true, and what it costs to look at one.
use Rattle.std.specs.Prelude.{ℕ, Bool, false, List, length}
use Rattle.std.specs.Option.{option_map_or}
use Rattle.campaign_store.specs.declared.listed.Listed.{Listed}
use Rattle.campaign_store.specs.Table.{campaign_at}
use Rattle.index_versions.specs.Fixed.{Pairs, is_true}

-- campaign n is there and live, and its expression is true
abbrev pub is_true_at : Pairs → List Listed → ℕ → Bool
is_true_at a campaigns n = option_map_or (is_true a) (campaign_at campaigns n) false

-- the conjunctions of campaign n
abbrev pub conjunctions_of : List Listed → ℕ → ℕ
conjunctions_of campaigns n = option_map_or (λ (c : Listed). length c.entry.expr) (campaign_at campaigns n) 0
