-- Only private clauses cite this file. What records hold of all that is limited, and the limits again
-- over these counts.
use Rattle.std.specs.Prelude.{ℕ, ◌+◌, ◌-◌, ◌<◌, ◌≤◌, ◌^◌, nat_lt, if◌then◌else◌, List, length, Option, Some, None, sum_by}
use Rattle.campaign_store.specs.declared.counts.Counts.{Counts}
use Rattle.campaign_store.specs.declared.limit.Limit.{Limit}
use Rattle.campaign_store.specs.declared.limit.Limit.TheVariants.{Campaigns, Conjunctions, Values, TextBytes}
use Rattle.campaign_store.specs.declared.record.Record.{Record}
use Rattle.campaign_store.specs.Limits.{bytes_of}
use Rattle.target_expr.specs.Pairs.{values_of}

-- what one record holds, and all of them
abbrev pub counts_of : Record → Counts
counts_of r = record { conjunctions = length r.expr; values = values_of r.expr; text_bytes = bytes_of r }

abbrev pub total_of : List Record → Counts
total_of rs = record {
  conjunctions = sum_by (λ (r : Record). length r.expr) rs;
  values = sum_by (λ (r : Record). values_of r.expr) rs;
  text_bytes = sum_by bytes_of rs;
}

-- no record has more than an expression and facts may have
pub record AreOfOne (c : Counts) : Type 0 where
  pub conjunctions : c.conjunctions ≤ 64
  pub values : c.values ≤ 262144
  pub text_bytes : c.text_bytes < 2 ^ 27

-- nor have all of them more than the limits
pub record AreWithin (c : Counts) : Type 0 where
  pub conjunctions : c.conjunctions ≤ 1000000
  pub values : c.values ≤ 4194304
  pub text_bytes : c.text_bytes ≤ 67108864

abbrev pub plus : Counts → Counts → Counts
plus a b = record { conjunctions = a.conjunctions + b.conjunctions; values = a.values + b.values; text_bytes = a.text_bytes + b.text_bytes }

abbrev pub minus : Counts → Counts → Counts
minus a b = record { conjunctions = a.conjunctions - b.conjunctions; values = a.values - b.values; text_bytes = a.text_bytes - b.text_bytes }

-- the counts are there to be taken out
pub record AreParts (a b : Counts) : Type 0 where
  pub conjunctions : b.conjunctions ≤ a.conjunctions
  pub values : b.values ≤ a.values
  pub text_bytes : b.text_bytes ≤ a.text_bytes

-- the first limit that so many campaigns with these counts are above
abbrev pub first_passed : ℕ → Counts → Option Limit
first_passed campaigns c = if nat_lt 65536 campaigns then Some Campaigns
    else if nat_lt 1000000 c.conjunctions then Some Conjunctions
    else if nat_lt 4194304 c.values then Some Values
    else if nat_lt 67108864 c.text_bytes then Some TextBytes
    else None
