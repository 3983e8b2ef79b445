-- What the records of all campaigns, paused ones included, may hold together.
use Rattle.std.specs.Prelude.{ℕ, ◌+◌, nat_lt, List, [], ◌∷◌, length, Option, find, option_map, sum_by}
use Rattle.campaign.specs.Kept.{text_bytes_of as fact_bytes_of}
use Rattle.campaign_store.specs.declared.limit.Limit.{Limit}
use Rattle.campaign_store.specs.declared.limit.Limit.TheVariants.{Campaigns, Conjunctions, Values, TextBytes}
use Rattle.campaign_store.specs.declared.record.Record.{Record}
use Rattle.target_expr.specs.Pairs.{values_of, text_bytes_of}

-- the bytes of a record's texts, of facts and expression together
abbrev pub bytes_of : Record → ℕ
bytes_of r = fact_bytes_of r.facts + text_bytes_of r.expr

-- a limit, the greatest count that it allows, and what is counted
abbrev pub Counted : Type 0
Counted = Limit × (ℕ × (List Record → ℕ))

abbrev pub limits : List Counted
limits = (Campaigns, (65536, (λ rs. length rs)))
    ∷ (Conjunctions, (1000000, (λ rs. sum_by (λ (r : Record). length r.expr) rs)))
    ∷ (Values, (4194304, (λ rs. sum_by (λ (r : Record). values_of r.expr) rs)))
    ∷ (TextBytes, (67108864, (λ rs. sum_by bytes_of rs)))
    ∷ []

-- the first limit that the records are above
abbrev pub passed_limit : List Record → Option Limit
passed_limit rs = option_map (λ (l : Counted). l.0) (find (λ (l : Counted). nat_lt l.1.0 (l.1.1 rs)) limits)
