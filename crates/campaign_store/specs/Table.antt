-- The campaigns of a table by number, and what an edit makes of them.
use Rattle.std.specs.Prelude.{ℕ, ◌-◌, ◌==◌, if◌then◌else◌, List, [], ◌∷◌, ◌++◌, map, slice_get, slice_set, Bool, Option, Some, None}
use Rattle.std.specs.List.{enumerate_from, flat_map}
use Rattle.std.specs.Option.{option_map_or}
use Rattle.campaign_store.specs.declared.record.Record.{Record}
use Rattle.campaign_store.specs.declared.listed.Listed.{Listed}
use Rattle.campaign_store.specs.declared.listed.LiveRecord.{LiveRecord}

-- the campaigns in order, how many edits made them, and for how many more there is room
pub record TableState : Type 0 where
  pub campaigns : List Listed
  pub edits : ℕ
  pub spare : ℕ

-- the record of each campaign, paused ones included
abbrev pub entries_of : List Listed → List Record
entries_of campaigns = map (λ (c : Listed). c.entry) campaigns

-- campaign n, counted from 1
abbrev pub campaign_at : List Listed → ℕ → Option Listed
campaign_at campaigns n = if n == 0 then None else slice_get campaigns (n - 1)

-- the campaigns, where campaign n is changed
abbrev pub with_changed : (Listed → Listed) → ℕ → List Listed → List Listed
with_changed change n campaigns = option_map_or (λ c. slice_set campaigns (n - 1) (change c)) (campaign_at campaigns n) campaigns

-- the same campaign with another record, and live or paused
abbrev pub with_entry : Record → Listed → Listed
with_entry entry c = record c { entry = entry }

abbrev pub with_live : Bool → Listed → Listed
with_live live c = record c { live = live }

-- the records with a new one: in place of that of campaign n, or behind all others
abbrev pub entries_with : Option ℕ → Record → List Listed → List Record
entries_with None entry campaigns = entries_of campaigns ++ entry ∷ []
entries_with (Some n) entry campaigns = slice_set (entries_of campaigns) (n - 1) entry

-- a campaign and its number, where it is live
abbrev pub live_record : ℕ × Listed → List LiveRecord
live_record (n, c) = if c.live then (record { number = n; entry = c.entry }) ∷ [] else []

-- the live campaigns with their numbers
abbrev pub live_records : List Listed → List LiveRecord
live_records campaigns = flat_map live_record (enumerate_from 1 campaigns)
