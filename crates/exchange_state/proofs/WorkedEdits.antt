-- Worked cases, by evaluation: a ticket while campaigns are edited.
use Rattle.std.proofs.Common.{◌≡◌, ℕ, zero, suc, List, [], ◌∷◌, ◌++◌, length, map, refl, Bool, true, false, Some, None}
use Rattle.std.specs.Prelude.{codes}
use Rattle.assign.specs.Rows.{pairs_of, site_rows, app_rows, publisher_of, geo_rows, device_rows, user_rows, imp_rows}
use Rattle.campaign_store.specs.declared.listed.Listed.{Listed}
use Rattle.deal_rules.specs.Offers.{offers_of}
use Rattle.deal_rules.specs.Rules.{common_rules, public_rules}
use Rattle.deal_rules.specs.Terms.{terms_of, user_of}
use Rattle.exchange_state.specs.declared.entries.Entry.{Entry}
use Rattle.exchange_state.specs.declared.entries.Origin.{Origin}
use Rattle.exchange_state.specs.Tickets.{IsLegalFrom, edits_after, fix, matches_of, opening, state_after, table_at, touched, touched_since}
use Rattle.exchange_state.specs.Views.{called, calls, kept, published, published_at}
use Rattle.plain_exchange.specs.declared.changes.Change.TheVariants as change
use Rattle.plain_exchange.specs.declared.changes.Effect.{Effect}
use Rattle.plain_exchange.specs.declared.changes.KeptCampaign.{KeptCampaign}
use Rattle.plain_exchange.specs.declared.commands.Act.TheVariants as act
use Rattle.plain_exchange.specs.declared.commands.Command.{Command}
use Rattle.plain_exchange.specs.declared.commands.Command.TheVariants as command
use Rattle.plain_exchange.specs.declared.commands.Reply.{Reply}
use Rattle.plain_exchange.specs.declared.commands.Reply.TheVariants as reply
use Rattle.plain_exchange.specs.History.{Call}
use Rattle.plain_exchange.specs.Step.{step}
use Rattle.plain_exchange.proofs.Samples.{Brief, brief, by_reader, cars_facts, read, shoes_facts, wants, wants_all}
use Rattle.rtb_types.specs.declared.request.Imp.{Imp}

-- ---- the openings

-- with shoes and cars, each an edit
abbrev two_added : List Effect
two_added = (record { moment = 1000; change = change.Added shoes_facts (wants (codes "news.example")) }) ∷ (record { moment = 1000; change = change.Added cars_facts wants_all }) ∷ []

abbrev opened_with : List Effect → Origin
opened_with es = record { effects = es; settings = record { ttl = 300000; limit = 4194304 }; faults = 0; told = true; moments = 0 }

abbrev with_two : Origin
with_two = opened_with two_added

-- ---- what is read off

-- whether each campaign of the table is live
abbrev live_at : Origin → List Call → ℕ → List Bool
live_at o h edit = map (λ (c : Listed). c.live) (table_at o h edit)

-- what was found in the version of the edit, corrected by the edits since
abbrev fixed_for : Origin → List Call → ℕ → List (List ℕ) → List (List ℕ)
fixed_for o h edit [] = []
fixed_for o h edit (found ∷ more) = map (λ (i : Imp). fix o h (pairs_of by_reader i) edit found) by_reader.imps

-- the reply to the auction for which it was found
abbrev sold_after : Origin → List Call → Brief
sold_after o h = brief (step o.settings 2000 (state_after o h) read).reply

abbrev call : Command → ℕ → Reply → Entry
call c moment r = called 2 c moment r

-- ---- one pause between the find and the sale

abbrev paused : List Entry
paused = call (command.Act (act.Pause 1)) 1500 (reply.Paused 1) ∷ []

paused_legal : IsLegalFrom with_two (calls paused)
unfolding IsLegalFrom opening
paused_legal = (refl, tt)

-- the version of the opening has both, and campaign 1 was touched since
both_found : matches_of with_two (calls paused) 2 by_reader ≡ (1 ∷ 2 ∷ []) ∷ []
unfolding pairs_of site_rows app_rows publisher_of geo_rows device_rows user_rows imp_rows opening state_after table_at
both_found = refl

tables : (live_at with_two (calls paused) 2 ∷ live_at with_two (calls paused) 3 ∷ []) ≡ ((true ∷ true ∷ []) ∷ (false ∷ true ∷ []) ∷ [])
unfolding opening state_after table_at
tables = refl

one_touched : touched_since with_two (calls paused) 2 ≡ 1 ∷ []
unfolding opening touched touched_since
one_touched = refl

-- so campaign 2 alone is left, and wins at the floor
fixed_to_cars : fixed_for with_two (calls paused) 2 ((1 ∷ 2 ∷ []) ∷ []) ≡ (2 ∷ []) ∷ []
unfolding pairs_of site_rows app_rows publisher_of geo_rows device_rows user_rows imp_rows opening state_after table_at touched touched_since
fixed_to_cars = refl

cars_sold : sold_after with_two (calls paused) ≡ (codes "sold", 2 ∷ 300000 ∷ 1 ∷ [])
unfolding offers_of common_rules public_rules terms_of user_of pairs_of site_rows app_rows publisher_of geo_rows device_rows user_rows imp_rows opening state_after
cars_sold = refl

-- what was found as it was would have sold campaign 1, and the state that is left sells none of it
old_offer : matches_of with_two (calls paused) 3 by_reader ≡ (2 ∷ []) ∷ []
unfolding pairs_of site_rows app_rows publisher_of geo_rows device_rows user_rows imp_rows opening state_after table_at
old_offer = refl

-- ---- edits of each kind between the find and the sale

-- a campaign is added, one is changed so that it is no more true, and one is paused and resumed
abbrev edited : List Entry
edited = call (command.Act (act.Add cars_facts wants_all)) 1100 (reply.Added 3)
    ∷ call (command.Act (act.Change 1 shoes_facts (wants (codes "other.example")))) 1200 (reply.Changed 1)
    ∷ call (command.Act (act.Pause 2)) 1300 (reply.Paused 2)
    ∷ call (command.Act (act.Resume 2)) 1400 (reply.Resumed 2)
    ∷ []

edited_legal : IsLegalFrom with_two (calls edited)
unfolding IsLegalFrom opening
edited_legal = (refl, (refl, (refl, (refl, tt))))

edits_now : edits_after with_two (calls edited) ≡ 6
unfolding edits_after opening
edits_now = refl

all_touched : touched_since with_two (calls edited) 2 ≡ 3 ∷ 1 ∷ 2 ∷ 2 ∷ []
unfolding opening touched touched_since
all_touched = refl

-- from the edit before the pause on, only that campaign
last_touched : touched_since with_two (calls edited) 4 ≡ 2 ∷ 2 ∷ []
unfolding opening touched touched_since
last_touched = refl

each_table : map (live_at with_two (calls edited)) (2 ∷ 3 ∷ 4 ∷ 5 ∷ 6 ∷ []) ≡ (true ∷ true ∷ []) ∷ (true ∷ true ∷ true ∷ []) ∷ (true ∷ true ∷ true ∷ []) ∷ (true ∷ false ∷ true ∷ []) ∷ (true ∷ true ∷ true ∷ []) ∷ []
unfolding opening state_after table_at
each_table = refl

-- what was added comes in, what was changed goes out, and what was resumed stays
fixed_by_all : fixed_for with_two (calls edited) 2 ((1 ∷ 2 ∷ []) ∷ []) ≡ (2 ∷ 3 ∷ []) ∷ []
unfolding pairs_of site_rows app_rows publisher_of geo_rows device_rows user_rows imp_rows opening state_after table_at touched touched_since
fixed_by_all = refl

-- a version of any edit, corrected, is what one of the last edit gives
fixed_from_each : map (λ edit. fixed_for with_two (calls edited) edit (matches_of with_two (calls edited) edit by_reader)) (2 ∷ 3 ∷ 4 ∷ 5 ∷ 6 ∷ [])
    ≡ map (λ (n : ℕ). matches_of with_two (calls edited) 6 by_reader) (2 ∷ 3 ∷ 4 ∷ 5 ∷ 6 ∷ [])
unfolding pairs_of site_rows app_rows publisher_of geo_rows device_rows user_rows imp_rows opening state_after table_at touched touched_since
fixed_from_each = refl

-- ---- a ticket that is older than the edits that are remembered

-- so many edits of campaign 1, pause and resume in turn
abbrev pauses : ℕ → List Entry
pauses zero = []
pauses (suc n) = call (command.Act (act.Pause 1)) 1500 (reply.Paused 1) ∷ call (command.Act (act.Resume 1)) 1500 (reply.Resumed 1) ∷ pauses n

-- a version is published at each 2,048 edits, and one pause is behind the last
abbrev often : List Entry
often = pauses 1024 ++ published_at 0 2050 ∷ pauses 1024 ++ published_at 0 4098 ∷ call (command.Act (act.Pause 1)) 1500 (reply.Paused 1) ∷ []

often_published : (kept with_two often ∷ published with_two often ∷ edits_after with_two (calls often) ∷ []) ≡ (2050 ∷ 4098 ∷ 4099 ∷ [])
unfolding edits_after opening
often_published = refl

-- a ticket of the opening is older than those, and in the present version both are found
both_again : matches_of with_two (calls often) 4098 by_reader ≡ (1 ∷ 2 ∷ []) ∷ []
unfolding pairs_of site_rows app_rows publisher_of geo_rows device_rows user_rows imp_rows opening state_after table_at
both_again = refl

-- which the last pause corrects
last_pause : touched_since with_two (calls often) 4098 ≡ 1 ∷ []
unfolding opening touched touched_since
last_pause = refl

fixed_anew : fixed_for with_two (calls often) 4098 ((1 ∷ 2 ∷ []) ∷ []) ≡ (2 ∷ []) ∷ []
unfolding pairs_of site_rows app_rows publisher_of geo_rows device_rows user_rows imp_rows opening state_after table_at touched touched_since
fixed_anew = refl

cars_sold_late : sold_after with_two (calls often) ≡ (codes "sold", 2 ∷ 300000 ∷ 1 ∷ [])
unfolding offers_of common_rules public_rules terms_of user_of pairs_of site_rows app_rows publisher_of geo_rows device_rows user_rows imp_rows opening state_after
cars_sold_late = refl

-- ---- an opening with campaigns of a compacted journal

abbrev as_kept : Bool → KeptCampaign
as_kept live = record { live = live; facts = shoes_facts; expr = wants (codes "news.example"); gone = record { spent = 0; billed = 0; lost = 0; expired = 0 } }

-- one is live, which is one edit; one is paused, which is two
abbrev with_kept : Origin
with_kept = opened_with ((record { moment = 0; change = change.Kept (as_kept true) }) ∷ (record { moment = 0; change = change.Kept (as_kept false) }) ∷ [])

kept_edits : (edits_after with_kept [] ∷ published with_kept [] ∷ kept with_kept [] ∷ []) ≡ (3 ∷ 3 ∷ 3 ∷ [])
unfolding edits_after opening
kept_edits = refl

-- the second is resumed, which is the fourth edit
abbrev resumed : List Entry
resumed = call (command.Act (act.Resume 2)) 1500 (reply.Resumed 2) ∷ []

resumed_legal : IsLegalFrom with_kept (calls resumed)
unfolding IsLegalFrom opening
resumed_legal = (refl, tt)

kept_tables : (live_at with_kept (calls resumed) 3 ∷ live_at with_kept (calls resumed) 4 ∷ []) ≡ ((true ∷ false ∷ []) ∷ (true ∷ true ∷ []) ∷ [])
unfolding opening state_after table_at
kept_tables = refl

fixed_to_both : fixed_for with_kept (calls resumed) 3 (matches_of with_kept (calls resumed) 3 by_reader) ≡ (1 ∷ 2 ∷ []) ∷ []
unfolding pairs_of site_rows app_rows publisher_of geo_rows device_rows user_rows imp_rows opening state_after table_at touched touched_since
fixed_to_both = refl
