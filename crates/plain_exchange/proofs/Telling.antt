-- Worked cases, by evaluation: a reply in full, the effects of commands, and effects that do not fit.
use Rattle.std.proofs.Common.{◌≡◌, ℕ, List, [], ◌∷◌, ◌++◌, map, refl, Bool, true, false, Some, None}
use Rattle.std.specs.Prelude.{codes}
use Rattle.assign.specs.Rows.{pairs_of, site_rows, app_rows, publisher_of, geo_rows, device_rows, user_rows, imp_rows}
use Rattle.budget_book.specs.declared.sales.SaleState.TheVariants as state
use Rattle.deal_rules.specs.Offers.{offers_of}
use Rattle.deal_rules.specs.Rules.{common_rules, public_rules}
use Rattle.deal_rules.specs.Terms.{terms_of, user_of}
use Rattle.plain_exchange.specs.declared.changes.Change.{Change}
use Rattle.plain_exchange.specs.declared.changes.Change.TheVariants as change
use Rattle.plain_exchange.specs.declared.commands.Act.TheVariants as act
use Rattle.plain_exchange.specs.declared.commands.Command.{Command}
use Rattle.plain_exchange.specs.declared.commands.Command.TheVariants as command
use Rattle.plain_exchange.specs.declared.commands.Reply.TheVariants as reply
use Rattle.plain_exchange.specs.Effects.{edits, fits, kept_effects, state_of}
use Rattle.plain_exchange.specs.State.{State, empty}
use Rattle.plain_exchange.specs.Step.{effect_of, none_gone, step}
use Rattle.plain_exchange.proofs.Samples.{after, capped_facts, cars_facts, imp_of, on_news, one_sale, read, settings, shoes_facts, wants_all}

abbrev before : State
before = after empty one_sale

-- the second impression alone has the deal, which is its second; nobody buys the first one
abbrev dealt : Command
dealt = command.Auction (on_news (record (imp_of 900000000) { secure = true } ∷ record (imp_of 900000000) {
  pmp = record {
    private_auction = false;
    deals = record { id = codes "d0"; floor = 0; currency = codes "EUR"; at = 2; wseat = []; wadomain = [] } ∷ record { id = codes "d1"; floor = 400000; currency = codes "USD"; at = 3; wseat = []; wadomain = [] } ∷ [];
  };
} ∷ []))

abbrev dealer : State
dealer = after empty ((0, command.Act (act.Add (record cars_facts { deals = codes "d0" ∷ codes "d1" ∷ [] }) wants_all)) ∷ [])

sold_in_a_deal : (step settings 7 dealer dealt).reply
    ≡ reply.Sold (record { imp = 1; sale = 1; price = 400000; deal = Some (codes "d1"); campaign = 1; «record» = record { facts = record cars_facts { deals = codes "d0" ∷ codes "d1" ∷ [] }; expr = wants_all } } ∷ [])
unfolding offers_of common_rules public_rules terms_of user_of pairs_of site_rows app_rows publisher_of geo_rows device_rows user_rows imp_rows
sold_in_a_deal = refl

-- ---- effects

effect_of_a_sale_to_nobody : effect_of settings 7 dealer dealt ≡ Some (record { moment = 7; change = change.Sold (record { campaign = 1; price = 400000; due = 300007 } ∷ []) })
unfolding offers_of common_rules public_rules terms_of user_of pairs_of site_rows app_rows publisher_of geo_rows device_rows user_rows imp_rows
effect_of_a_sale_to_nobody = refl

effect_of_a_sale_to_a_user : effect_of settings 1000 before read ≡ Some (record { moment = 1000; change = change.SoldTo (codes "55816b39") (record { campaign = 1; price = 1010000; due = 301000 } ∷ []) })
unfolding offers_of common_rules public_rules terms_of user_of pairs_of site_rows app_rows publisher_of geo_rows device_rows user_rows imp_rows
effect_of_a_sale_to_a_user = refl

-- pausing twice has one effect
effect_of_a_pause : (effect_of settings 1000 before (command.Act (act.Pause 1)) ∷ effect_of settings 1000 (after before ((1000, command.Act (act.Pause 1)) ∷ [])) (command.Act (act.Pause 1)) ∷ []) ≡ Some (record { moment = 1000; change = change.Paused 1 }) ∷ None ∷ []
unfolding offers_of common_rules public_rules terms_of user_of pairs_of site_rows app_rows publisher_of geo_rows device_rows user_rows imp_rows
effect_of_a_pause = refl

-- sale 1 has expired at that moment; it is not billed, but swept
effect_of_a_refusal : effect_of settings 301000 before (command.Act (act.Bill 1)) ≡ Some (record { moment = 301000; change = change.Swept })
unfolding offers_of common_rules public_rules terms_of user_of pairs_of site_rows app_rows publisher_of geo_rows device_rows user_rows imp_rows
effect_of_a_refusal = refl

-- ---- effects that do not fit

abbrev fit_at : ℕ → List Change → List Bool
fit_at moment changes = map (λ c. fits (record { moment = moment; change = c }) before) changes

-- before the sale is due
nothing_expires : fit_at 300999 (change.Swept ∷ []) ≡ false ∷ []
unfolding offers_of common_rules public_rules terms_of user_of pairs_of site_rows app_rows publisher_of geo_rows device_rows user_rows imp_rows
nothing_expires = refl

something_expires : fit_at 301000 (change.Swept ∷ []) ≡ true ∷ []
unfolding offers_of common_rules public_rules terms_of user_of pairs_of site_rows app_rows publisher_of geo_rows device_rows user_rows imp_rows
something_expires = refl

abbrev sold_for : ℕ → ℕ → Change
sold_for campaign price = change.Sold (record { campaign = campaign; price = price; due = 9000 } ∷ [])

-- 10,000,000,000 are the budget, and 1,010,000 are reserved of campaign 1
sold_within_budget : fit_at 1000 (sold_for 1 9998990000 ∷ sold_for 1 9998990001 ∷ sold_for 2 10000000000 ∷ sold_for 3 1 ∷ sold_for 0 1 ∷ []) ≡ true ∷ false ∷ true ∷ false ∷ false ∷ []
unfolding offers_of common_rules public_rules terms_of user_of pairs_of site_rows app_rows publisher_of geo_rows device_rows user_rows imp_rows
sold_within_budget = refl

-- what was reserved is free again
sold_after_expiry : fit_at 301000 (sold_for 1 9998990001 ∷ []) ≡ true ∷ []
unfolding offers_of common_rules public_rules terms_of user_of pairs_of site_rows app_rows publisher_of geo_rows device_rows user_rows imp_rows
sold_after_expiry = refl

-- the second on what the first left
sold_in_turn : fit_at 1000 (change.SoldTo (codes "u") (record { campaign = 2; price = 6000000000; due = 9000 } ∷ record { campaign = 2; price = 4000000001; due = 9000 } ∷ []) ∷ []) ≡ false ∷ []
unfolding offers_of common_rules public_rules terms_of user_of pairs_of site_rows app_rows publisher_of geo_rows device_rows user_rows imp_rows
sold_in_turn = refl

sold_while_paused : fits (record { moment = 1000; change = sold_for 2 1 }) (after before ((1000, command.Act (act.Pause 2)) ∷ [])) ≡ false
unfolding offers_of common_rules public_rules terms_of user_of pairs_of site_rows app_rows publisher_of geo_rows device_rows user_rows imp_rows
sold_while_paused = refl

changed_within_budget : fit_at 1000 (change.Changed 1 (record shoes_facts { budget = 1010000 }) wants_all ∷ change.Changed 1 (record shoes_facts { budget = 1009999 }) wants_all ∷ change.Changed 3 shoes_facts wants_all ∷ []) ≡ true ∷ false ∷ false ∷ []
unfolding offers_of common_rules public_rules terms_of user_of pairs_of site_rows app_rows publisher_of geo_rows device_rows user_rows imp_rows
changed_within_budget = refl

-- both are live
paused_or_live : fit_at 1000 (change.Paused 1 ∷ change.Resumed 1 ∷ change.Paused 3 ∷ []) ≡ true ∷ false ∷ false ∷ []
unfolding offers_of common_rules public_rules terms_of user_of pairs_of site_rows app_rows publisher_of geo_rows device_rows user_rows imp_rows
paused_or_live = refl

settled_while_held : (fit_at 1000 (change.Billed 1 ∷ change.Lost 1 ∷ change.Billed 2 ∷ []) ++ fit_at 301000 (change.Billed 1 ∷ change.Lost 1 ∷ [])) ≡ true ∷ true ∷ false ∷ false ∷ false ∷ []
unfolding offers_of common_rules public_rules terms_of user_of pairs_of site_rows app_rows publisher_of geo_rows device_rows user_rows imp_rows
settled_while_held = refl

abbrev kept : Change
kept = change.Kept (record { live = true; facts = capped_facts; expr = wants_all; gone = record none_gone { spent = 10000000000; billed = 3 } })

abbrev overspent : Change
overspent = change.Kept (record { live = false; facts = capped_facts; expr = wants_all; gone = record none_gone { spent = 10000000001; billed = 3 } })

abbrev fit_first : ℕ → List Change → List Bool
fit_first moment changes = map (λ c. fits (record { moment = moment; change = c }) empty) changes

-- at moment 0, without sales, and within the budget
kept_first : (fit_first 0 (kept ∷ overspent ∷ []) ++ (fit_first 1 (kept ∷ []) ++ fit_at 0 (kept ∷ []))) ≡ true ∷ false ∷ false ∷ false ∷ []
unfolding offers_of common_rules public_rules terms_of user_of pairs_of site_rows app_rows publisher_of geo_rows device_rows user_rows imp_rows
kept_first = refl

abbrev kept_sale_of : ℕ → Change
kept_sale_of price = change.KeptSale (record { campaign = 1; price = price; moment = 5; due = 6; state = state.Billed; user = None })

abbrev kept_lost : Change
kept_lost = change.KeptSale (record { campaign = 1; price = 999999999999; moment = 5; due = 6; state = state.Lost; user = None })

-- what was lost costs nothing
kept_sale_within_budget : (fit_at 0 (kept_sale_of 9998990000 ∷ kept_sale_of 9998990001 ∷ kept_lost ∷ []) ++ (fit_first 0 (kept_lost ∷ []) ++ fit_at 1 (kept_lost ∷ []))) ≡ true ∷ false ∷ true ∷ false ∷ false ∷ []
unfolding offers_of common_rules public_rules terms_of user_of pairs_of site_rows app_rows publisher_of geo_rows device_rows user_rows imp_rows
kept_sale_within_budget = refl

-- a sale that is due at moment 0 stays held
kept_sale_expires_nothing : state_of (record { moment = 0; change = kept } ∷ record { moment = 0; change = change.KeptSale (record { campaign = 1; price = 0; moment = 0; due = 0; state = state.Held; user = None }) } ∷ record { moment = 0; change = kept_lost } ∷ [])
    ≡ Some (record {
      campaigns = record { facts = capped_facts; expr = wants_all; live = true; gone = record none_gone { spent = 10000000000; billed = 3 } } ∷ [];
      sales = record { campaign = 1; price = 0; moment = 0; due = 0; state = state.Held; user = None } ∷ record { campaign = 1; price = 999999999999; moment = 5; due = 6; state = state.Lost; user = None } ∷ [];
    })
unfolding offers_of common_rules public_rules terms_of user_of pairs_of site_rows app_rows publisher_of geo_rows device_rows user_rows imp_rows
kept_sale_expires_nothing = refl

-- ---- edits

-- one for a live campaign, two for a paused one, none for a sale
edits_of_a_kept_state : edits (kept_effects (after before ((1000, command.Act (act.Pause 2)) ∷ []))) ≡ 3
unfolding offers_of common_rules public_rules terms_of user_of pairs_of site_rows app_rows publisher_of geo_rows device_rows user_rows imp_rows
edits_of_a_kept_state = refl
