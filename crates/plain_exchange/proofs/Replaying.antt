-- Worked cases, by evaluation: forgetting, and effects applied again.
use Rattle.std.proofs.Common.{◌≡◌, [], ◌∷◌, ◌++◌, length, map, refl, Some, None, true, false}
use Rattle.std.specs.Prelude.{codes, option_map}
use Rattle.assign.specs.Rows.{pairs_of, site_rows, app_rows, publisher_of, geo_rows, device_rows, user_rows, imp_rows}
use Rattle.deal_rules.specs.Offers.{offers_of}
use Rattle.deal_rules.specs.Rules.{common_rules, public_rules}
use Rattle.deal_rules.specs.Terms.{terms_of, user_of}
use Rattle.plain_exchange.specs.declared.changes.Change.TheVariants as change
use Rattle.plain_exchange.specs.declared.commands.Act.TheVariants as act
use Rattle.plain_exchange.specs.declared.commands.Command.TheVariants as command
use Rattle.plain_exchange.specs.declared.commands.Look.TheVariants as look
use Rattle.plain_exchange.specs.declared.settings.Settings.{Settings}
use Rattle.plain_exchange.specs.Effects.{applied, fits, kept_effects, state_of}
use Rattle.plain_exchange.specs.State.{State, empty, forget, forgotten}
use Rattle.plain_exchange.specs.Step.{effect_of, step}
use Rattle.plain_exchange.proofs.Samples.{after, asked, brief, cars, one_sale, read, replies, settings, shoes}

-- one sale that was billed is forgotten
abbrev forgot : State
forgot = forget 0 (after empty (one_sale ++ (1000, command.Act (act.Bill 1)) ∷ []))

one_forgotten : (length forgot.sales ∷ forgotten forgot ∷ []) ≡ (0 ∷ 1 ∷ [])
unfolding offers_of common_rules public_rules terms_of user_of pairs_of site_rows app_rows publisher_of geo_rows device_rows user_rows imp_rows
one_forgotten = refl

-- one that is held is not, nor one that is to be kept
none_forgotten : (forgotten (forget 0 (after empty one_sale)) ∷ forgotten (forget 1 (after empty (one_sale ++ (1000, command.Act (act.Bill 1)) ∷ []))) ∷ []) ≡ (0 ∷ 0 ∷ [])
unfolding offers_of common_rules public_rules terms_of user_of pairs_of site_rows app_rows publisher_of geo_rows device_rows user_rows imp_rows
none_forgotten = refl

-- four sales, of which the first two are billed, the third is held and the last is lost
abbrev four : State
four = after empty ((1000, shoes) ∷ (1000, cars) ∷ (1000, read) ∷ (1000, read) ∷ (1000, read) ∷ (1000, read) ∷ (1000, command.Act (act.Bill 1)) ∷ (1000, command.Act (act.Bill 2)) ∷ (1000, command.Act (act.Lose 4)) ∷ [])

-- so that none, two or three are kept
fronts : (forgotten (forget 0 four) ∷ forgotten (forget 2 four) ∷ forgotten (forget 3 four) ∷ []) ≡ (2 ∷ 2 ∷ 1 ∷ [])
unfolding offers_of common_rules public_rules terms_of user_of pairs_of site_rows app_rows publisher_of geo_rows device_rows user_rows imp_rows
fronts = refl

-- its number is not given again, and what it cost stays spent
after_forgetting : replies forgot ((1000, command.Act (act.Bill 1)) ∷ (1000, command.Act (act.Look (look.Report 1))) ∷ (1000, read) ∷ (1000, command.Act (act.Lose 3)) ∷ [])
    ≡ (codes "forgotten", []) ∷ (codes "reported", 0 ∷ 1010000 ∷ 0 ∷ 1 ∷ 0 ∷ 0 ∷ []) ∷ (codes "sold", 1 ∷ 1010000 ∷ 2 ∷ []) ∷ (codes "no such sale", []) ∷ []
unfolding offers_of common_rules public_rules terms_of user_of pairs_of site_rows app_rows publisher_of geo_rows device_rows user_rows imp_rows
after_forgetting = refl

-- the state is made again from its own effects
kept_again : state_of (kept_effects forgot) ≡ Some forgot
unfolding offers_of common_rules public_rules terms_of user_of pairs_of site_rows app_rows publisher_of geo_rows device_rows user_rows imp_rows
kept_again = refl

abbrev before : State
before = after empty one_sale

-- the effect of a command leads to the state after it
sold_again : option_map (λ e. applied e before) (effect_of settings 1000 before (asked (300000 ∷ 300000 ∷ []))) ≡ Some (Some (step settings 1000 before (asked (300000 ∷ 300000 ∷ []))).after)
unfolding offers_of common_rules public_rules terms_of user_of pairs_of site_rows app_rows publisher_of geo_rows device_rows user_rows imp_rows
sold_again = refl

-- that of a report, at which a sale expired
expired_again : option_map (λ e. applied e before) (effect_of settings 301000 before (command.Act (act.Look (look.Report 1)))) ≡ Some (Some (step settings 301000 before (command.Act (act.Look (look.Report 1)))).after)
unfolding offers_of common_rules public_rules terms_of user_of pairs_of site_rows app_rows publisher_of geo_rows device_rows user_rows imp_rows
expired_again = refl

-- a report at which none expired has none
nothing_again : option_map (λ e. applied e before) (effect_of settings 300999 before (command.Act (act.Look (look.Report 1)))) ≡ None
unfolding offers_of common_rules public_rules terms_of user_of pairs_of site_rows app_rows publisher_of geo_rows device_rows user_rows imp_rows
nothing_again = refl

-- ---- forgetting as a command

-- what is forgotten is billed no more, its money stays spent, and its number is given to no other sale
forgotten_by_command : replies (after empty (one_sale ++ (1000, command.Act (act.Bill 1)) ∷ [])) ((1000, command.Act (act.Forget 0)) ∷ (1000, command.Act (act.Bill 1)) ∷ (1000, command.Act (act.Look (look.Report 1))) ∷ (1000, read) ∷ [])
    ≡ (codes "trimmed", 0 ∷ 1 ∷ []) ∷ (codes "forgotten", []) ∷ (codes "reported", 0 ∷ 1010000 ∷ 0 ∷ 1 ∷ 0 ∷ 0 ∷ []) ∷ (codes "sold", 1 ∷ 1010000 ∷ 2 ∷ []) ∷ []
unfolding offers_of common_rules public_rules terms_of user_of pairs_of site_rows app_rows publisher_of geo_rows device_rows user_rows imp_rows
forgotten_by_command = refl

-- a held sale keeps those behind it
held_back : replies (after empty (one_sale ++ (1000, read) ∷ (1000, command.Act (act.Bill 2)) ∷ [])) ((1000, command.Act (act.Forget 0)) ∷ (1000, command.Act (act.Lose 1)) ∷ (1000, command.Act (act.Forget 1)) ∷ (1000, command.Act (act.Forget 0)) ∷ [])
    ≡ (codes "trimmed", 2 ∷ 0 ∷ []) ∷ (codes "lost", 1 ∷ []) ∷ (codes "trimmed", 1 ∷ 1 ∷ []) ∷ (codes "trimmed", 0 ∷ 2 ∷ []) ∷ []
unfolding offers_of common_rules public_rules terms_of user_of pairs_of site_rows app_rows publisher_of geo_rows device_rows user_rows imp_rows
held_back = refl

-- above the limit nothing is sold, and below it again once a sale is forgotten
abbrev few : Settings
few = record settings { limit = 1 }

full_at_the_limit : (brief (step few 1000 (after empty one_sale) read).reply ∷ brief (step few 1000 (after empty (one_sale ++ (1000, command.Act (act.Bill 1)) ∷ (1000, command.Act (act.Forget 0)) ∷ [])) read).reply ∷ [])
    ≡ (codes "full", []) ∷ (codes "sold", 1 ∷ 1010000 ∷ 2 ∷ []) ∷ []
unfolding offers_of common_rules public_rules terms_of user_of pairs_of site_rows app_rows publisher_of geo_rows device_rows user_rows imp_rows
full_at_the_limit = refl

-- the effect says how many are forgotten in all; one that takes nothing fits, and one that takes a held sale does not
effects_of_forgetting : (effect_of settings 1000 (after empty (one_sale ++ (1000, command.Act (act.Bill 1)) ∷ [])) (command.Act (act.Forget 0)) ∷ effect_of settings 1000 (after empty one_sale) (command.Act (act.Forget 0)) ∷ [])
    ≡ Some (record { moment = 1000; change = change.Forgot 1 }) ∷ None ∷ []
unfolding offers_of common_rules public_rules terms_of user_of pairs_of site_rows app_rows publisher_of geo_rows device_rows user_rows imp_rows
effects_of_forgetting = refl

forgetting_fits : map (λ n. fits (record { moment = 1000; change = change.Forgot n }) (after empty (one_sale ++ (1000, command.Act (act.Bill 1)) ∷ (1000, read) ∷ []))) (0 ∷ 1 ∷ 2 ∷ 3 ∷ []) ≡ true ∷ true ∷ false ∷ false ∷ []
unfolding offers_of common_rules public_rules terms_of user_of pairs_of site_rows app_rows publisher_of geo_rows device_rows user_rows imp_rows
forgetting_fits = refl
