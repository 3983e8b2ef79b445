-- Worked cases, by evaluation: what becomes of a sale, of a budget and of a cap in time.
use Rattle.std.proofs.Common.{◌≡◌, ◌-◌, ℕ, Some, [], ◌∷◌, refl}
use Rattle.std.specs.Prelude.{codes, map}
use Rattle.assign.specs.Rows.{pairs_of, site_rows, app_rows, publisher_of, geo_rows, device_rows, user_rows, imp_rows}
use Rattle.deal_rules.specs.Offers.{offers_of}
use Rattle.deal_rules.specs.Rules.{common_rules, public_rules}
use Rattle.deal_rules.specs.Terms.{terms_of, user_of}
use Rattle.plain_exchange.specs.declared.commands.Act.TheVariants as act
use Rattle.plain_exchange.specs.declared.commands.Command.TheVariants as command
use Rattle.plain_exchange.specs.declared.commands.Look.TheVariants as look
use Rattle.budget_book.specs.declared.sales.SaleRow.{SaleRow}
use Rattle.plain_exchange.specs.State.{empty}
use Rattle.plain_exchange.proofs.Samples.{after, by_reader, reader, shoes, asked, capped_shoes, cars, one_sale, read, replies, shoes_facts, wants}

-- ---- billing

-- its price is reserved
report_after_sale : replies (after empty one_sale) ((1000, command.Act (act.Look (look.Report 1))) ∷ []) ≡ (codes "reported", 1010000 ∷ 0 ∷ 1 ∷ 0 ∷ 0 ∷ 0 ∷ []) ∷ []
unfolding offers_of common_rules public_rules terms_of user_of pairs_of site_rows app_rows publisher_of geo_rows device_rows user_rows imp_rows
report_after_sale = refl

-- five minutes after it was made, and not before
expires_when_due : replies (after empty one_sale) ((300999, command.Act (act.Look (look.Report 1))) ∷ (301000, command.Act (act.Look (look.Report 1))) ∷ (301000, command.Act (act.Bill 1)) ∷ [])
    ≡ (codes "reported", 1010000 ∷ 0 ∷ 1 ∷ 0 ∷ 0 ∷ 0 ∷ []) ∷ (codes "reported", 0 ∷ 0 ∷ 0 ∷ 0 ∷ 0 ∷ 1 ∷ []) ∷ (codes "was expired", []) ∷ []
unfolding offers_of common_rules public_rules terms_of user_of pairs_of site_rows app_rows publisher_of geo_rows device_rows user_rows imp_rows
expires_when_due = refl

-- spent once, and not lost then
billed_once : replies (after empty one_sale) ((1000, command.Act (act.Bill 1)) ∷ (1000, command.Act (act.Bill 1)) ∷ (1000, command.Act (act.Look (look.Report 1))) ∷ (1000, command.Act (act.Lose 1)) ∷ [])
    ≡ (codes "billed", 1 ∷ []) ∷ (codes "billed", 1 ∷ []) ∷ (codes "reported", 0 ∷ 1010000 ∷ 0 ∷ 1 ∷ 0 ∷ 0 ∷ []) ∷ (codes "was billed", []) ∷ []
unfolding offers_of common_rules public_rules terms_of user_of pairs_of site_rows app_rows publisher_of geo_rows device_rows user_rows imp_rows
billed_once = refl

-- its price is free again, and it is not billed then
lost_once : replies (after empty one_sale) ((1000, command.Act (act.Lose 1)) ∷ (1000, command.Act (act.Lose 1)) ∷ (1000, command.Act (act.Look (look.Report 1))) ∷ (1000, command.Act (act.Bill 1)) ∷ [])
    ≡ (codes "lost", 1 ∷ []) ∷ (codes "lost", 1 ∷ []) ∷ (codes "reported", 0 ∷ 0 ∷ 0 ∷ 0 ∷ 1 ∷ 0 ∷ []) ∷ (codes "was lost", []) ∷ []
unfolding offers_of common_rules public_rules terms_of user_of pairs_of site_rows app_rows publisher_of geo_rows device_rows user_rows imp_rows
lost_once = refl

-- sale 0, the next one, and another
unknown_sales : replies (after empty one_sale) ((1000, command.Act (act.Bill 0)) ∷ (1000, command.Act (act.Bill 2)) ∷ (1000, command.Act (act.Lose 9)) ∷ []) ≡ (codes "no such sale", []) ∷ (codes "no such sale", []) ∷ (codes "no such sale", []) ∷ []
unfolding offers_of common_rules public_rules terms_of user_of pairs_of site_rows app_rows publisher_of geo_rows device_rows user_rows imp_rows
unknown_sales = refl

-- ---- campaigns

-- a budget is not set below what is committed
budget_not_below : replies (after empty one_sale) ((1000, command.Act (act.Change 1 (record shoes_facts { budget = 1000000 }) (wants (codes "news.example")))) ∷ (1000, command.Act (act.Change 1 (record shoes_facts { budget = 1010000 }) (wants (codes "news.example")))) ∷ [])
    ≡ (codes "below committed", 1010000 ∷ []) ∷ (codes "changed", 1 ∷ []) ∷ []
unfolding offers_of common_rules public_rules terms_of user_of pairs_of site_rows app_rows publisher_of geo_rows device_rows user_rows imp_rows
budget_not_below = refl

-- a paused campaign offers nothing; pausing it twice changes nothing
paused_and_resumed : replies (after empty one_sale) ((1000, command.Act (act.Pause 1)) ∷ (1000, command.Act (act.Pause 1)) ∷ (1000, read) ∷ (1000, command.Act (act.Resume 1)) ∷ (1000, command.Act (act.Resume 1)) ∷ (1000, read) ∷ [])
    ≡ (codes "paused", 1 ∷ []) ∷ (codes "paused", 1 ∷ []) ∷ (codes "sold", 2 ∷ 300000 ∷ 2 ∷ []) ∷ (codes "resumed", 1 ∷ []) ∷ (codes "resumed", 1 ∷ []) ∷ (codes "sold", 1 ∷ 1010000 ∷ 3 ∷ []) ∷ []
unfolding offers_of common_rules public_rules terms_of user_of pairs_of site_rows app_rows publisher_of geo_rows device_rows user_rows imp_rows
paused_and_resumed = refl

-- campaign 0, and the next one
unknown_campaigns : replies (after empty one_sale) ((1000, command.Act (act.Pause 0)) ∷ (1000, command.Act (act.Resume 3)) ∷ (1000, command.Act (act.Look (look.Report 3))) ∷ (1000, command.Act (act.Change 9 shoes_facts (wants (codes "news.example")))) ∷ []) ≡ (codes "no such campaign", []) ∷ (codes "no such campaign", []) ∷ (codes "no such campaign", []) ∷ (codes "no such campaign", []) ∷ []
unfolding offers_of common_rules public_rules terms_of user_of pairs_of site_rows app_rows publisher_of geo_rows device_rows user_rows imp_rows
unknown_campaigns = refl

-- ---- caps

-- shoes are shown once a minute to a reader, and cars in between
once_a_minute : replies empty ((1000, capped_shoes) ∷ (1000, cars) ∷ (1000, read) ∷ (60999, read) ∷ (61000, read) ∷ [])
    ≡ (codes "added", 1 ∷ []) ∷ (codes "added", 2 ∷ []) ∷ (codes "sold", 1 ∷ 1010000 ∷ 1 ∷ []) ∷ (codes "sold", 2 ∷ 300000 ∷ 2 ∷ []) ∷ (codes "sold", 1 ∷ 1010000 ∷ 3 ∷ []) ∷ []
unfolding offers_of common_rules public_rules terms_of user_of pairs_of site_rows app_rows publisher_of geo_rows device_rows user_rows imp_rows
once_a_minute = refl

-- a campaign with a cap offers to nobody who is not known
capped_without_user : replies empty ((1000, capped_shoes) ∷ (1000, asked (0 ∷ [])) ∷ []) ≡ (codes "added", 1 ∷ []) ∷ (codes "no bid", []) ∷ []
unfolding offers_of common_rules public_rules terms_of user_of pairs_of site_rows app_rows publisher_of geo_rows device_rows user_rows imp_rows
capped_without_user = refl

-- nor does one that has expired
lost_sale_counts_no_more : replies empty ((1000, capped_shoes) ∷ (1000, read) ∷ (1000, command.Act (act.Lose 1)) ∷ (1000, read) ∷ (2000, read) ∷ []) ≡ (codes "added", 1 ∷ []) ∷ (codes "sold", 1 ∷ 300000 ∷ 1 ∷ []) ∷ (codes "lost", 1 ∷ []) ∷ (codes "sold", 1 ∷ 300000 ∷ 2 ∷ []) ∷ (codes "no bid", []) ∷ []
unfolding offers_of common_rules public_rules terms_of user_of pairs_of site_rows app_rows publisher_of geo_rows device_rows user_rows imp_rows
lost_sale_counts_no_more = refl

-- another reader is shown shoes as well
other_user : replies empty ((1000, capped_shoes) ∷ (1000, read) ∷ (1000, command.Auction (record by_reader { user = Some (record reader { id = Some (codes "55816b40") }) })) ∷ []) ≡ (codes "added", 1 ∷ []) ∷ (codes "sold", 1 ∷ 300000 ∷ 1 ∷ []) ∷ (codes "sold", 1 ∷ 300000 ∷ 2 ∷ []) ∷ []
unfolding offers_of common_rules public_rules terms_of user_of pairs_of site_rows app_rows publisher_of geo_rows device_rows user_rows imp_rows
other_user = refl

-- it stays paused
changed_while_paused : replies (after empty one_sale) ((1000, command.Act (act.Pause 1)) ∷ (1000, command.Act (act.Change 1 shoes_facts (wants (codes "news.example")))) ∷ (1000, read) ∷ []) ≡ (codes "paused", 1 ∷ []) ∷ (codes "changed", 1 ∷ []) ∷ (codes "sold", 2 ∷ 300000 ∷ 2 ∷ []) ∷ []
unfolding offers_of common_rules public_rules terms_of user_of pairs_of site_rows app_rows publisher_of geo_rows device_rows user_rows imp_rows
changed_while_paused = refl

-- the last moment that there is
abbrev last_moment : ℕ
last_moment = 18446744073709551615

-- a sale is due five minutes later, or then
due_at_the_last_moment : map (λ (s : SaleRow). s.due) (after empty ((0, shoes) ∷ (0, read) ∷ (last_moment - 300000, read) ∷ (last_moment - 299999, read) ∷ [])).sales ≡ 300000 ∷ last_moment ∷ last_moment ∷ []
unfolding offers_of common_rules public_rules terms_of user_of pairs_of site_rows app_rows publisher_of geo_rows device_rows user_rows imp_rows
due_at_the_last_moment = refl
