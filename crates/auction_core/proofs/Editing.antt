-- A command makes one edit at most.
use Rattle.std.proofs.Common.{ℕ, ◌+◌, ◌≤◌, ◌&&◌, cond, List, [], ◌∷◌, length, map, arith, Option, Some, None}
use Rattle.std.specs.Prelude.{◌==◌, nat_le, nat_lt, option_map}
use Rattle.std.specs.Option.{option_or}
use Rattle.budget_book.specs.declared.sales.SaleRow.{SaleRow}
use Rattle.budget_book.specs.declared.sales.SaleState.{SaleState}
use Rattle.budget_book.specs.declared.sales.SaleState.TheVariants as state
use Rattle.campaign.specs.declared.parts.FactParts.{FactParts}
use Rattle.deal_rules.specs.Terms.{user_of}
use Rattle.plain_exchange.specs.declared.settings.Settings.{Settings}
use Rattle.plain_exchange.specs.declared.changes.Change.{Change}
use Rattle.plain_exchange.specs.declared.changes.Change.TheVariants as change
use Rattle.plain_exchange.specs.declared.changes.Effect.{Effect}
use Rattle.plain_exchange.specs.declared.changes.SoldItem.{SoldItem}
use Rattle.plain_exchange.specs.declared.commands.Act.{Act}
use Rattle.plain_exchange.specs.declared.commands.Act.TheVariants as act
use Rattle.plain_exchange.specs.declared.commands.Command.{Command}
use Rattle.plain_exchange.specs.declared.commands.Command.TheVariants as command
use Rattle.plain_exchange.specs.declared.commands.Reply.TheVariants as reply
use Rattle.plain_exchange.specs.Auction.{Award, awards_of}
use Rattle.plain_exchange.specs.Effects.{edits_in}
use Rattle.plain_exchange.specs.State.{Campaign, State, campaign_at, committed, forgotten, is_any_due, limit_passed, limit_of, sale_numbered, swept, with_campaign, with_campaigns}
use Rattle.plain_exchange.specs.Step.{Transition, at_campaign, at_sale, auction, billed_by, change_campaign, change_of, changing, effect_of, enact, item_of, lost_by, new_campaign, pause_campaign, resume_campaign, sold_change, step, trim, unchanged, with_record, within_limits}
use Rattle.plain_exchange.proofs.Cases.{by_option, by_test}
use Rattle.plain_exchange.proofs.Each.{At}
use Rattle.rtb_types.specs.declared.request.BidRequest.{BidRequest}
use Rattle.target_expr.specs.declared.pred.Pred.{Pred}

abbrev MakesFew : Transition → Type 0
MakesFew t = At (λ (c : Change). edits_in c ≤ 1) t.change

sold_few : (user : Option (List ℕ)) (items : List SoldItem) → edits_in (sold_change user items) ≤ 1
sold_few None items = omega arith
sold_few (Some user) items = omega arith

auction_few : (settings : Settings) (m : ℕ) (r : BidRequest) (s : State) (awards : List Award) → MakesFew (auction settings m r s awards)
auction_few settings m r s [] = tt
auction_few settings m r s (a ∷ awards) = by_test MakesFew (nat_lt (limit_of settings) (length s.sales + length (a ∷ awards))) _ _
    (λ e. tt)
    (λ e. sold_few (user_of r) (map (item_of settings m) (a ∷ awards)))

limits_few : (s : State) (t : Transition) → MakesFew t → MakesFew (within_limits s t)
limits_few s t h = by_option MakesFew (λ limit. unchanged s (reply.Full limit)) (limit_passed t.after) t (λ e. h) (λ limit e. tt)

at_campaign_few : (n : ℕ) (s : State) (done : Campaign → Transition) → ((c : Campaign) → MakesFew (done c)) → MakesFew (at_campaign s n done)
at_campaign_few n s done h = by_option MakesFew done (campaign_at s n) (unchanged s reply.NoSuchCampaign) (λ e. tt) (λ c e. h c)

change_few : (facts : FactParts) (expr : List (List Pred)) (n : ℕ) (s : State) (c : Campaign) → MakesFew (change_campaign facts expr n s c)
change_few facts expr n s c = by_test MakesFew (nat_lt facts.budget (committed s n c)) _ _
    (λ e. tt)
    (λ e. limits_few s (changing (with_campaign s n (with_record facts expr c)) (reply.Changed n) (change.Changed n facts expr)) (omega arith))

pause_few : (n : ℕ) (s : State) (c : Campaign) → MakesFew (pause_campaign n s c)
pause_few n s c = by_test MakesFew c.live _ _ (λ e. omega arith) (λ e. tt)

resume_few : (n : ℕ) (s : State) (c : Campaign) → MakesFew (resume_campaign n s c)
resume_few n s c = by_test MakesFew c.live _ _ (λ e. tt) (λ e. omega arith)

at_sale_few : (n : ℕ) (s : State) (done : SaleRow → Transition) → ((sale : SaleRow) → MakesFew (done sale)) → MakesFew (at_sale s n done)
at_sale_few n s done h = by_test MakesFew (nat_le 1 n && nat_le n (forgotten s)) _ _
    (λ e. tt)
    (λ e. by_option MakesFew done (sale_numbered s n) (unchanged s reply.NoSuchSale) (λ e. tt) (λ sale e. h sale))

bill_few : (n : ℕ) (s : State) (sale : SaleRow) (st : SaleState) → MakesFew (billed_by st n s sale)
bill_few n s sale state.Held = omega arith
bill_few n s sale state.Billed = tt
bill_few n s sale state.Lost = tt
bill_few n s sale state.Expired = tt

lose_few : (n : ℕ) (s : State) (sale : SaleRow) (st : SaleState) → MakesFew (lost_by st n s sale)
lose_few n s sale state.Held = omega arith
lose_few n s sale state.Billed = tt
lose_few n s sale state.Lost = tt
lose_few n s sale state.Expired = tt

trim_few : (n : ℕ) (s : State) → MakesFew (trim n s)
trim_few n s = by_test MakesFew (n == 0) _ _ (λ e. tt) (λ e. omega arith)

act_few : (s : State) (a : Act) → MakesFew (enact s a)
act_few s (act.Add facts expr) = limits_few s (changing (with_campaigns s (new_campaign facts expr ∷ [])) (reply.Added (length s.campaigns + 1)) (change.Added facts expr)) (omega arith)
act_few s (act.Change n facts expr) = at_campaign_few n s _ (change_few facts expr n s)
act_few s (act.Pause n) = at_campaign_few n s _ (pause_few n s)
act_few s (act.Resume n) = at_campaign_few n s _ (resume_few n s)
act_few s (act.Bill n) = at_sale_few n s _ (λ sale. bill_few n s sale sale.state)
act_few s (act.Lose n) = at_sale_few n s _ (λ sale. lose_few n s sale sale.state)
act_few s (act.Forget keep) = trim_few _ s
act_few s (act.Look l) = tt

step_few : (settings : Settings) (m : ℕ) (s : State) (c : Command) → MakesFew (step settings m s c)
step_few settings m s (command.Auction r) = auction_few settings m r (swept m s) (awards_of settings m r (swept m s))
step_few settings m s (command.Act a) = act_few (swept m s) a

swept_few : (m : ℕ) (s : State) (o : Option Change) → At (λ (c : Change). edits_in c ≤ 1) o → At (λ (c : Change). edits_in c ≤ 1) (option_or o (cond (is_any_due m s) (Some change.Swept) None))
swept_few m s (Some c) h = h
swept_few m s None h = by_test (At (λ (c : Change). edits_in c ≤ 1)) (is_any_due m s) (Some change.Swept) None (λ e. omega arith) (λ e. tt)

effect_few : (m : ℕ) (o : Option Change) → At (λ (c : Change). edits_in c ≤ 1) o → At (λ (e : Effect). edits_in e.change ≤ 1) (option_map (λ c. record { moment = m; change = c }) o)
effect_few m None h = tt
effect_few m (Some c) h = h

pub one_edit : (settings : Settings) (m : ℕ) (s : State) (c : Command) → At (λ (e : Effect). edits_in e.change ≤ 1) (effect_of settings m s c)
one_edit settings m s c = effect_few m (change_of settings m s c) (swept_few m s (step settings m s c).change (step_few settings m s c))
