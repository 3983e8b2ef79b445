-- The effect of a command, applied again, leads to the state after it.
use Rattle.std.proofs.Common.{◌≡◌, ℕ, ◌+◌, ◌≤◌, ◌&&◌, not, cond, Bool, true, false, List, [], ◌∷◌, ◌++◌, length, map, refl, sym, ◌∙◌, ap, subst, arith, Option, Some, None, option_to_list}
use Rattle.std.specs.Prelude.{◌≢◌, ◌==◌, ◌-◌, is_none, nat_le, nat_lt, option_map, option_and_then}
use Rattle.std.specs.Option.{option_or}
use Rattle.std.specs.List.{prefix_len}
use Rattle.std.proofs.lemmas.Bool.{eqb-false, le-leb, ltb-false}
use Rattle.budget_book.specs.declared.sales.SaleRow.{SaleRow}
use Rattle.budget_book.specs.declared.sales.SaleState.{SaleState}
use Rattle.budget_book.specs.declared.sales.SaleState.TheVariants as state
use Rattle.budget_book.specs.Sales.{are_settled, due_count, forgettable_at_once, is_held, most_forgotten}
use Rattle.budget_book.proofs.Waiting.{all_expired}
use Rattle.campaign.specs.declared.parts.FactParts.{FactParts}
use Rattle.campaign_store.specs.declared.limit.Limit.{Limit}
use Rattle.deal_rules.specs.Terms.{user_of}
use Rattle.plain_exchange.specs.declared.changes.Change.{Change}
use Rattle.plain_exchange.specs.declared.changes.Change.TheVariants as change
use Rattle.plain_exchange.specs.declared.changes.Effect.{Effect}
use Rattle.plain_exchange.specs.declared.changes.SoldItem.{SoldItem}
use Rattle.plain_exchange.specs.declared.commands.Act.{Act}
use Rattle.plain_exchange.specs.declared.commands.Act.TheVariants as act
use Rattle.plain_exchange.specs.declared.commands.Command.{Command}
use Rattle.plain_exchange.specs.declared.commands.Command.TheVariants as command
use Rattle.plain_exchange.specs.declared.commands.Reply.TheVariants as reply
use Rattle.plain_exchange.specs.Auction.{Award, awards_of, sales_of}
use Rattle.plain_exchange.specs.Effects.{all_applied, applied, change_applied, is_within_limits, only_if, state_of, with_changed, with_items, with_paused, with_resumed, with_settled}
use Rattle.plain_exchange.specs.History.{Call, effects, next, replay}
use Rattle.plain_exchange.specs.declared.settings.Settings.{Settings}
use Rattle.plain_exchange.specs.State.{Campaign, State, campaign_at, committed, empty, forget_first, forgotten, is_any_due, limit_of, limit_passed, sale_numbered, swept, with_campaign, with_campaigns, with_sales}
use Rattle.plain_exchange.specs.Step.{Transition, add_campaign, at_campaign, at_sale, auction, billed_by, change_campaign, change_of, changing, effect_of, enact, forget_sales, item_of, lost_by, new_campaign, pause_campaign, resume_campaign, sold_change, step, unchanged, with_record, within_limits}
use Rattle.plain_exchange.proofs.Cases.{by_option, by_test}
use Rattle.plain_exchange.proofs.Selling.{awards_sold}
use Rattle.rtb_types.specs.declared.request.BidRequest.{BidRequest}
use Rattle.target_expr.specs.declared.pred.Pred.{Pred}

-- ---- one command

-- What a transition leaves is what its own change makes of the state before it; where it has none, only
-- sales expired.
abbrev IsMade : ℕ → State → Option Change → State → Type 0
IsMade m s None after = after ≡ swept m s
IsMade m s (Some c) after = change_applied c m s ≡ Some after

abbrev IsTrueTo : ℕ → State → Transition → Type 0
IsTrueTo m s t = IsMade m s t.change t.after

sold_to : (m : ℕ) (s : State) (user : Option (List ℕ)) (items : List SoldItem) → change_applied (sold_change user items) m s ≡ with_items m user items (swept m s)
sold_to m s None items = refl
sold_to m s (Some user) items = refl

auction_made : (settings : Settings) (m : ℕ) (r : BidRequest) (s : State) (awards : List Award)
    → (length (swept m s).sales + length awards ≤ limit_of settings → with_items m (user_of r) (map (item_of settings m) awards) (swept m s) ≡ Some (with_sales (swept m s) (sales_of settings m r awards)))
    → IsTrueTo m s (auction settings m r (swept m s) awards)
auction_made settings m r s [] sold = refl
auction_made settings m r s (a ∷ awards) sold = by_test (IsTrueTo m s) (nat_lt (limit_of settings) (length (swept m s).sales + length (a ∷ awards))) _ _
    (λ e. refl)
    (λ e. sold_to m s (user_of r) (map (item_of settings m) (a ∷ awards)) ∙ sold (ltb-false (limit_of settings) (length (swept m s).sales + length (a ∷ awards)) e))

-- the test is true
fit : (b : Bool) (s : State) → b ≡ true → only_if b s ≡ Some s
fit b s e = ap (λ c. only_if c s) e

limits_kept : (m : ℕ) (s : State) (t : Transition) → (is_none (limit_passed t.after) ≡ true → IsTrueTo m s t) → IsTrueTo m s (within_limits (swept m s) t)
limits_kept m s t h = by_option (IsTrueTo m s) (λ limit. unchanged (swept m s) (reply.Full limit)) (limit_passed t.after) t
    (λ e. h (ap (λ (o : Option Limit). is_none o) e))
    (λ limit e. refl)

add_made : (m : ℕ) (facts : FactParts) (expr : List (List Pred)) (s : State) → IsTrueTo m s (add_campaign facts expr (swept m s))
add_made m facts expr s =
    let after = with_campaigns (swept m s) (new_campaign facts expr ∷ []) in
    limits_kept m s (changing after (reply.Added (length (swept m s).campaigns + 1)) (change.Added facts expr)) (λ e. fit (is_within_limits after) after e)

at_campaign_made : (m n : ℕ) (s : State) (done : Campaign → Transition) → ((c : Campaign) → campaign_at (swept m s) n ≡ Some c → IsTrueTo m s (done c)) → IsTrueTo m s (at_campaign (swept m s) n done)
at_campaign_made m n s done h = by_option (IsTrueTo m s) done (campaign_at (swept m s) n) (unchanged (swept m s) reply.NoSuchCampaign) (λ e. refl) h

change_made : (m : ℕ) (facts : FactParts) (expr : List (List Pred)) (n : ℕ) (s : State) (c : Campaign) → campaign_at (swept m s) n ≡ Some c → IsTrueTo m s (change_campaign facts expr n (swept m s) c)
change_made m facts expr n s c there =
    let after = with_campaign (swept m s) n (with_record facts expr c) in
    let paid = committed (swept m s) n c in
    by_test (IsTrueTo m s) (nat_lt facts.budget paid) _ _
    (λ e. refl)
    (λ e. limits_kept m s (changing after (reply.Changed n) (change.Changed n facts expr)) (λ within.
    ap (option_and_then (with_changed facts expr n (swept m s))) there
    ∙ fit (nat_le paid facts.budget && is_within_limits after) after (ap (λ b. b && is_within_limits after) (le-leb paid facts.budget (ltb-false facts.budget paid e)) ∙ within)))

pause_made : (m n : ℕ) (s : State) (c : Campaign) → campaign_at (swept m s) n ≡ Some c → IsTrueTo m s (pause_campaign n (swept m s) c)
pause_made m n s c there = by_test (IsTrueTo m s) c.live _ _
    (λ e. ap (option_and_then (with_paused n (swept m s))) there ∙ fit c.live _ e)
    (λ e. refl)

resume_made : (m n : ℕ) (s : State) (c : Campaign) → campaign_at (swept m s) n ≡ Some c → IsTrueTo m s (resume_campaign n (swept m s) c)
resume_made m n s c there = by_test (IsTrueTo m s) c.live _ _
    (λ e. refl)
    (λ e. ap (option_and_then (with_resumed n (swept m s))) there ∙ fit (not c.live) _ (ap not e))

at_sale_made : (m n : ℕ) (s : State) (done : SaleRow → Transition) → ((sale : SaleRow) → sale_numbered (swept m s) n ≡ Some sale → IsTrueTo m s (done sale)) → IsTrueTo m s (at_sale (swept m s) n done)
at_sale_made m n s done h = by_test (IsTrueTo m s) (nat_le 1 n && nat_le n (forgotten (swept m s))) _ _
    (λ e. refl)
    (λ e. by_option (IsTrueTo m s) done (sale_numbered (swept m s) n) (unchanged (swept m s) reply.NoSuchSale) (λ e. refl) h)

bill_made : (m n : ℕ) (s : State) (sale : SaleRow) → sale_numbered (swept m s) n ≡ Some sale → (st : SaleState) → is_held sale.state ≡ is_held st → IsTrueTo m s (billed_by st n (swept m s) sale)
bill_made m n s sale there state.Held e = ap (option_and_then (with_settled state.Billed n (swept m s))) there ∙ fit (is_held sale.state) _ e
bill_made m n s sale there state.Billed e = refl
bill_made m n s sale there state.Lost e = refl
bill_made m n s sale there state.Expired e = refl

lose_made : (m n : ℕ) (s : State) (sale : SaleRow) → sale_numbered (swept m s) n ≡ Some sale → (st : SaleState) → is_held sale.state ≡ is_held st → IsTrueTo m s (lost_by st n (swept m s) sale)
lose_made m n s sale there state.Held e = ap (option_and_then (with_settled state.Lost n (swept m s))) there ∙ fit (is_held sale.state) _ e
lose_made m n s sale there state.Billed e = refl
lose_made m n s sale there state.Lost e = refl
lose_made m n s sale there state.Expired e = refl

-- the oldest, where any may be forgotten
forget_made : (m keep : ℕ) (s : State) → IsTrueTo m s (forget_sales keep (swept m s))
forget_made m keep s =
    let t = swept m s in
    let n = forgettable_at_once keep (forgotten t) t.sales in
    by_test (IsTrueTo m s) (n == 0) _ _
    (λ e. refl)
    (λ e.
    let some : n ≢ 0 = eqb-false n 0 e in
    let same : forgotten t + n - forgotten t ≡ n = omega arith in
    let few : nat_le (forgotten t + n) most_forgotten ≡ true = le-leb (forgotten t + n) most_forgotten (omega (arith, some)) in
    let settled : are_settled n t.sales ≡ true = le-leb n (prefix_len (λ (x : SaleRow). not (is_held x.state)) t.sales) (omega arith) in
    ap (λ d. only_if (nat_le (forgotten t + n) most_forgotten && are_settled d t.sales) (forget_first d t)) same
    ∙ fit (nat_le (forgotten t + n) most_forgotten && are_settled n t.sales) (forget_first n t) (ap (λ b. b && are_settled n t.sales) few ∙ settled))

enacted : (m : ℕ) (s : State) (a : Act) → IsTrueTo m s (enact (swept m s) a)
enacted m s (act.Add facts expr) = add_made m facts expr s
enacted m s (act.Change n facts expr) = at_campaign_made m n s _ (change_made m facts expr n s)
enacted m s (act.Pause n) = at_campaign_made m n s _ (pause_made m n s)
enacted m s (act.Resume n) = at_campaign_made m n s _ (resume_made m n s)
enacted m s (act.Bill n) = at_sale_made m n s _ (λ sale e. bill_made m n s sale e sale.state refl)
enacted m s (act.Lose n) = at_sale_made m n s _ (λ sale e. lose_made m n s sale e sale.state refl)
enacted m s (act.Forget keep) = forget_made m keep s
enacted m s (act.Look l) = refl

made : (settings : Settings) (m : ℕ) (s : State) (c : Command) → IsTrueTo m s (step settings m s c)
made settings m s (command.Auction r) = auction_made settings m r s (awards_of settings m r (swept m s)) (λ few. awards_sold settings m r (swept m s) (omega (arith, few)))
made settings m s (command.Act a) = enacted m s a

-- ---- its effect

-- where nothing is due, nothing expires
none_swept : (m : ℕ) (s : State) → is_any_due m s ≡ false → swept m s ≡ s
none_swept m s e = ap (λ l. record s { sales = l }) (all_expired m s.sales (let le : due_count m s.sales ≤ 0 = ltb-false 0 (due_count m s.sales) e in omega arith))

-- the effect, or none, leads to that state
abbrev Leads : ℕ → State → State → Option Change → Type 0
Leads m s after None = after ≡ s
Leads m s after (Some c) = change_applied c m s ≡ Some after

leads : (m : ℕ) (s after : State) (o : Option Change) → IsMade m s o after → Leads m s after (option_or o (cond (is_any_due m s) (Some change.Swept) None))
leads m s after (Some c) h = h
leads m s after None h = by_test (Leads m s after) (is_any_due m s) (Some change.Swept) None
    (λ e. fit (is_any_due m s) (swept m s) e ∙ ap (λ (t : State). Some t) (sym h))
    (λ e. h ∙ none_swept m s e)

abbrev pub EffectLeads : State → State → Option Effect → Type 0
EffectLeads s after None = after ≡ s
EffectLeads s after (Some e) = applied e s ≡ Some after

effect_leads : (m : ℕ) (s after : State) (o : Option Change) → Leads m s after o → EffectLeads s after (option_map (λ c. record { moment = m; change = c }) o)
effect_leads m s after None h = h
effect_leads m s after (Some c) h = h

pub step_leads : (settings : Settings) (m : ℕ) (s : State) (c : Command) → EffectLeads s (step settings m s c).after (effect_of settings m s c)
step_leads settings m s c = effect_leads m s (step settings m s c).after (change_of settings m s c) (leads m s (step settings m s c).after (step settings m s c).change (made settings m s c))

pub effect_applied : (settings : Settings) (m : ℕ) (s : State) (c : Command) (e : Effect) → effect_of settings m s c ≡ Some e → applied e s ≡ Some (step settings m s c).after
effect_applied settings m s c e is = subst (EffectLeads s (step settings m s c).after) is (step_leads settings m s c)

pub nothing_changed : (settings : Settings) (m : ℕ) (s : State) (c : Command) → effect_of settings m s c ≡ None → (step settings m s c).after ≡ s
nothing_changed settings m s c is = subst (EffectLeads s (step settings m s c).after) is (step_leads settings m s c)

-- ---- a whole history

in_turn : {A : Type 0} (f g h : A → Option A) → ((x : A) → f x ≡ option_and_then h (g x)) → (o : Option A) → option_and_then f o ≡ option_and_then h (option_and_then g o)
in_turn f g h e None = refl
in_turn f g h e (Some x) = e x

pub all_applied_both : (es ds : List Effect) (s : State) → all_applied (es ++ ds) s ≡ option_and_then (all_applied ds) (all_applied es s)
all_applied_both [] ds s = refl
all_applied_both (e ∷ es) ds s = in_turn (all_applied (es ++ ds)) (all_applied es) (all_applied ds) (λ t. all_applied_both es ds t) (applied e s)

with_effect : (s after : State) (o : Option Effect) (rest : List Effect) → EffectLeads s after o → all_applied (option_to_list o ++ rest) s ≡ all_applied rest after
with_effect s after None rest h = ap (all_applied rest) (sym h)
with_effect s after (Some e) rest h = ap (option_and_then (all_applied rest)) h

pub history_applied : (settings : Settings) (calls : List Call) (s : State) → all_applied (effects settings s calls) s ≡ Some (replay settings s calls)
history_applied settings [] s = refl
history_applied settings (call ∷ calls) s =
    with_effect s (next settings s call) (effect_of settings call.moment s call.command) (effects settings (next settings s call) calls) (step_leads settings call.moment s call.command)
    ∙ history_applied settings calls (next settings s call)

pub replayed : (settings : Settings) (opening : List Effect) (s : State) (calls : List Call) → state_of opening ≡ Some s → state_of (opening ++ effects settings s calls) ≡ Some (replay settings s calls)
replayed settings opening s calls e = all_applied_both opening (effects settings s calls) empty ∙ ap (option_and_then (all_applied (effects settings s calls))) e ∙ history_applied settings calls s
