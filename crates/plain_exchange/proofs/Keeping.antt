-- Every effect that fits keeps a state consistent, and so does every step.
use Rattle.std.proofs.Common.{◌≡◌, ℕ, suc, ◌+◌, ◌-◌, ◌<◌, ◌≤◌, ◌&&◌, inl, inr, not, eqb, cond, Bool, true, false, List, [], ◌∷◌, ◌++◌, length, set, refl, sym, ◌∙◌, ap, subst, arith, Option, Some, None, length-append}
use Rattle.std.specs.Prelude.{is_none, nat_le, slice_get}
use Rattle.std.specs.List.{list_all}
use Rattle.std.specs.Option.{option_map_or}
use Rattle.std.proofs.lemmas.Bool.{and_parts, cases_eq, false≢true, le-leb, leb-true}
use Rattle.std.proofs.lemmas.List.{length-map, length-set}
use Rattle.std.proofs.lemmas.List.Sums.{sum_by_push}
use Rattle.std.proofs.lemmas.Option.{option_and_then_some, slice_get_within}
use Rattle.budget_book.specs.declared.sales.SaleRow.{SaleRow}
use Rattle.budget_book.specs.declared.sales.SaleState.{SaleState}
use Rattle.budget_book.specs.declared.sales.SaleState.TheVariants as state
use Rattle.budget_book.specs.Sales.{are_settled, committed_of, expired, expired_at, gone_count, in_state, is_held, most_forgotten}
use Rattle.campaign_store.specs.Limits.{passed_limit}
use Rattle.campaign.specs.declared.parts.FactParts.{FactParts}
use Rattle.plain_exchange.specs.declared.changes.Change.{Change}
use Rattle.plain_exchange.specs.declared.changes.Change.TheVariants as change
use Rattle.plain_exchange.specs.declared.changes.Effect.{Effect}
use Rattle.plain_exchange.specs.declared.changes.KeptCampaign.{KeptCampaign}
use Rattle.plain_exchange.specs.declared.changes.SoldItem.{SoldItem}
use Rattle.plain_exchange.specs.declared.commands.Command.{Command}
use Rattle.plain_exchange.specs.Consistent.{IsConsistent, is_known}
use Rattle.plain_exchange.specs.Effects.{all_applied, applied, campaign_of, can_keep, can_keep_sale, can_pay, change_applied, charge_of, has_room, is_within_limits, on_sale, only_if, sale_by, state_of, with_added, with_changed, with_items, with_kept, with_kept_sale, with_paused, with_resumed, with_settled}
use Rattle.plain_exchange.specs.History.{Call, next, replay}
use Rattle.plain_exchange.specs.declared.settings.Settings.{Settings}
use Rattle.plain_exchange.specs.State.{Campaign, State, campaign_at, committed, empty, forget_first, forgotten, free, is_any_due, most_sales, record_of, sale_numbered, swept, with_campaign, with_campaigns, with_sale, with_sales}
use Rattle.plain_exchange.specs.Step.{effect_of, new_campaign, step, with_live, with_record}
use Rattle.plain_exchange.proofs.Applying.{EffectLeads, step_leads}
use Rattle.plain_exchange.proofs.Each.{Each, all_of_each, each_append, each_mapped, none_some, some_same}
use Rattle.plain_exchange.proofs.Forgetting.{first_kept, known_in, settled_bounds}
use Rattle.plain_exchange.proofs.Money.{less_when_expired, less_when_settled, none_taken, taken, taken_by, taken_of_other, taken_of_own}
use Rattle.plain_exchange.proofs.Places.{at_place, each_at, each_replaced, map_kept, pushed, replaced, numbered, same_number, sum_kept}
use Rattle.plain_exchange.proofs.Selling.{fold_keeps}
use Rattle.target_expr.specs.declared.pred.Pred.{Pred}

abbrev pub AreKnown : State → List SaleRow → Type 0
AreKnown s sales = Each (λ sale. is_known (length s.campaigns) sale ≡ true) sales

-- ---- as many sales, of which none takes more

pub with_other_sales : (s : State) (sales : List SaleRow) → IsConsistent s → length sales ≡ length s.sales → ((n : ℕ) → taken_by n sales ≤ taken_by n s.sales) → AreKnown s sales
    → IsConsistent (record s { sales = sales })
with_other_sales s sales h many less known = record {
  solvent = λ n c there. omega (arith, less n, h.solvent n c there);
  within = h.within;
  known = all_of_each (is_known (length s.campaigns)) sales known;
  few = omega (arith, many, h.few);
  few_forgotten = h.few_forgotten;
}

expired_known : (campaigns m : ℕ) (sales : List SaleRow) → Each (λ sale. is_known campaigns sale ≡ true) sales → Each (λ sale. is_known campaigns sale ≡ true) (expired m sales)
expired_known campaigns m [] h = tt
expired_known campaigns m (sale ∷ sales) h = (h.0, expired_known campaigns m sales h.1)

pub swept_kept : (m : ℕ) (s : State) → IsConsistent s → IsConsistent (swept m s)
swept_kept m s h = with_other_sales s (expired m s.sales) h (length-map s.sales (expired_at m)) (λ n. less_when_expired n m s.sales) (expired_known (length s.campaigns) m s.sales (known_in s h))

-- the place of a sale in the list
pub sale_place : (s : State) (n : ℕ) (sale : SaleRow) → sale_numbered s n ≡ Some sale → slice_get s.sales (n - forgotten s - 1) ≡ Some sale
sale_place s n sale e = unless_gone (nat_le n (forgotten s)) (slice_get s.sales (n - forgotten s - 1)) sale e
  where
    unless_gone : (b : Bool) (o : Option SaleRow) (sale : SaleRow) → cond b None o ≡ Some sale → o ≡ Some sale
    unless_gone true o sale e = absurd (none_some sale e)
    unless_gone false o sale e = e

pub settled_kept : (to : SaleState) (n : ℕ) (s : State) (sale : SaleRow) → IsConsistent s → sale_numbered s n ≡ Some sale → is_held sale.state ≡ true → IsConsistent (with_sale s n (in_state to sale))
settled_kept to n s sale h there held =
    let place = sale_place s n sale there in
    let known = known_in s h in
    with_other_sales s (set s.sales (n - forgotten s - 1) (in_state to sale)) h (length-set s.sales (n - forgotten s - 1) (in_state to sale))
    (λ k. less_when_settled k s.sales (n - forgotten s - 1) sale to place held)
    (each_replaced (λ sale. is_known (length s.campaigns) sale ≡ true) s.sales (n - forgotten s - 1) (in_state to sale) known
    (each_at (λ sale. is_known (length s.campaigns) sale ≡ true) s.sales (n - forgotten s - 1) sale known place))

-- ---- one sale more

-- the campaign of that number is one of so many
pub there_known : (s : State) (n : ℕ) (c : Campaign) → campaign_at s n ≡ Some c → (1 ≤ n) × (n ≤ length s.campaigns)
there_known s n c there =
    let place = at_place s n c there in
    let lt : n - 1 < length s.campaigns = slice_get_within s.campaigns (n - 1) c place.1 in
    (place.0, omega (arith, place.0, lt))

pub one_campaign : (s : State) (n : ℕ) (c d : Campaign) → campaign_at s n ≡ Some c → campaign_at s n ≡ Some d → c ≡ d
one_campaign s n c d e k = some_same c d (sym e ∙ k)

pub one_sale_more : (s : State) (sale : SaleRow) (c : Campaign) → IsConsistent s → campaign_at s sale.campaign ≡ Some c → charge_of sale ≤ free s sale.campaign c → length s.sales < most_sales
    → IsConsistent (with_sales s (sale ∷ []))
one_sale_more s sale c h there paid room = record {
  solvent = λ n d at.
      let more = sum_by_push (taken n) s.sales sale in
      let solvent = h.solvent n d at in
      elim (cases_eq sale.campaign n) [
        | inl own ↦
            let same : c ≡ d = one_campaign s n c d (subst (λ k. campaign_at s k ≡ Some c) own there) at in
            let charge = taken_of_own n sale own in
            let paid2 : charge_of sale ≤ free s n d = subst (λ (e : Campaign). charge_of sale ≤ free s n e) same (subst (λ k. charge_of sale ≤ free s k c) own paid) in
            omega (arith, more, solvent, charge, paid2)
        | inr other ↦ omega (arith, more, solvent, taken_of_other n sale other)
      ];
  within = h.within;
  known =
      let known = there_known s sale.campaign c there in
      all_of_each (is_known (length s.campaigns)) (s.sales ++ sale ∷ []) (each_append (λ sale. is_known (length s.campaigns) sale ≡ true) s.sales (sale ∷ []) (known_in s h)
      (ap (λ b. b && nat_le sale.campaign (length s.campaigns)) (le-leb 1 sale.campaign known.0) ∙ le-leb sale.campaign (length s.campaigns) known.1, tt));
  few = omega (arith, length-append s.sales (sale ∷ []), room);
  few_forgotten = h.few_forgotten;
}

-- ---- another campaign of that number, or one more

pub campaign_changed : (s : State) (n : ℕ) (c d : Campaign) → IsConsistent s → campaign_at s n ≡ Some c → d.gone ≡ c.gone → committed s n c ≤ d.facts.budget → is_within_limits (with_campaign s n d) ≡ true
    → IsConsistent (with_campaign s n d)
campaign_changed s n c d h there same paid within =
    let place = at_place s n c there in
    record {
      solvent = λ k e at.
          let there2 = at_place (with_campaign s n d) k e at in
          elim (replaced s.campaigns d (n - 1) (k - 1) e there2.1) [
            | inl own ↦
                let number : k ≡ n = same_number k n there2.0 place.0 own.0 in
                let paid2 : committed_of n d.gone s.sales ≤ d.facts.budget = subst (λ g. committed_of n g s.sales ≤ d.facts.budget) (sym same) paid in
                subst (λ (x : Campaign). committed_of k x.gone s.sales ≤ x.facts.budget) own.1 (subst (λ j. committed_of j d.gone s.sales ≤ d.facts.budget) (sym number) paid2)
            | inr other ↦ h.solvent k e (numbered k (slice_get s.campaigns (k - 1)) e there2.0 other.1)
          ];
      within = within;
      known = subst (λ l. list_all (is_known l) s.sales ≡ true) (sym (length-set s.campaigns (n - 1) d)) h.known;
      few = h.few;
      few_forgotten = omega (arith, sum_kept (λ (x : Campaign). gone_count x.gone) s.campaigns (n - 1) c d place.1 (ap gone_count same), h.few_forgotten);
    }

more_known : (campaigns : ℕ) (sale : SaleRow) → is_known campaigns sale ≡ true → is_known (campaigns + 1) sale ≡ true
more_known campaigns sale e =
    let parts = and_parts (nat_le 1 sale.campaign) (nat_le sale.campaign campaigns) e in
    ap (λ b. b && nat_le sale.campaign (campaigns + 1)) parts.0 ∙ le-leb sale.campaign (campaigns + 1) (omega (arith, leb-true sale.campaign campaigns parts.1))

pub campaign_added : (s : State) (c : Campaign) → IsConsistent s → c.gone.spent ≤ c.facts.budget → forgotten s + gone_count c.gone ≤ most_forgotten → is_within_limits (with_campaigns s (c ∷ [])) ≡ true
    → IsConsistent (with_campaigns s (c ∷ []))
campaign_added s c h paid few within = record {
  solvent = λ k e at.
      let place = at_place (with_campaigns s (c ∷ [])) k e at in
      elim (pushed s.campaigns c (k - 1) e place.1) [
        | inl old ↦ h.solvent k e (numbered k (slice_get s.campaigns (k - 1)) e place.0 old)
        | inr new ↦
            let lt : length s.campaigns < k = omega (arith, place.0, new.0) in
            let none = none_taken (length s.campaigns) k s.sales lt (known_in s h) in
            let paid2 : committed_of k c.gone s.sales ≤ c.facts.budget = omega (arith, none, paid) in
            subst (λ (x : Campaign). committed_of k x.gone s.sales ≤ x.facts.budget) new.1 paid2
      ];
  within = within;
  known =
      let more : length (s.campaigns ++ c ∷ []) ≡ length s.campaigns + 1 = length-append s.campaigns (c ∷ []) in
      all_of_each (is_known (length (s.campaigns ++ c ∷ []))) s.sales (subst (λ l. Each (λ sale. is_known l sale ≡ true) s.sales) (sym more)
      (each_mapped (λ sale. is_known (length s.campaigns) sale ≡ true) (λ sale. is_known (length s.campaigns + 1) sale ≡ true) (more_known (length s.campaigns)) s.sales (known_in s h)));
  few = h.few;
  few_forgotten = omega (arith, sum_by_push (λ (x : Campaign). gone_count x.gone) s.campaigns c, few);
}

-- ---- what a result says of its tests

pub fitted : (b : Bool) (t u : State) → only_if b t ≡ Some u → (b ≡ true) × (t ≡ u)
fitted true t u e = (refl, some_same t u e)
fitted false t u e = absurd (none_some u e)

pub chosen : (b : Bool) (o : Option State) (u : State) → cond b o None ≡ Some u → (b ≡ true) × (o ≡ Some u)
chosen true o u e = (refl, e)
chosen false o u e = absurd (none_some u e)

pub there_is : {A : Type 0} (test : A → Bool) (o : Option A) → option_map_or test o false ≡ true → (x : A) × (o ≡ Some x) × (test x ≡ true)
there_is test None e = absurd (false≢true e)
there_is test (Some x) e = (x, refl, e)

-- ---- each change

pub item_kept : (m : ℕ) (user : Option (List ℕ)) (item : SoldItem) (s : State) → IsConsistent s → can_pay s item.campaign item.price ≡ true → has_room s ≡ true → IsConsistent (with_sales s (sale_by m user item ∷ []))
item_kept m user item s h pays room =
    let (c, there, test) = there_is (λ (c : Campaign). c.live && nat_le item.price (free s item.campaign c)) (campaign_at s item.campaign) pays in
    let paid : item.price ≤ free s item.campaign c = leb-true item.price (free s item.campaign c) (and_parts c.live (nat_le item.price (free s item.campaign c)) test).1 in
    one_sale_more s (sale_by m user item) c h there paid (leb-true (suc (length s.sales)) most_sales room)

items_kept : (m : ℕ) (user : Option (List ℕ)) (items : List SoldItem) (s u : State) → IsConsistent s → with_items m user items s ≡ Some u → IsConsistent u
items_kept m user [] s u h e = subst IsConsistent (some_same s u e) h
items_kept m user (item ∷ items) s u h e =
    let picked = chosen (can_pay s item.campaign item.price && has_room s) (with_items m user items (with_sales s (sale_by m user item ∷ []))) u e in
    let parts = and_parts (can_pay s item.campaign item.price) (has_room s) picked.0 in
    items_kept m user items (with_sales s (sale_by m user item ∷ [])) u (item_kept m user item s h parts.0 parts.1) picked.1

pub added_kept : (facts : FactParts) (expr : List (List Pred)) (s u : State) → IsConsistent s → with_added facts expr s ≡ Some u → IsConsistent u
added_kept facts expr s u h e =
    let c = new_campaign facts expr in
    let fit = fitted (is_within_limits (with_campaigns s (c ∷ []))) (with_campaigns s (c ∷ [])) u e in
    subst IsConsistent fit.1 (campaign_added s c h (omega arith) (omega (arith, h.few_forgotten)) fit.0)

pub changed_kept : (facts : FactParts) (expr : List (List Pred)) (n : ℕ) (s u : State) (c : Campaign) → IsConsistent s → campaign_at s n ≡ Some c → with_changed facts expr n s c ≡ Some u → IsConsistent u
changed_kept facts expr n s u c h there e =
    let after = with_campaign s n (with_record facts expr c) in
    let fit = fitted (nat_le (committed s n c) facts.budget && is_within_limits after) after u e in
    let parts = and_parts (nat_le (committed s n c) facts.budget) (is_within_limits after) fit.0 in
    subst IsConsistent fit.1 (campaign_changed s n c (with_record facts expr c) h there refl (leb-true (committed s n c) facts.budget parts.0) parts.1)

pub live_kept : (live : Bool) (n : ℕ) (s : State) (c : Campaign) → IsConsistent s → campaign_at s n ≡ Some c → IsConsistent (with_campaign s n (with_live live c))
live_kept live n s c h there =
    campaign_changed s n c (with_live live c) h there refl (h.solvent n c there)
    (ap (λ rs. is_none (passed_limit rs)) (map_kept record_of s.campaigns (n - 1) c (with_live live c) (at_place s n c there).1 refl) ∙ h.within)

pub settled_once : (to : SaleState) (n : ℕ) (s u : State) → IsConsistent s → on_sale n (with_settled to n) s ≡ Some u → IsConsistent u
settled_once to n s u h e = option_and_then_some (with_settled to n s) (sale_numbered s n) u e (λ sale there k.
    let fit = fitted (is_held sale.state) (with_sale s n (in_state to sale)) u k in
    subst IsConsistent fit.1 (settled_kept to n s sale h there fit.0))

pub kept_kept : (k : KeptCampaign) (s u : State) → IsConsistent s → with_kept k s ≡ Some u → IsConsistent u
kept_kept k s u h e =
    let c = campaign_of k in
    let after = with_campaigns s (c ∷ []) in
    let fit = fitted (can_keep s k) after u e in
    let rest = and_parts (eqb (length s.sales) 0) _ fit.0 in
    let tests = and_parts (is_within_limits after) _ rest.1 in
    let money = and_parts (nat_le k.gone.spent k.facts.budget) (nat_le (forgotten s + gone_count k.gone) most_forgotten) tests.1 in
    subst IsConsistent fit.1 (campaign_added s c h (leb-true k.gone.spent k.facts.budget money.0) (leb-true (forgotten s + gone_count k.gone) most_forgotten money.1) tests.0)

pub kept_sale_kept : (sale : SaleRow) (s u : State) → IsConsistent s → with_kept_sale sale s ≡ Some u → IsConsistent u
kept_sale_kept sale s u h e =
    let fit = fitted (can_keep_sale s sale) (with_sales s (sale ∷ [])) u e in
    let parts = and_parts _ (has_room s) fit.0 in
    let (c, there, test) = there_is (λ (c : Campaign). nat_le (charge_of sale) (free s sale.campaign c)) (campaign_at s sale.campaign) parts.0 in
    subst IsConsistent fit.1 (one_sale_more s sale c h there (leb-true (charge_of sale) (free s sale.campaign c) test) (leb-true (suc (length s.sales)) most_sales parts.1))

change_kept : (ch : Change) (m : ℕ) (s u : State) → IsConsistent s → change_applied ch m s ≡ Some u → IsConsistent u
change_kept change.Swept m s u h e = subst IsConsistent (fitted (is_any_due m s) (swept m s) u e).1 (swept_kept m s h)
change_kept (change.Sold items) m s u h e = items_kept m None items (swept m s) u (swept_kept m s h) e
change_kept (change.SoldTo user items) m s u h e = items_kept m (Some user) items (swept m s) u (swept_kept m s h) e
change_kept (change.Added facts expr) m s u h e = added_kept facts expr (swept m s) u (swept_kept m s h) e
change_kept (change.Changed n facts expr) m s u h e =
    option_and_then_some (with_changed facts expr n (swept m s)) (campaign_at (swept m s) n) u e (λ c there k. changed_kept facts expr n (swept m s) u c (swept_kept m s h) there k)
change_kept (change.Paused n) m s u h e =
    option_and_then_some (with_paused n (swept m s)) (campaign_at (swept m s) n) u e (λ c there k.
    subst IsConsistent (fitted c.live (with_campaign (swept m s) n (with_live false c)) u k).1 (live_kept false n (swept m s) c (swept_kept m s h) there))
change_kept (change.Resumed n) m s u h e =
    option_and_then_some (with_resumed n (swept m s)) (campaign_at (swept m s) n) u e (λ c there k.
    subst IsConsistent (fitted (not c.live) (with_campaign (swept m s) n (with_live true c)) u k).1 (live_kept true n (swept m s) c (swept_kept m s h) there))
change_kept (change.Billed n) m s u h e = settled_once state.Billed n (swept m s) u (swept_kept m s h) e
change_kept (change.Lost n) m s u h e = settled_once state.Lost n (swept m s) u (swept_kept m s h) e
change_kept (change.Forgot n) m s u h e =
    let t = swept m s in
    let fit = fitted (nat_le n most_forgotten && are_settled (n - forgotten t) t.sales) (forget_first (n - forgotten t) t) u e in
    let parts = and_parts (nat_le n most_forgotten) (are_settled (n - forgotten t) t.sales) fit.0 in
    subst IsConsistent fit.1 (first_kept (n - forgotten t) t (swept_kept m s h) (settled_bounds n t parts.0 parts.1))
change_kept (change.Kept k) m s u h e = kept_kept k s u h (chosen (eqb m 0) (with_kept k s) u e).1
change_kept (change.KeptSale sale) m s u h e = kept_sale_kept sale s u h (chosen (eqb m 0) (with_kept_sale sale s) u e).1

-- ---- effects, steps and histories

pub applied_kept : (e : Effect) (s u : State) → IsConsistent s → applied e s ≡ Some u → IsConsistent u
applied_kept e s u h k = change_kept e.change e.moment s u h k

pub all_applied_kept : (es : List Effect) (s u : State) → IsConsistent s → all_applied es s ≡ Some u → IsConsistent u
all_applied_kept [] s u h k = subst IsConsistent (some_same s u k) h
all_applied_kept (e ∷ es) s u h k = option_and_then_some (all_applied es) (applied e s) u k (λ t one rest. all_applied_kept es t u (applied_kept e s t h one) rest)

pub empty_consistent : IsConsistent empty
empty_consistent = record {
  solvent = λ n c there. absurd (none_some c (at_place empty n c there).1);
  within = refl;
  known = refl;
  few = omega arith;
  few_forgotten = omega arith;
}

-- the state of effects that fit
pub made_consistent : (es : List Effect) (s : State) → state_of es ≡ Some s → IsConsistent s
made_consistent es s e = all_applied_kept es empty s empty_consistent e

by_effect : (s after : State) (o : Option Effect) → IsConsistent s → EffectLeads s after o → IsConsistent after
by_effect s after None h e = subst IsConsistent (sym e) h
by_effect s after (Some ef) h e = applied_kept ef s after h e

pub step_kept : (settings : Settings) (m : ℕ) (s : State) (c : Command) → IsConsistent s → IsConsistent (step settings m s c).after
step_kept settings m s c h = by_effect s (step settings m s c).after (effect_of settings m s c) h (step_leads settings m s c)

pub replay_kept : (settings : Settings) (s : State) (calls : List Call) → IsConsistent s → IsConsistent (replay settings s calls)
replay_kept settings s calls h = fold_keeps IsConsistent (next settings) (λ t call k. step_kept settings call.moment t call.command k) calls s h
