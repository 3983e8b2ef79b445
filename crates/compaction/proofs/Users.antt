-- The users of sales that encodable effects lead to have 1 to 255 bytes, and so have those of the sales that are kept.
use Rattle.std.proofs.Common.{map, refl, ◌≡◌, ℕ, ◌-◌, ◌&&◌, not, eqb, List, [], ◌∷◌, All, subst, sym, false, true, Option, None, Some}
use Rattle.std.specs.Prelude.{nat_le, slice_get}
use Rattle.std.proofs.lemmas.List.Elements.{All-append, All-cons, All-drop, All-get_or, All-head, All-map, All-nil, All-push, All-set, All-tail}
use Rattle.std.proofs.lemmas.Option.{get_or_from_slice_get, option_and_then_some, slice_get_within}
use Rattle.auction_core.specs.Core.{CoreState}
use Rattle.budget_book.specs.declared.sales.SaleRow.{SaleRow}
use Rattle.budget_book.specs.declared.sales.SaleState.{SaleState}
use Rattle.budget_book.specs.declared.sales.SaleState.TheVariants as state
use Rattle.budget_book.specs.Sales.{expired, expired_at, forgettable, in_state, is_held, are_settled, most_forgotten}
use Rattle.byte_fields.specs.Encodings.{IsOptionOf}
use Rattle.compaction.specs.Gathering.{HaveUsers, IsWritable}
use Rattle.effects.specs.Bytes.{HasLengths, IsChange, IsEncodable, IsUser}
use Rattle.plain_exchange.specs.declared.changes.Change.{Change}
use Rattle.plain_exchange.specs.declared.changes.Change.TheVariants as change
use Rattle.plain_exchange.specs.declared.changes.Effect.{Effect}
use Rattle.plain_exchange.specs.declared.changes.SoldItem.{SoldItem}
use Rattle.plain_exchange.specs.Effects.{kept_campaign, kept_effects, kept_sale, all_applied, applied, campaign_of, can_keep, can_keep_sale, can_pay, change_applied, has_room, is_within_limits, on_sale, sale_by, with_changed, with_items, with_kept, with_kept_sale, with_paused, with_resumed, with_settled}
use Rattle.plain_exchange.specs.State.{Campaign, State, campaign_at, committed, empty, forget, forgotten, is_any_due, sale_numbered, swept, with_campaign, with_campaigns, with_sale, with_sales, forget_first}
use Rattle.plain_exchange.specs.Step.{new_campaign, with_live, with_record}
use Rattle.plain_exchange.proofs.Compacting.{forgotten_kept}
use Rattle.plain_exchange.proofs.Each.{some_same}
use Rattle.plain_exchange.proofs.Keeping.{chosen, fitted, sale_place}
use Rattle.recovery.specs.Openings.{IsLed}

abbrev pub HasUser : SaleRow → Type 0
HasUser sale = IsOptionOf IsUser sale.user

moved : (s t : State) → s ≡ t → HaveUsers s.sales → HaveUsers t.sales
moved s t e h = subst (λ (x : State). HaveUsers x.sales) e h

expired_users : (m : ℕ) (sales : List SaleRow) → HaveUsers sales → HaveUsers (expired m sales)
expired_users m sales h = All-map HasUser (expired_at m) sales h

items_users : (m : ℕ) (user : Option (List ℕ)) (items : List SoldItem) (s u : State) → IsOptionOf IsUser user → HaveUsers s.sales → with_items m user items s ≡ Some u → HaveUsers u.sales
items_users m user [] s u is h e = moved s u (some_same s u e) h
items_users m user (item ∷ items) s u is h e =
    let picked = chosen (can_pay s item.campaign item.price && has_room s) (with_items m user items (with_sales s (sale_by m user item ∷ []))) u e in
    items_users m user items (with_sales s (sale_by m user item ∷ [])) u is (All-push HasUser s.sales (sale_by m user item) h is) picked.1

settled_users : (to : SaleState) (n : ℕ) (s u : State) → HaveUsers s.sales → on_sale n (with_settled to n) s ≡ Some u → HaveUsers u.sales
settled_users to n s u h e = option_and_then_some (with_settled to n s) (sale_numbered s n) u e (λ sale there k.
    let fit = fitted (is_held sale.state) (with_sale s n (in_state to sale)) u k in
    let place = sale_place s n sale there in
    let at = n - forgotten s - 1 in
    let has = subst HasUser (get_or_from_slice_get s.sales at sale sale place) (All-get_or HasUser s.sales at sale (slice_get_within s.sales at sale place) h) in
    moved (with_sale s n (in_state to sale)) u fit.1 (All-set HasUser s.sales at (in_state to sale) has h))

change_users : (ch : Change) (m : ℕ) (s u : State) → IsChange ch → HaveUsers s.sales → change_applied ch m s ≡ Some u → HaveUsers u.sales
change_users change.Swept m s u is h e = moved (swept m s) u (fitted (is_any_due m s) (swept m s) u e).1 (expired_users m s.sales h)
change_users (change.Sold items) m s u is h e = items_users m None items (swept m s) u tt (expired_users m s.sales h) e
change_users (change.SoldTo user items) m s u is h e = items_users m (Some user) items (swept m s) u is.0 (expired_users m s.sales h) e
change_users (change.Added facts expr) m s u is h e =
    let after = with_campaigns (swept m s) (new_campaign facts expr ∷ []) in
    moved after u (fitted (is_within_limits after) after u e).1 (expired_users m s.sales h)
change_users (change.Changed n facts expr) m s u is h e =
    option_and_then_some (with_changed facts expr n (swept m s)) (campaign_at (swept m s) n) u e (λ c there k.
    let after = with_campaign (swept m s) n (with_record facts expr c) in
    moved after u (fitted (nat_le (committed (swept m s) n c) facts.budget && is_within_limits after) after u k).1 (expired_users m s.sales h))
change_users (change.Paused n) m s u is h e =
    option_and_then_some (with_paused n (swept m s)) (campaign_at (swept m s) n) u e (λ c there k.
    let after = with_campaign (swept m s) n (with_live false c) in
    moved after u (fitted c.live after u k).1 (expired_users m s.sales h))
change_users (change.Resumed n) m s u is h e =
    option_and_then_some (with_resumed n (swept m s)) (campaign_at (swept m s) n) u e (λ c there k.
    let after = with_campaign (swept m s) n (with_live true c) in
    moved after u (fitted (not c.live) after u k).1 (expired_users m s.sales h))
change_users (change.Billed n) m s u is h e = settled_users state.Billed n (swept m s) u (expired_users m s.sales h) e
change_users (change.Lost n) m s u is h e = settled_users state.Lost n (swept m s) u (expired_users m s.sales h) e
change_users (change.Forgot n) m s u is h e =
    let t = swept m s in
    let after = forget_first (n - forgotten t) t in
    moved after u (fitted (nat_le n most_forgotten && are_settled (n - forgotten t) t.sales) after u e).1 (All-drop HasUser (n - forgotten t) t.sales (expired_users m s.sales h))
change_users (change.Kept k) m s u is h e =
    let after = with_campaigns s (campaign_of k ∷ []) in
    moved after u (fitted (can_keep s k) after u (chosen (eqb m 0) (with_kept k s) u e).1).1 h
change_users (change.KeptSale sale) m s u is h e =
    let after = with_sales s (sale ∷ []) in
    moved after u (fitted (can_keep_sale s sale) after u (chosen (eqb m 0) (with_kept_sale sale s) u e).1).1 (All-push HasUser s.sales sale h is.user)

all_users : (es : List Effect) (s u : State) → All IsEncodable es → HaveUsers s.sales → all_applied es s ≡ Some u → HaveUsers u.sales
all_users [] s u each h e = moved s u (some_same s u e) h
all_users (x ∷ es) s u each h e = option_and_then_some (all_applied es) (applied x s) u e (λ t one rest.
    let first = All-head IsEncodable x es each in
    all_users es t u (All-tail IsEncodable x es each) (change_users x.change x.moment s t first.change h one) rest)

-- what is left of an exchange that such effects lead to can be written
pub writable : (core after : CoreState) (keep : ℕ) → IsLed core → after.state ≡ forget keep core.state → IsWritable after.state
writable core after keep led is =
    let users = all_users led.effects empty core.state led.encodable (All-nil HasUser) led.leads in
    subst IsWritable (sym is) (record {
      users = All-drop HasUser (forgettable keep (forgotten core.state) core.state.sales) core.state.sales users;
      again = forgotten_kept led.effects core.state keep led.leads;
    })

-- ---- the state's own effects can be written

abbrev CanBeWritten : Effect → Type 0
CanBeWritten e = HasLengths e.change × (e.moment ≡ 0)

each_campaign : (cs : List Campaign) → All (λ (c : Campaign). CanBeWritten (kept_campaign c)) cs
each_campaign [] = All-nil (λ (c : Campaign). CanBeWritten (kept_campaign c))
each_campaign (c ∷ cs) = All-cons (λ (c : Campaign). CanBeWritten (kept_campaign c)) c cs (tt, refl) (each_campaign cs)

each_sale : (sales : List SaleRow) → HaveUsers sales → All (λ (sale : SaleRow). CanBeWritten (kept_sale sale)) sales
each_sale [] h = All-nil (λ (sale : SaleRow). CanBeWritten (kept_sale sale))
each_sale (sale ∷ sales) h =
    All-cons (λ (sale : SaleRow). CanBeWritten (kept_sale sale)) sale sales (All-head HasUser sale sales h, refl) (each_sale sales (All-tail HasUser sale sales h))

pub can_be_written : (s : State) (place : ℕ) (e : Effect) → HaveUsers s.sales → slice_get (kept_effects s) place ≡ Some e → HasLengths e.change × (e.moment ≡ 0)
can_be_written s place e users at =
    let all = All-append CanBeWritten (map kept_campaign s.campaigns) (map kept_sale s.sales) (All-map CanBeWritten kept_campaign s.campaigns (each_campaign s.campaigns)) (All-map CanBeWritten kept_sale s.sales (each_sale s.sales users)) in
    subst CanBeWritten (get_or_from_slice_get (kept_effects s) place e e at) (All-get_or CanBeWritten (kept_effects s) place e (slice_get_within (kept_effects s) place e at) all)
