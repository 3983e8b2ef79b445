-- Effects that fit an exchange fit it without its oldest sales, and lead to the same exchange without them.
use Rattle.std.proofs.Common.{◌≡◌, ℕ, ◌+◌, ◌-◌, ◌≤◌, ◌&&◌, not, eqb, cond, Bool, true, false, List, [], ◌∷◌, ◌++◌, length, drop, refl, sym, ◌∙◌, ap, subst, arith, Option, Some, None, length-drop}
use Rattle.std.specs.Prelude.{min, nat_le, nat_lt, option_and_then}
use Rattle.std.specs.List.{prefix_len}
use Rattle.std.proofs.lemmas.Bool.{and_from, and_parts, eqb-true, false≢true, le-leb}
use Rattle.std.proofs.lemmas.List.Sums.{sum_by_push}
use Rattle.std.proofs.lemmas.Option.{option_and_then_some}
use Rattle.budget_book.specs.declared.sales.SaleRow.{SaleRow}
use Rattle.budget_book.specs.declared.sales.SaleState.{SaleState}
use Rattle.budget_book.specs.declared.sales.SaleState.TheVariants as state
use Rattle.budget_book.specs.Sales.{are_settled, forgettable, gone_count, in_state, is_held, most_forgotten}
use Rattle.compaction.specs.Trimming.{CanBeGone, GoesOnWithout, forget_nothing, is_forgetting}
use Rattle.compaction.proofs.Without.{IsFront, bare, bounds_of, due_behind, first_added, first_both, first_campaign, first_changed, first_committed, first_none, first_pays, first_room, first_settled_one, first_sold, first_swept, front_behind, front_by, front_in, front_settled, front_settled_one, front_sold, gone_by, gone_swept, stands_behind}
use Rattle.plain_exchange.specs.Consistent.{IsConsistent}
use Rattle.plain_exchange.specs.declared.changes.Change.{Change}
use Rattle.plain_exchange.specs.declared.changes.Change.TheVariants as change
use Rattle.plain_exchange.specs.declared.changes.Effect.{Effect}
use Rattle.plain_exchange.specs.declared.changes.SoldItem.{SoldItem}
use Rattle.plain_exchange.specs.Effects.{all_applied, applied, campaign_of, can_keep, can_keep_sale, can_pay, change_applied, charge_of, has_room, is_within_limits, kept_effects, on_campaign, on_sale, only_if, sale_by, state_of, with_changed, with_forgotten, with_items, with_kept, with_kept_sale, with_paused, with_resumed, with_settled}
use Rattle.plain_exchange.specs.State.{Campaign, State, campaign_at, committed, empty, forget, forget_first, forgotten, is_any_due, swept, with_campaign, with_campaigns, with_sale, with_sales}
use Rattle.plain_exchange.specs.Step.{new_campaign, none_gone, with_live, with_record}
use Rattle.plain_exchange.proofs.Applying.{all_applied_both}
use Rattle.plain_exchange.proofs.Compacting.{kept_made}
use Rattle.plain_exchange.proofs.Each.{some_same}
use Rattle.plain_exchange.proofs.Forgetting.{count_bounds, first_counted, first_kept, forget_kept, settled_bounds}
use Rattle.plain_exchange.proofs.Keeping.{applied_kept, chosen, fitted, item_kept, made_consistent, swept_kept}
use Rattle.plain_exchange.proofs.Places.{at_place, sum_kept}

-- ---- changes that forget nothing

-- none more is forgotten, the front stays, and without it comes the same without it
record Stays (n : ℕ) (s after : State) (o : Option State) : Type 0 where
  same : forgotten after ≡ forgotten s
  front : IsFront n after.sales
  leads : o ≡ Some (forget_first n after)

items_stay : (m : ℕ) (user : Option (List ℕ)) (items : List SoldItem) (n : ℕ) (s u : State) → IsConsistent s → CanBeGone n s → with_items m user items s ≡ Some u → Stays n s u (with_items m user items (forget_first n s))
items_stay m user [] n s u h g e = subst (λ (x : State). Stays n s x (Some (forget_first n s))) (some_same s u e) (record { same = refl; front = front_in n s g; leads = refl })
items_stay m user (item ∷ items) n s u h g e =
    let sale = sale_by m user item in
    let next = with_sales s (sale ∷ []) in
    let picked = chosen (can_pay s item.campaign item.price && has_room s) (with_items m user items next) u e in
    let parts = and_parts (can_pay s item.campaign item.price) (has_room s) picked.0 in
    let f = front_in n s g in
    let rest = items_stay m user items n next u (item_kept m user item s h parts.0 parts.1) (gone_by n next (front_sold n s (sale ∷ []) f) g.few) picked.1 in
    let pays : can_pay (forget_first n s) item.campaign item.price ≡ true = first_pays (λ live paid. live && nat_le item.price paid) n s item.campaign g parts.0 in
    let test : (can_pay (forget_first n s) item.campaign item.price && has_room (forget_first n s)) ≡ true = and_from _ _ pays (first_room n s parts.1) in
    record {
      same = rest.same;
      front = rest.front;
      leads = ap (λ b. cond b (with_items m user items (with_sales (forget_first n s) (sale ∷ []))) None) test ∙ ap (with_items m user items) (first_sold n s (sale ∷ []) f) ∙ rest.leads;
    }

-- the test of the limits, where the exchange is consistent
limits_kept : (n : ℕ) (u : State) → IsConsistent u → CanBeGone n u → is_within_limits (forget_first n u) ≡ true
limits_kept n u h g = (first_kept n u h (bounds_of n u g)).within

added_stays : (c : Campaign) (n : ℕ) (s u : State) → c.gone ≡ none_gone → IsConsistent s → IsConsistent u → CanBeGone n s → with_campaigns s (c ∷ []) ≡ u
    → Stays n s u (only_if (is_within_limits (with_campaigns (forget_first n s) (c ∷ []))) (with_campaigns (forget_first n s) (c ∷ [])))
added_stays c n s u none h hu g is =
    let after = with_campaigns (forget_first n s) (c ∷ []) in
    let sales : s.sales ≡ u.sales = ap (λ (x : State). x.sales) is in
    let same : forgotten u ≡ forgotten s =
    sym (ap forgotten is) ∙ (let more = sum_by_push (λ (x : Campaign). gone_count x.gone) s.campaigns c in let zero_ : gone_count c.gone ≡ 0 = ap gone_count none in omega (arith, more, zero_)) in
    let front = subst (IsFront n) sales (front_in n s g) in
    let moved : after ≡ forget_first n u = first_added n s c h none ∙ ap (forget_first n) is in
    let fits : is_within_limits after ≡ true = ap is_within_limits moved ∙ limits_kept n u hu (gone_by n u front (omega (arith, same, g.few))) in
    record { same = same; front = front; leads = ap (λ b. only_if b after) fits ∙ ap (λ (x : State). Some x) moved }

-- what is known of a campaign without the first sales, and of the exchange with another one at its number
record IsMoved (n : ℕ) (s : State) (k : ℕ) (c new : Campaign) (u : State) : Type 0 where
  there : campaign_at (forget_first n s) k ≡ Some (bare n s k c)
  paid : committed (forget_first n s) k (bare n s k c) ≡ committed s k c
  moved : with_campaign (forget_first n s) k (bare n s k new) ≡ forget_first n u
  within : is_within_limits (with_campaign (forget_first n s) k (bare n s k new)) ≡ true

changed_stays : (k : ℕ) (c new : Campaign) (n : ℕ) (s u : State) (o : Option State) → IsConsistent u → CanBeGone n s → campaign_at s k ≡ Some c → new.gone ≡ c.gone → with_campaign s k new ≡ u
    → (IsMoved n s k c new u → o ≡ Some (with_campaign (forget_first n s) k (bare n s k new))) → Stays n s u o
changed_stays k c new n s u o hu g there same_gone is leads =
    let place = at_place s k c there in
    let sales : s.sales ≡ u.sales = ap (λ (x : State). x.sales) is in
    let same : forgotten u ≡ forgotten s = sym (ap forgotten is) ∙ sum_kept (λ (x : Campaign). gone_count x.gone) s.campaigns (k - 1) c new place.1 (ap gone_count same_gone) in
    let front = subst (IsFront n) sales (front_in n s g) in
    let moved : with_campaign (forget_first n s) k (bare n s k new) ≡ forget_first n u = first_changed n s k new place.0 ∙ ap (forget_first n) is in
    let within = ap is_within_limits moved ∙ limits_kept n u hu (gone_by n u front (omega (arith, same, g.few))) in
    record {
      same = same;
      front = front;
      leads = leads (record { there = first_campaign n s k c there; paid = first_committed n s k c g there; moved = moved; within = within }) ∙ ap (λ (x : State). Some x) moved;
    }

settled_stays : (to : SaleState) (k n : ℕ) (s u : State) → IsConsistent s → CanBeGone n s → on_sale k (with_settled to k) s ≡ Some u → Stays n s u (on_sale k (with_settled to k) (forget_first n s))
settled_stays to k n s u h g e = option_and_then_some (with_settled to k s) _ u e (λ sale there e2.
    let new = in_state to sale in
    let fit = fitted (is_held sale.state) (with_sale s k new) u e2 in
    let b = stands_behind n s k sale h g there fit.0 in
    subst (λ (x : State). Stays n s x (on_sale k (with_settled to k) (forget_first n s))) fit.1 (record {
      same = refl;
      front = front_settled_one n s (k - forgotten s - 1) new b.behind (front_in n s g);
      leads =
          ap (option_and_then (with_settled to k (forget_first n s))) b.there
          ∙ ap (λ t. only_if t (with_sale (forget_first n s) k new)) fit.0
          ∙ ap (λ (x : State). Some x) (first_settled_one n s k sale new b);
    }))

kept_sale_stays : (sale : SaleRow) (n : ℕ) (s u : State) → CanBeGone n s → with_kept_sale sale s ≡ Some u → Stays n s u (with_kept_sale sale (forget_first n s))
kept_sale_stays sale n s u g e =
    let fit = fitted (can_keep_sale s sale) (with_sales s (sale ∷ [])) u e in
    let parts = and_parts _ (has_room s) fit.0 in
    let f = front_in n s g in
    let test : can_keep_sale (forget_first n s) sale ≡ true = and_from _ _ (first_pays (λ live paid. nat_le (charge_of sale) paid) n s sale.campaign g parts.0) (first_room n s parts.1) in
    subst (λ (x : State). Stays n s x (with_kept_sale sale (forget_first n s))) fit.1 (record {
      same = refl;
      front = front_sold n s (sale ∷ []) f;
      leads = ap (λ t. only_if t (with_sales (forget_first n s) (sale ∷ []))) test ∙ ap (λ (x : State). Some x) (first_sold n s (sale ∷ []) f);
    })

-- ---- each change

-- How it goes on without the first n sales: to the same, without those that are still there. Nothing that is forgotten
-- comes back.
record Goes (n : ℕ) (s after : State) (nothing : Bool) (o : Option State) : Type 0 where
  left : ℕ
  are : left ≡ forgotten s + n - forgotten after
  more : forgotten s ≤ forgotten after
  all : nothing ≡ true → left ≡ n
  can : CanBeGone left after
  leads : o ≡ Some (forget_first left after)

goes_by : (n : ℕ) (s after : State) (nothing : Bool) (o : Option State) → CanBeGone n s → Stays n s after o → Goes n s after nothing o
goes_by n s after nothing o g x = record {
  left = n;
  are = omega (arith, x.same);
  more = omega (arith, x.same);
  all = λ e. refl;
  can = gone_by n after x.front (omega (arith, x.same, g.few));
  leads = x.leads;
}

-- behind the sales that expire
swept_goes : (m n : ℕ) (s after : State) (nothing : Bool) (act : State → Option State) → CanBeGone n s → Stays n (swept m s) after (act (forget_first n (swept m s))) → Goes n s after nothing (act (swept m (forget_first n s)))
swept_goes m n s after nothing act g x =
    goes_by n s after nothing (act (swept m (forget_first n s))) g (record { same = x.same; front = x.front; leads = ap act (first_swept m n s (front_in n s g)) ∙ x.leads })

-- no sale is there
none_goes : (n : ℕ) (s after : State) (act : State → Option State) → length s.sales ≡ 0 → IsConsistent after → CanBeGone n s → forgotten s ≤ forgotten after → act s ≡ Some after → Goes n s after true (act (forget_first n s))
none_goes n s after act none h g more e =
    let zero_ : n ≡ 0 = omega (arith, none, (front_in n s g).there) in
    record {
      left = 0;
      are = omega (arith, zero_, more);
      more = more;
      all = λ t. sym zero_;
      can = record { settled = le-leb 0 (prefix_len (λ (x : SaleRow). not (is_held x.state)) after.sales) (omega arith); few = omega (arith, h.few_forgotten) };
      leads = ap (λ k. act (forget_first k s)) zero_ ∙ ap act (first_none s) ∙ e ∙ ap (λ (x : State). Some x) (sym (first_none after));
    }

-- up to a number: those of them that are forgotten already are not forgotten again
forgot_goes : (k n : ℕ) (s after : State) → IsConsistent s → CanBeGone n s → with_forgotten k s ≡ Some after → Goes n s after false (with_forgotten k (forget_first n s))
forgot_goes k n s after h g e =
    let d = k - forgotten s in
    let fit = fitted (nat_le k most_forgotten && are_settled d s.sales) (forget_first d s) after e in
    let parts = and_parts (nat_le k most_forgotten) (are_settled d s.sales) fit.0 in
    let bounds = settled_bounds k s parts.0 parts.1 in
    let counted = first_counted d s h bounds in
    let without = first_counted n s h (bounds_of n s g) in
    let rest : k - forgotten (forget_first n s) ≡ d - n = omega (arith, without) in
    let settled : are_settled (k - forgotten (forget_first n s)) (drop n s.sales) ≡ true = ap (λ j. are_settled j (drop n s.sales)) rest ∙ front_settled (d - n) (drop n s.sales) (front_behind d n s.sales (front_by d s bounds)) in
    let both : n + (d - n) ≡ d + (n - d) = omega arith in
    let same : forget_first (k - forgotten (forget_first n s)) (forget_first n s) ≡ forget_first (n - d) (forget_first d s) =
    ap (λ j. forget_first j (forget_first n s)) rest ∙ first_both n (d - n) s ∙ ap (λ j. forget_first j s) both ∙ sym (first_both d (n - d) s) in
    subst (λ (x : State). Goes n s x false (with_forgotten k (forget_first n s))) fit.1 (record {
      left = n - d;
      are = omega (arith, counted);
      more = omega (arith, counted);
      all = λ t. absurd (false≢true t);
      can = gone_by (n - d) (forget_first d s) (front_behind n d s.sales (front_in n s g)) (omega (arith, counted, g.few, bounds.1, h.few_forgotten));
      leads = ap (λ t. only_if t (forget_first (k - forgotten (forget_first n s)) (forget_first n s))) (and_from _ _ parts.0 settled) ∙ ap (λ (x : State). Some x) same;
    })

change_goes : (ch : Change) (m n : ℕ) (s u : State) → IsConsistent s → IsConsistent u → CanBeGone n s → change_applied ch m s ≡ Some u → Goes n s u (not (is_forgetting ch)) (change_applied ch m (forget_first n s))
change_goes change.Swept m n s u h hu g e =
    let fit = fitted (is_any_due m s) (swept m s) u e in
    let f = front_in n s g in
    let due : is_any_due m (forget_first n s) ≡ true = ap (nat_lt 0) (due_behind m s.sales n f.settled) ∙ fit.0 in
    swept_goes m n s u true (λ t. only_if (is_any_due m (forget_first n s)) t) g
    (subst (λ (x : State). Stays n (swept m s) x (only_if (is_any_due m (forget_first n s)) (forget_first n (swept m s)))) fit.1
    (record { same = refl; front = front_in n (swept m s) (gone_swept m n s g); leads = ap (λ b. only_if b (forget_first n (swept m s))) due }))
change_goes (change.Sold items) m n s u h hu g e = swept_goes m n s u true (with_items m None items) g (items_stay m None items n (swept m s) u (swept_kept m s h) (gone_swept m n s g) e)
change_goes (change.SoldTo user items) m n s u h hu g e = swept_goes m n s u true (with_items m (Some user) items) g (items_stay m (Some user) items n (swept m s) u (swept_kept m s h) (gone_swept m n s g) e)
change_goes (change.Added facts expr) m n s u h hu g e =
    let c = new_campaign facts expr in
    let fit = fitted (is_within_limits (with_campaigns (swept m s) (c ∷ []))) (with_campaigns (swept m s) (c ∷ [])) u e in
    swept_goes m n s u true (λ t. only_if (is_within_limits (with_campaigns t (c ∷ []))) (with_campaigns t (c ∷ []))) g (added_stays c n (swept m s) u refl (swept_kept m s h) hu (gone_swept m n s g) fit.1)
change_goes (change.Changed k facts expr) m n s u h hu g e =
    let t = swept m s in
    swept_goes m n s u true (on_campaign k (with_changed facts expr k)) g
    (option_and_then_some (with_changed facts expr k t) (campaign_at t k) u e (λ c there e2.
    let new = with_record facts expr c in
    let fit = fitted (nat_le (committed t k c) facts.budget && is_within_limits (with_campaign t k new)) (with_campaign t k new) u e2 in
    let parts = and_parts (nat_le (committed t k c) facts.budget) (is_within_limits (with_campaign t k new)) fit.0 in
    changed_stays k c new n t u (on_campaign k (with_changed facts expr k) (forget_first n t)) hu (gone_swept m n s g) there refl fit.1 (λ x.
    ap (option_and_then (with_changed facts expr k (forget_first n t))) x.there
    ∙ ap (λ b. only_if b (with_campaign (forget_first n t) k (bare n t k new))) (and_from _ _ (ap (λ p. nat_le p facts.budget) x.paid ∙ parts.0) x.within))))
change_goes (change.Paused k) m n s u h hu g e =
    let t = swept m s in
    swept_goes m n s u true (on_campaign k (with_paused k)) g
    (option_and_then_some (with_paused k t) (campaign_at t k) u e (λ c there e2.
    let new = with_live false c in
    let fit = fitted c.live (with_campaign t k new) u e2 in
    changed_stays k c new n t u (on_campaign k (with_paused k) (forget_first n t)) hu (gone_swept m n s g) there refl fit.1 (λ x.
    ap (option_and_then (with_paused k (forget_first n t))) x.there
    ∙ ap (λ b. only_if b (with_campaign (forget_first n t) k (bare n t k new))) fit.0)))
change_goes (change.Resumed k) m n s u h hu g e =
    let t = swept m s in
    swept_goes m n s u true (on_campaign k (with_resumed k)) g
    (option_and_then_some (with_resumed k t) (campaign_at t k) u e (λ c there e2.
    let new = with_live true c in
    let fit = fitted (not c.live) (with_campaign t k new) u e2 in
    changed_stays k c new n t u (on_campaign k (with_resumed k) (forget_first n t)) hu (gone_swept m n s g) there refl fit.1 (λ x.
    ap (option_and_then (with_resumed k (forget_first n t))) x.there
    ∙ ap (λ b. only_if b (with_campaign (forget_first n t) k (bare n t k new))) fit.0)))
change_goes (change.Billed k) m n s u h hu g e = swept_goes m n s u true (on_sale k (with_settled state.Billed k)) g (settled_stays state.Billed k n (swept m s) u (swept_kept m s h) (gone_swept m n s g) e)
change_goes (change.Lost k) m n s u h hu g e = swept_goes m n s u true (on_sale k (with_settled state.Lost k)) g (settled_stays state.Lost k n (swept m s) u (swept_kept m s h) (gone_swept m n s g) e)
change_goes (change.Forgot k) m n s u h hu g e =
    subst (λ (x : State). Goes n s u false (with_forgotten k x)) (sym (first_swept m n s (front_in n s g))) (forgot_swept (forgot_goes k n (swept m s) u (swept_kept m s h) (gone_swept m n s g) e))
  where
    forgot_swept : Goes n (swept m s) u false (with_forgotten k (forget_first n (swept m s))) → Goes n s u false (with_forgotten k (forget_first n (swept m s)))
    forgot_swept x = record { left = x.left; are = x.are; more = x.more; all = x.all; can = x.can; leads = x.leads }
change_goes (change.Kept k) m n s u h hu g e =
    let after = with_campaigns s (campaign_of k ∷ []) in
    let fit = fitted (can_keep s k) after u (chosen (eqb m 0) (with_kept k s) u e).1 in
    let none = eqb-true (length s.sales) 0 (and_parts (eqb (length s.sales) 0) _ fit.0).0 in
    let push = sum_by_push (λ (x : Campaign). gone_count x.gone) s.campaigns (campaign_of k) in
    let more : forgotten s ≤ forgotten after = omega (arith, push) in
    none_goes n s u (change_applied (change.Kept k) m) none hu g (subst (λ (x : State). forgotten s ≤ forgotten x) fit.1 more) e
change_goes (change.KeptSale sale) m n s u h hu g e =
    let picked = chosen (eqb m 0) (with_kept_sale sale s) u e in
    let x = kept_sale_stays sale n s u g picked.1 in
    goes_by n s u true (change_applied (change.KeptSale sale) m (forget_first n s)) g (record {
      same = x.same;
      front = x.front;
      leads = ap (λ b. cond b (with_kept_sale sale (forget_first n s)) None) picked.0 ∙ x.leads;
    })

-- ---- effects

all_go : (es : List Effect) (n : ℕ) (s after : State) → IsConsistent s → CanBeGone n s → all_applied es s ≡ Some after → Goes n s after (forget_nothing es) (all_applied es (forget_first n s))
all_go [] n s after h g e = subst (λ (x : State). Goes n s x true (Some (forget_first n s))) (some_same s after e) (record { left = n; are = omega arith; more = omega arith; all = λ t. refl; can = g; leads = refl })
all_go (e ∷ es) n s after h g k = option_and_then_some (all_applied es) (applied e s) after k (λ t one rest.
    let ht = applied_kept e s t h one in
    let first = change_goes e.change e.moment n s t h ht g one in
    let last = all_go es first.left t after ht first.can rest in
    record {
      left = last.left;
      are = omega (arith, first.are, first.more, last.are, last.more);
      more = omega (arith, first.more, last.more);
      all = λ x. let parts = and_parts (not (is_forgetting e.change)) (forget_nothing es) x in last.all parts.1 ∙ first.all parts.0;
      can = last.can;
      leads = ap (option_and_then (all_applied es)) first.leads ∙ last.leads;
    })

pub goes_on : (es : List Effect) (s after : State) (n : ℕ) → IsConsistent s → CanBeGone n s → all_applied es s ≡ Some after → GoesOnWithout n s es after
goes_on es s after n h g e =
    let x = all_go es n s after h g e in
    record { left = x.left; are = x.are; fewer = omega (arith, x.are, x.more); all = x.all; can = x.can; leads = x.leads }

-- ---- what is kept

pub kept_can_be_gone : (keep : ℕ) (s : State) → IsConsistent s → CanBeGone (forgettable keep (forgotten s) s.sales) s
kept_can_be_gone keep s h =
    let bounds = count_bounds keep s in
    record { settled = le-leb (forgettable keep (forgotten s) s.sales) (prefix_len (λ (x : SaleRow). not (is_held x.state)) s.sales) bounds.2; few = omega (arith, bounds.1, h.few_forgotten) }

pub kept_are_left : (keep : ℕ) (s : State) → min keep (length s.sales) ≤ length (forget keep s).sales
kept_are_left keep s = omega (arith, length-drop (forgettable keep (forgotten s) s.sales) s.sales)

pub kept_goes_on : (keep : ℕ) (read behind : List Effect) (s after : State) → state_of read ≡ Some s → all_applied behind s ≡ Some after
    → (n : ℕ) × CanBeGone n after × (state_of (kept_effects (forget keep s) ++ behind) ≡ Some (forget_first n after))
kept_goes_on keep read behind s after e k =
    let h = made_consistent read s e in
    let x = goes_on behind s after (forgettable keep (forgotten s) s.sales) h (kept_can_be_gone keep s h) k in
    (x.left, x.can, all_applied_both (kept_effects (forget keep s)) behind empty ∙ ap (option_and_then (all_applied behind)) (kept_made (forget keep s) (forget_kept keep s h)) ∙ x.leads)

-- the same, where all effects together lead to the whole exchange
pub whole_goes_on : (keep : ℕ) (read behind : List Effect) (s after : State) → state_of read ≡ Some s → state_of (read ++ behind) ≡ Some after
    → (n : ℕ) × CanBeGone n after × (state_of (kept_effects (forget keep s) ++ behind) ≡ Some (forget_first n after))
whole_goes_on keep read behind s after e k = kept_goes_on keep read behind s after e (sym (all_applied_both read behind empty ∙ ap (option_and_then (all_applied behind)) e) ∙ k)
