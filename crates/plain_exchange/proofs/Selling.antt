-- The sales of an auction, applied again one after the other, are the sales of all its awards.
use Rattle.std.proofs.Common.{◌≡◌, ℕ, suc, ◌+◌, ◌≤◌, ◌&&◌, cond, Bool, true, false, List, [], ◌∷◌, ◌++◌, length, map, refl, sym, ◌∙◌, ap, subst, arith, append_assoc, length-append, Option, Some, None, option_to_list}
use Rattle.std.specs.Prelude.{fold, option_map, option_and_then}
use Rattle.std.specs.List.{enumerate_from}
use Rattle.std.proofs.lemmas.Bool.{le-leb}
use Rattle.std.proofs.lemmas.List.{append-nil, length-map, map-append}
use Rattle.clearing.specs.declared.Win.{Win}
use Rattle.deal_rules.specs.Terms.{user_of}
use Rattle.plain_exchange.specs.declared.changes.SoldItem.{SoldItem}
use Rattle.plain_exchange.specs.Auction.{Award, award_next, awards_of, sale_of, sales_of, win}
use Rattle.plain_exchange.specs.Effects.{can_pay, has_room, sale_by, with_items}
use Rattle.plain_exchange.specs.declared.settings.Settings.{Settings}
use Rattle.plain_exchange.specs.State.{State, most_sales, with_sales}
use Rattle.plain_exchange.specs.Step.{item_of}
use Rattle.plain_exchange.proofs.Paying.{winner_can_pay}
use Rattle.rtb_types.specs.declared.request.BidRequest.{BidRequest}
use Rattle.rtb_types.specs.declared.request.Imp.{Imp}

-- what each turn of a fold keeps
pub fold_keeps : {A B : Type 0} (P : B → Type 0) (f : B → A → B) → ((b : B) (x : A) → P b → P (f b x)) → (xs : List A) (b : B) → P b → P (fold f b xs)
fold_keeps P f h [] b p = p
fold_keeps P f h (x ∷ xs) b p = fold_keeps P f h xs (f b x) (h b x p)

-- ---- items

items_both : (m : ℕ) (user : Option (List ℕ)) (xs ys : List SoldItem) (s : State) → with_items m user (xs ++ ys) s ≡ option_and_then (with_items m user ys) (with_items m user xs s)
items_both m user [] ys s = refl
items_both m user (x ∷ xs) ys s =
    by_test (can_pay s x.campaign x.price && has_room s) _ _ (with_items m user ys) (items_both m user xs ys (with_sales s (sale_by m user x ∷ [])))
  where
    by_test : (b : Bool) (one rest : Option State) (f : State → Option State) → one ≡ option_and_then f rest → cond b one None ≡ option_and_then f (cond b rest None)
    by_test true one rest f e = e
    by_test false one rest f e = refl

one_item : (m : ℕ) (user : Option (List ℕ)) (x : SoldItem) (s : State) → can_pay s x.campaign x.price ≡ true → has_room s ≡ true → with_items m user (x ∷ []) s ≡ Some (with_sales s (sale_by m user x ∷ []))
one_item m user x s pays room = ap (λ b. cond b (Some (with_sales s (sale_by m user x ∷ []))) None) (ap (λ b. b && has_room s) pays ∙ room)

-- ---- awards

abbrev items_of : Settings → ℕ → List Award → List SoldItem
items_of settings m awards = map (item_of settings m) awards

-- these awards are sold, where the list has room for them
abbrev AreSold : Settings → ℕ → BidRequest → State → List Award → Type 0
AreSold settings m r s awards = length s.sales + length awards ≤ most_sales → with_items m (user_of r) (items_of settings m awards) s ≡ Some (with_sales s (sales_of settings m r awards))

with_none : (s : State) → with_sales s [] ≡ s
with_none s = ap (λ l. record s { sales = l }) (append-nil s.sales)

one_more : (settings : Settings) (m : ℕ) (r : BidRequest) (s : State) (awards : List Award) (a : Award) → can_pay (with_sales s (sales_of settings m r awards)) a.1.campaign a.1.price ≡ true
    → AreSold settings m r s awards → AreSold settings m r s (awards ++ a ∷ [])
one_more settings m r s awards a pays sold few =
    let front = with_sales s (sales_of settings m r awards) in
    let user = user_of r in
    let more : length (awards ++ a ∷ []) ≡ length awards + 1 = length-append awards (a ∷ []) in
    let long : length front.sales ≡ length s.sales + length awards = length-append s.sales (sales_of settings m r awards) ∙ ap (λ n. length s.sales + n) (length-map awards (sale_of settings m r)) in
    let room : has_room front ≡ true = le-leb (suc (length front.sales)) most_sales (omega (arith, few, more, long)) in
    ap (λ l. with_items m user l s) (map-append (item_of settings m) awards (a ∷ []))
    ∙ items_both m user (items_of settings m awards) (item_of settings m a ∷ []) s
    ∙ ap (option_and_then (with_items m user (item_of settings m a ∷ []))) (sold (omega (arith, few, more)))
    ∙ one_item m user (item_of settings m a) front pays room
    ∙ ap (λ l. Some (record s { sales = l })) (append_assoc s.sales (sales_of settings m r awards) (sale_of settings m r a ∷ []) ∙ ap (λ l. s.sales ++ l) (sym (map-append (sale_of settings m r) awards (a ∷ []))))

next_sold : (settings : Settings) (m : ℕ) (r : BidRequest) (s : State) (awards : List Award) (p : ℕ × Imp) → AreSold settings m r s awards → AreSold settings m r s (award_next settings m r s awards p)
next_sold settings m r s awards p sold = by_win (win (with_sales s (sales_of settings m r awards)) r p.1 m) settings m r s awards p refl sold
  where
    by_win : (o : Option Win) (settings : Settings) (m : ℕ) (r : BidRequest) (s : State) (awards : List Award) (p : ℕ × Imp) → win (with_sales s (sales_of settings m r awards)) r p.1 m ≡ o
        → AreSold settings m r s awards → AreSold settings m r s (awards ++ option_to_list (option_map (λ (w : Win). (p.0, w)) o))
    by_win None settings m r s awards p e sold = subst (AreSold settings m r s) (sym (append-nil awards)) sold
    by_win (Some w) settings m r s awards p e sold = one_more settings m r s awards (p.0, w) (winner_can_pay (with_sales s (sales_of settings m r awards)) r p.1 m w e) sold

pub awards_sold : (settings : Settings) (m : ℕ) (r : BidRequest) (s : State) → length s.sales + length (awards_of settings m r s) ≤ most_sales
    → with_items m (user_of r) (map (item_of settings m) (awards_of settings m r s)) s ≡ Some (with_sales s (sales_of settings m r (awards_of settings m r s)))
awards_sold settings m r s = fold_keeps (AreSold settings m r s) (award_next settings m r s) (next_sold settings m r s) (enumerate_from 0 r.imps) [] (λ few. ap (λ (t : State). Some t) (sym (with_none s)))
