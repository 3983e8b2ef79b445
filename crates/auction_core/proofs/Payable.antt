-- What comes of an auction.
use Rattle.std.proofs.Common.{◌≡◌, ◌≢◌, ℕ, suc, ◌+◌, ◌<◌, ◌≤◌, ◌&&◌, cond, eqb, true, false, List, [], ◌∷◌, length, map, refl, ap, sym, ◌∙◌, subst, arith}
use Rattle.std.specs.Prelude.{nat_le, nat_lt}
use Rattle.std.specs.List.{enumerate_from, filter_map, list_all}
use Rattle.std.proofs.lemmas.Bool.{and_parts, eqb-true, false≢true, le-leb, leb-true, lt-leb, ltb-false}
use Rattle.std.proofs.lemmas.List.{length-map}
use Rattle.auction_core.specs.Auctions.{award_outcome, selling}
use Rattle.auction_core.specs.Outcomes.{IsOutcome, does, told_alone}
use Rattle.deal_rules.specs.Terms.{user_of}
use Rattle.budget_book.specs.Sales.{expired_at}
use Rattle.campaign_store.specs.declared.limit.Limit.TheVariants.{Sales}
use Rattle.plain_exchange.specs.declared.settings.Settings.{Settings}
use Rattle.plain_exchange.specs.declared.commands.Reply.TheVariants as reply
use Rattle.plain_exchange.specs.Auction.{Award, awards_of, sales_of}
use Rattle.plain_exchange.specs.State.{State, forgotten, limit_of, swept, with_sales}
use Rattle.plain_exchange.specs.Step.{Transition, all_sold_as, auction, changing, item_of, sell, sold_as, sold_change, unchanged}
use Rattle.auction_core.specs.declared.outcome.Outcome.{Outcome}
use Rattle.plain_exchange.proofs.Cases.{by_test}
use Rattle.rtb_types.specs.declared.request.BidRequest.{BidRequest}
use Rattle.rtb_types.specs.Valid.{has_valid_deals, is_from, is_valid}

-- a valid request has few impressions
pub few_imps : (r : BidRequest) → is_valid r ≡ true → length r.imps ≤ 64
few_imps r valid =
    let first = and_parts (is_from 1 2 r.at) (is_from 1 64 (length r.imps) && list_all has_valid_deals r.imps) valid in
    let second = and_parts (is_from 1 64 (length r.imps)) (list_all has_valid_deals r.imps) first.1 in
    let third = and_parts (nat_le 1 (length r.imps)) (nat_le (length r.imps) 64) second.0 in
    leb-true (length r.imps) 64 third.1

-- ---- what an auction does

-- the numbers of the sales are the same before sales expire
sold_swept : (m : ℕ) (r : BidRequest) (s : State) (awards : List Award) → all_sold_as s r awards ≡ all_sold_as (swept m s) r awards
sold_swept m r s awards = ap (λ n. filter_map (sold_as s r) (enumerate_from (forgotten s + n + 1) awards)) (sym (length-map s.sales (expired_at m)))

abbrev by_awards : Settings → ℕ → BidRequest → State → List Award → Transition
by_awards settings m r s awards = changing (with_sales s (sales_of settings m r awards)) (reply.Sold (all_sold_as s r awards)) (sold_change (user_of r) (map (item_of settings m) awards))

not_full : (settings : Settings) (m : ℕ) (r : BidRequest) (s : State) (awards : List Award) → length s.sales + length awards ≤ limit_of settings → sell settings m r s awards ≡ by_awards settings m r s awards
not_full settings m r s awards few = ap (λ b. cond b (unchanged s (reply.Full Sales)) (by_awards settings m r s awards)) (lt-leb (suc (limit_of settings)) (length s.sales + length awards) (omega (arith, few)))

is_full : (settings : Settings) (m : ℕ) (r : BidRequest) (s : State) (awards : List Award) → limit_of settings < length s.sales + length awards → sell settings m r s awards ≡ unchanged s (reply.Full Sales)
is_full settings m r s awards many = ap (λ b. cond b (unchanged s (reply.Full Sales)) (by_awards settings m r s awards)) (le-leb (suc (limit_of settings)) (length s.sales + length awards) (omega (arith, many)))

some_sell : (settings : Settings) (m : ℕ) (r : BidRequest) (s : State) (awards : List Award) → awards ≢ [] → auction settings m r s awards ≡ sell settings m r s awards
some_sell settings m r s [] some = absurd (some refl)
some_sell settings m r s (a ∷ awards) some = refl

many_swept : (m : ℕ) (s : State) → length (swept m s).sales ≡ length s.sales
many_swept m s = length-map s.sales (expired_at m)

-- nobody wins, the list would be too long, or all is sold
pub none_sold : (settings : Settings) (m : ℕ) (r : BidRequest) (s : State) (awards : List Award) → awards ≡ awards_of settings m r (swept m s) → awards ≡ []
    → IsOutcome (auction settings m r (swept m s) (awards_of settings m r (swept m s))) (told_alone reply.NoBid)
none_sold settings m r s awards e none =
    subst (λ ds. IsOutcome (auction settings m r (swept m s) ds) (told_alone reply.NoBid)) (sym none ∙ e) (record { reply = refl; change = refl })

pub too_many_sold : (settings : Settings) (m : ℕ) (r : BidRequest) (s : State) (awards : List Award) → awards ≡ awards_of settings m r (swept m s) → awards ≢ [] → limit_of settings < length s.sales + length awards
    → IsOutcome (auction settings m r (swept m s) (awards_of settings m r (swept m s))) (told_alone (reply.Full Sales))
too_many_sold settings m r s awards e some many =
    let u = swept m s in
    let is : auction settings m r u awards ≡ unchanged u (reply.Full Sales) = some_sell settings m r u awards some ∙ is_full settings m r u awards (omega (arith, many, many_swept m s)) in
    subst (λ t. IsOutcome t (told_alone (reply.Full Sales))) (sym is ∙ ap (auction settings m r u) e) (record { reply = refl; change = refl })

pub all_are_sold : (settings : Settings) (m : ℕ) (r : BidRequest) (s : State) (awards : List Award) → awards ≡ awards_of settings m r (swept m s) → awards ≢ [] → length s.sales + length awards ≤ limit_of settings
    → IsOutcome (auction settings m r (swept m s) (awards_of settings m r (swept m s))) (does (reply.Sold (all_sold_as s r awards)) (sold_change (user_of r) (map (item_of settings m) awards)))
all_are_sold settings m r s awards e some few =
    let u = swept m s in
    let is : auction settings m r u awards ≡ by_awards settings m r u awards = some_sell settings m r u awards some ∙ not_full settings m r u awards (omega (arith, few, many_swept m s)) in
    subst (λ t. IsOutcome t (does (reply.Sold (all_sold_as s r awards)) (sold_change (user_of r) (map (item_of settings m) awards)))) (sym is ∙ ap (auction settings m r u) e)
    (record {
      reply = ap (λ l. reply.Sold l) (sold_swept m r s awards);
      change = refl;
    })

-- ---- what comes of the awards of an auction

none_of_none : (awards : List Award) → length awards ≡ 0 → awards ≡ []
none_of_none [] e = refl
none_of_none (a ∷ awards) e = absurd (omega (arith, e))

some_of_some : (awards : List Award) → eqb (length awards) 0 ≡ false → awards ≢ []
some_of_some awards e none = false≢true (sym e ∙ ap (λ l. eqb (length l) 0) none)

awarded_as : (settings : Settings) (m : ℕ) (r : BidRequest) (s : State) (awards : List Award) → awards ≡ awards_of settings m r (swept m s)
    → IsOutcome (auction settings m r (swept m s) (awards_of settings m r (swept m s))) (award_outcome settings m r s awards)
awarded_as settings m r s awards e =
    by_test (λ (o : Outcome). IsOutcome (auction settings m r (swept m s) (awards_of settings m r (swept m s))) o) (eqb (length awards) 0) (told_alone reply.NoBid)
    (cond (nat_lt (limit_of settings) (length s.sales + length awards)) (told_alone (reply.Full Sales)) (selling settings m r s awards))
    (λ none. none_sold settings m r s awards e (none_of_none awards (eqb-true (length awards) 0 none)))
    (λ some. by_test (λ (o : Outcome). IsOutcome (auction settings m r (swept m s) (awards_of settings m r (swept m s))) o) (nat_lt (limit_of settings) (length s.sales + length awards)) (told_alone (reply.Full Sales)) (selling settings m r s awards)
    (λ many. too_many_sold settings m r s awards e (some_of_some awards some) (leb-true (suc (limit_of settings)) (length s.sales + length awards) many))
    (λ few. all_are_sold settings m r s awards e (some_of_some awards some) (ltb-false (limit_of settings) (length s.sales + length awards) few)))

pub awarded_is : (settings : Settings) (m : ℕ) (r : BidRequest) (s : State) (awards : List Award) (o : Outcome) → awards ≡ awards_of settings m r (swept m s) → o ≡ award_outcome settings m r s awards
    → IsOutcome (auction settings m r (swept m s) (awards_of settings m r (swept m s))) o
awarded_is settings m r s awards o e is = subst (λ (x : Outcome). IsOutcome (auction settings m r (swept m s) (awards_of settings m r (swept m s))) x) (sym is) (awarded_as settings m r s awards e)
