-- A candidate that may not pay beside awards may not pay beside these and more.
use Rattle.std.proofs.Common.{◌≡◌, ◌≤◌, ◌+◌, ◌&&◌, ◌++◌, ℕ, List, [], ◌∷◌, Bool, true, false, not, Option, Some, None, option_map, refl, ◌∙◌, ap, arith, nat_le, cond, take}
use Rattle.std.specs.Prelude.{sum_by, ◌==◌}
use Rattle.std.specs.List.{list_all}
use Rattle.std.specs.Option.{option_map_or}
use Rattle.std.proofs.lemmas.Bool.{and_parts, false≢true, le-leb, leb-true}
use Rattle.std.proofs.lemmas.Bool.Decides.{nat_tests}
use Rattle.std.proofs.lemmas.List.{map-append}
use Rattle.std.proofs.lemmas.List.Sums.{sum_by-append}
use Rattle.auction_core.specs.Auctions.{awards_cost, beside}
use Rattle.auction_core.specs.Core.{CoreState}
use Rattle.auction_core.specs.Found.{is_touched, may_be_sold}
use Rattle.auction_core.specs.Payers.{pays, pays_as}
use Rattle.auction_core.proofs.Auctioning.{free_drawn}
use Rattle.budget_book.specs.Sales.{is_shown, shown_of}
use Rattle.budget_book.specs.declared.sales.SaleRow.{SaleRow}
use Rattle.campaign.specs.Caps.{CapTerms}
use Rattle.clearing.specs.Candidates.{IsRefused}
use Rattle.clearing.specs.declared.Offer.{Offer}
use Rattle.deal_rules.specs.Offers.{may_pay}
use Rattle.deal_rules.specs.Rules.{is_over}
use Rattle.deal_rules.specs.Terms.{user_of}
use Rattle.plain_exchange.specs.Auction.{Award, sale_of, sales_of}
use Rattle.plain_exchange.specs.State.{Campaign, State, campaign_at, free, swept}
use Rattle.rtb_types.specs.declared.request.BidRequest.{BidRequest}

-- ---- less is free, and more was shown

abbrev cost_for : ℕ → Award → ℕ
cost_for n a = cond (a.1.campaign == n) a.1.price 0

less_free : (core : CoreState) (r : BidRequest) (m n : ℕ) (c : Campaign) (awards more : List Award) → free (beside core.settings m r core.state (awards ++ more)) n c ≤ free (beside core.settings m r core.state awards) n c
less_free core r m n c awards more =
    let all : awards_cost n (awards ++ more) ≡ awards_cost n awards + awards_cost n more = sum_by-append (cost_for n) awards more in
    omega (arith, free_drawn core.settings m r n core.state c (awards ++ more), free_drawn core.settings m r n core.state c awards, all)

abbrev shows : ℕ → List ℕ → ℕ → ℕ → SaleRow → ℕ
shows n user seconds m s = cond (is_shown n user seconds m s) 1 0

more_shown : (core : CoreState) (r : BidRequest) (m n seconds : ℕ) (user : List ℕ) (awards more : List Award)
    → shown_of n user seconds m (beside core.settings m r core.state awards).sales ≤ shown_of n user seconds m (beside core.settings m r core.state (awards ++ more)).sales
more_shown core r m n seconds user awards more =
    let test = shows n user seconds m in
    let before = (swept m core.state).sales in
    omega (
      arith,
      sum_by-append test before (sales_of core.settings m r awards),
      sum_by-append test before (sales_of core.settings m r (awards ++ more)),
      ap (sum_by test) (map-append (sale_of core.settings m r) awards more),
      sum_by-append test (sales_of core.settings m r awards) (sales_of core.settings m r more),
    )

-- ---- a cap that leaves a sale beside more awards leaves one beside fewer

under : (few many count : ℕ) → few ≤ many → nat_le count many ≡ false → nat_le count few ≡ false
under few many count le e = grind (arith, nat_tests)

-- whether the cap leaves none in the state
abbrev is_over_in : State → ℕ → ℕ → Option (List ℕ) → Option CapTerms → Bool
is_over_in t m n user cap = option_map_or (is_over (option_map (λ (u : List ℕ). option_map_or (λ (k : CapTerms). shown_of n u k.seconds m t.sales) cap 0) user)) cap false

cap_falls : (core : CoreState) (r : BidRequest) (m n : ℕ) (awards more : List Award) (user : Option (List ℕ)) (cap : Option CapTerms)
    → is_over_in (beside core.settings m r core.state (awards ++ more)) m n user cap ≡ false → is_over_in (beside core.settings m r core.state awards) m n user cap ≡ false
cap_falls core r m n awards more user None h = refl
cap_falls core r m n awards more None (Some k) h = h
cap_falls core r m n awards more (Some u) (Some k) h =
    under (shown_of n u k.seconds m (beside core.settings m r core.state awards).sales) (shown_of n u k.seconds m (beside core.settings m r core.state (awards ++ more)).sales) k.count (more_shown core r m n k.seconds u awards more) h

-- ---- who may pay

not_true : (b : Bool) → not b ≡ true → b ≡ false
not_true true e = absurd (false≢true e)
not_true false e = refl

pays_with : (bid least left : ℕ) (over fewer : Bool) → least ≤ left → (over ≡ false → fewer ≡ false) → (nat_le bid least && not over) ≡ true → (nat_le bid left && not fewer) ≡ true
pays_with bid least left over fewer le caps h =
    let parts = and_parts (nat_le bid least) (not over) h in
    let low = leb-true bid least parts.0 in
    ap (λ (b : Bool). b && not fewer) (le-leb bid left (omega (arith, low, le))) ∙ ap not (caps (not_true over parts.1))

campaign_falls : (core : CoreState) (r : BidRequest) (m n : ℕ) (c : Campaign) (awards more : List Award)
    → pays_as (beside core.settings m r core.state (awards ++ more)) r m n c ≡ true → pays_as (beside core.settings m r core.state awards) r m n c ≡ true
unfolding may_pay
campaign_falls core r m n c awards more h =
    let t = beside core.settings m r core.state awards in
    let u = beside core.settings m r core.state (awards ++ more) in
    pays_with c.facts.bid (free u n c) (free t n c) (is_over_in u m n (user_of r) c.facts.cap) (is_over_in t m n (user_of r) c.facts.cap)
    (less_free core r m n c awards more) (cap_falls core r m n awards more (user_of r) c.facts.cap) h

there_falls : (core : CoreState) (r : BidRequest) (m n : ℕ) (awards more : List Award) (c : Option Campaign)
    → option_map_or (pays_as (beside core.settings m r core.state (awards ++ more)) r m n) c false ≡ true → option_map_or (pays_as (beside core.settings m r core.state awards) r m n) c false ≡ true
there_falls core r m n awards more None h = h
there_falls core r m n awards more (Some c) h = campaign_falls core r m n c awards more h

sold_falls : (core : CoreState) (touched : List ℕ) (r : BidRequest) (m : ℕ) (awards more : List Award) (o : Offer) → may_be_sold core touched r m (awards ++ more) o ≡ true → may_be_sold core touched r m awards o ≡ true
sold_falls core touched r m awards more o h =
    let parts = and_parts (not (is_touched touched o.campaign)) (pays core r m (awards ++ more) o) h in
    ap (λ (b : Bool). b && pays core r m awards o) parts.0 ∙ there_falls core r m o.campaign awards more (campaign_at core.state o.campaign) parts.1

-- ---- candidates that are refused

contrary : (few many : Bool) → (many ≡ true → few ≡ true) → not few ≡ true → not many ≡ true
contrary few false h k = refl
contrary true true h k = k
contrary false true h k = absurd (false≢true (h refl))

all_weaker : {A : Type 0} (p q : A → Bool) (xs : List A) → ((x : A) → p x ≡ true → q x ≡ true) → list_all p xs ≡ true → list_all q xs ≡ true
all_weaker p q [] h k = refl
all_weaker p q (x ∷ xs) h k =
    let (first, rest) = and_parts (p x) (list_all p xs) k in
    ap (λ (b : Bool). b && list_all q xs) (h x first) ∙ all_weaker p q xs h rest

pub still_refused : (core : CoreState) (touched : List ℕ) (r : BidRequest) (m : ℕ) (awards more : List Award) (cs : List Offer) (k : ℕ) → IsRefused (may_be_sold core touched r m awards) cs k → IsRefused (may_be_sold core touched r m (awards ++ more)) cs k
still_refused core touched r m awards more cs k (within, all) = (
  within,
  all_weaker (λ (o : Offer). not (may_be_sold core touched r m awards o)) (λ (o : Offer). not (may_be_sold core touched r m (awards ++ more) o)) (take k cs)
      (λ o h. contrary (may_be_sold core touched r m awards o) (may_be_sold core touched r m (awards ++ more) o) (sold_falls core touched r m awards more o) h) all,
)
