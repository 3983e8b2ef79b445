-- What is answered as sold is in the list, under its number.
use Rattle.std.proofs.Common.{◌≡◌, ℕ, zero, suc, ◌+◌, ◌-◌, cond, List, [], ◌∷◌, ◌++◌, length, ◌∙◌, ap, subst, arith, Option, Some, None}
use Rattle.std.specs.Prelude.{nat_lt, option_map, slice_get}
use Rattle.std.specs.List.{enumerate_from}
use Rattle.std.proofs.lemmas.Bool.{lt-leb}
use Rattle.std.proofs.lemmas.Option.{slice_get-map}
use Rattle.budget_book.specs.declared.sales.SaleState.TheVariants.{Held}
use Rattle.plain_exchange.specs.declared.commands.Command.TheVariants as command
use Rattle.plain_exchange.specs.declared.commands.Reply.TheVariants as reply
use Rattle.plain_exchange.specs.declared.commands.Sold.{Sold}
use Rattle.deal_rules.specs.Terms.{user_of}
use Rattle.plain_exchange.specs.Auction.{Award, awards_of, due_at, sale_of, sales_of}
use Rattle.plain_exchange.specs.declared.settings.Settings.{Settings}
use Rattle.plain_exchange.specs.State.{Campaign, State, campaign_at, forgotten, limit_of, record_of, sale_numbered, swept, with_sales}
use Rattle.plain_exchange.specs.Step.{Transition, all_sold_as, auction, deal_of, sold_as, step}
use Rattle.plain_exchange.proofs.Cases.{by_test}
use Rattle.plain_exchange.proofs.Each.{At, Each, each_filtered, each_numbered, some_same}
use Rattle.rtb_types.specs.declared.request.BidRequest.{BidRequest}

behind : {A : Type 0} (front back : List A) (i : ℕ) → slice_get (front ++ back) (length front + i) ≡ slice_get back i
behind [] back i = ap (slice_get back) (omega arith)
behind (x ∷ front) back i = let next : suc (length front) + i ≡ suc (length front + i) = omega arith in ap (slice_get (x ∷ (front ++ back))) next ∙ behind front back i

-- the held sale that the answer tells of
abbrev pub IsListed : Settings → ℕ → BidRequest → State → Sold → Type 0
IsListed settings m r after x = sale_numbered after x.sale ≡ Some (record { campaign = x.campaign; price = x.price; moment = m; due = due_at settings.ttl m; state = Held; user = user_of r })

new_sale : (settings : Settings) (m : ℕ) (r : BidRequest) (s : State) (awards : List Award) (i : ℕ) (a : Award) → slice_get awards i ≡ Some a
    → sale_numbered (with_sales s (sales_of settings m r awards)) (forgotten s + length s.sales + 1 + i) ≡ Some (sale_of settings m r a)
new_sale settings m r s awards i a at =
    let n : ℕ = forgotten s + length s.sales + 1 + i in
    let all = s.sales ++ sales_of settings m r awards in
    let place : n - forgotten s - 1 ≡ length s.sales + i = omega arith in
    ap (λ b. cond b None (slice_get all (n - forgotten s - 1))) (lt-leb n (forgotten s) (omega arith))
    ∙ ap (slice_get all) place
    ∙ behind s.sales (sales_of settings m r awards) i
    ∙ slice_get-map (sale_of settings m r) awards i
    ∙ ap (option_map (sale_of settings m r)) at

told : (settings : Settings) (m : ℕ) (r : BidRequest) (s after : State) (n : ℕ) (a : Award) (o : Option Campaign) → sale_numbered after n ≡ Some (sale_of settings m r a)
    → At (IsListed settings m r after) (option_map (λ (c : Campaign). record { imp = a.0; sale = n; price = a.1.price; deal = deal_of r a.0 a.1.pool; campaign = a.1.campaign; «record» = record_of c }) o)
told settings m r s after n a None e = tt
told settings m r s after n a (Some c) e = e

all_told : (settings : Settings) (m : ℕ) (r : BidRequest) (s : State) (awards : List Award) → Each (IsListed settings m r (with_sales s (sales_of settings m r awards))) (all_sold_as s r awards)
all_told settings m r s awards =
    let after = with_sales s (sales_of settings m r awards) in
    let first = forgotten s + length s.sales + 1 in
    each_filtered (IsListed settings m r after) (sold_as s r) (enumerate_from first awards)
    (each_numbered (λ p. At (IsListed settings m r after) (sold_as s r p)) first awards (λ i a at.
    told settings m r s after (first + i) a (campaign_at s a.1.campaign) (new_sale settings m r s awards i a at)))

-- what the reply tells of, where it tells of sales
abbrev IsTold : Settings → ℕ → BidRequest → Transition → Type 0
IsTold settings m r t = (sold : List Sold) → t.reply ≡ reply.Sold sold → Each (IsListed settings m r t.after) sold

auction_told : (settings : Settings) (m : ℕ) (r : BidRequest) (s : State) (awards : List Award) → IsTold settings m r (auction settings m r s awards)
auction_told settings m r s [] = λ sold e. cc
auction_told settings m r s (a ∷ awards) = by_test (IsTold settings m r) (nat_lt (limit_of settings) (length s.sales + length (a ∷ awards))) _ _
    (λ full sold e. cc)
    (λ room sold e. let same : all_sold_as s r (a ∷ awards) ≡ sold = cc in subst (Each (IsListed settings m r (with_sales s (sales_of settings m r (a ∷ awards))))) same (all_told settings m r s (a ∷ awards)))

each_place : {A : Type 0} (P : A → Type 0) (xs : List A) → Each P xs → (i : ℕ) (x : A) → slice_get xs i ≡ Some x → P x
each_place P [] h i x e = cc
each_place P (y ∷ xs) h zero x e = subst P (some_same y x e) h.0
each_place P (y ∷ xs) h (suc i) x e = each_place P xs h.1 i x e

pub sold_is_listed : (settings : Settings) (m : ℕ) (s : State) (r : BidRequest) (sold : List Sold) (i : ℕ) (x : Sold) → (step settings m s (command.Auction r)).reply ≡ reply.Sold sold → slice_get sold i ≡ Some x
    → IsListed settings m r (step settings m s (command.Auction r)).after x
sold_is_listed settings m s r sold i x e at =
    each_place (IsListed settings m r (step settings m s (command.Auction r)).after) sold (auction_told settings m r (swept m s) (awards_of settings m r (swept m s)) sold e) i x at
