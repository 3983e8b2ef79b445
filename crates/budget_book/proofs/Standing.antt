-- A book stays one.
use Rattle.std.proofs.Common.{◌≡◌, ℕ, zero, suc, Bool, true, false, ◌&&◌, ◌||◌, eqb, Option, Some, None, ◌+◌, ◌-◌, ◌<◌, ◌≤◌, List, [], ◌∷◌, ◌++◌, length, get_or, set, take, drop, refl, sym, ◌∙◌, ap, subst, arith}
use Rattle.std.proofs.lemmas.List.{length-map, take-append-le, take_all, length-set, length_push, map-append, get_or-map}
use Rattle.std.proofs.lemmas.List.Sums.{get_or-le-sum_by, sum_by-cons}
use Rattle.std.specs.Prelude.{nat_le, cond, slice_get, slice_set, option_map}
use Rattle.std.specs.Option.{option_map_or}
use Rattle.budget_book.specs.declared.sales.SaleFault.{SaleFault}
use Rattle.budget_book.specs.declared.sales.SaleFault.TheVariants.{Forgotten, NoSuchSale}
use Rattle.budget_book.specs.declared.sales.Totals.{Totals}
use Rattle.budget_book.specs.declared.sales.SaleState.{SaleState}
use Rattle.budget_book.specs.declared.sales.SaleState.TheVariants.{Held, Billed, Lost, Expired}
use Rattle.budget_book.specs.Sales.{committed_of, totals_of, sale_at, sale_fault, settled_in, state_in, gone_count, in_state, is_billed, is_billed_of, is_held, is_held_of, none_gone, prices}
use Rattle.budget_book.proofs.Chained.{chains_added, chains_plain}
use Rattle.budget_book.proofs.Expiring.{same_places, same_known}
use Rattle.budget_book.proofs.Moving.{all_added, same_campaigns, with_sale_funds}
use Rattle.budget_book.proofs.Waiting.{dues_moved, pick}
use Rattle.budget_book.specs.declared.account.Account.{Account}
use Rattle.budget_book.specs.declared.dues.Due.{Due}
use Rattle.budget_book.specs.declared.sales.SaleRow.{SaleRow}
use Rattle.budget_book.specs.Accounts.{AreAccounts, IsAccount, charge, fresh, with_sale}
use Rattle.budget_book.specs.Book.{IsBook, AreGoneFew, AreKnown, Funds, funds_of_all, funds_of, forgotten_of}
use Rattle.budget_book.specs.Dues.{AreDues}
use Rattle.budget_book.specs.Expiry.{IsExpiry}
use Rattle.budget_book.specs.LastSales.{distance, last_at}
use Rattle.budget_book.specs.Users.{AreChains, IsLinked, sale_place, places_of}

-- what stands in a vector after all its elements were lent
pub lent_back : {X : Type 0} (xs ys : List X) (n : ℕ) → length ys ≡ n → take n (ys ++ drop (length ys) xs) ≡ ys
lent_back xs ys n e = take-append-le n ys (drop (length ys) xs) (omega arith) ∙ take_all n ys (omega arith)

pub many_campaigns : (accounts : List Account) → length (funds_of_all accounts) ≡ length accounts
many_campaigns accounts = length-map accounts funds_of

pub book_swept : (m n f : ℕ) (accounts accounts2 : List Account) (rows rows2 : List SaleRow) (links : List ℕ) (dues dues2 : List Due) (lasts : List ℕ)
    → IsBook f accounts rows links dues lasts → IsExpiry m rows rows2 n → AreAccounts rows2 accounts2 → funds_of_all accounts2 ≡ funds_of_all accounts → AreDues f rows2 dues2
    → IsBook f accounts2 rows2 links dues2 lasts
book_swept m n f accounts accounts2 rows rows2 links dues dues2 lasts b e h same d =
    let many : length accounts2 ≡ length accounts = sym (many_campaigns accounts2) ∙ ap length same ∙ many_campaigns accounts in record {
      few = omega (arith, b.few, e.many);
      counted = b.counted ∙ ap forgotten_of (sym same);
      few_forgotten = b.few_forgotten;
      known = subst (λ k. AreKnown k rows2) (sym many) (e.known (length accounts) b.known);
      summed = h;
      awaited = d;
      chains = subst (λ pairs. AreChains f pairs links lasts) (sym e.places) b.chains;
    }

pub book_gone_few : (f : ℕ) (accounts : List Account) (rows : List SaleRow) (links : List ℕ) (dues : List Due) (lasts : List ℕ) → IsBook f accounts rows links dues lasts → AreGoneFew (funds_of_all accounts)
book_gone_few f accounts rows links dues lasts b k d l =
    let one : gone_count (get_or (funds_of_all accounts) k d).gone ≤ forgotten_of (funds_of_all accounts) = get_or-le-sum_by (λ (p : Funds). gone_count p.gone) (funds_of_all accounts) k d l in
    omega (arith, one, b.counted, b.few_forgotten)

-- what holds of all items and of one more behind them
all_pushed : {X : Type 0} (P : X → Type 0) (xs : List X) (y : X) → ((k : ℕ) (d : X) → k < length xs → P (get_or xs k d)) → P y → (k : ℕ) (d : X) → k < length (xs ++ y ∷ []) → P (get_or (xs ++ y ∷ []) k d)
all_pushed P [] y h p zero d w = p
all_pushed P [] y h p (suc k) d w = absurd (omega arith)
all_pushed P (x ∷ xs) y h p zero d w = h zero d (omega arith)
all_pushed P (x ∷ xs) y h p (suc k) d w = all_pushed P xs y (λ j e v. h (suc j) e (omega arith)) p k d (omega arith)

chains_linked : (f : ℕ) (rows : List SaleRow) (links : List ℕ) (lasts lasts2 : List ℕ) (y : SaleRow) (number back : ℕ) → number ≡ f + length rows + 1 → length rows < 67108864 → (o : Option ℕ) → sale_place y ≡ o → IsLinked lasts lasts2 o number back
    → AreChains f (places_of rows) links lasts → AreChains f (places_of (rows ++ y ∷ [])) (links ++ back ∷ []) lasts2
chains_linked f rows links lasts lasts2 y number back is few None group linked h =
    let all : places_of (rows ++ y ∷ []) ≡ places_of rows ++ None ∷ [] = map-append sale_place rows (y ∷ []) ∙ ap (λ o. places_of rows ++ o ∷ []) group in
    let same : lasts2 ≡ lasts = linked in
    subst (λ pairs. AreChains f pairs (links ++ back ∷ []) lasts2) (sym all)
    (subst (λ hs. AreChains f (places_of rows ++ None ∷ []) (links ++ back ∷ []) hs) (sym same) (chains_plain f (places_of rows) links lasts back h))
chains_linked f rows links lasts lasts2 y number back is few (Some g) group (was, new) h =
    let all : places_of (rows ++ y ∷ []) ≡ places_of rows ++ Some g ∷ [] = map-append sale_place rows (y ∷ []) ∙ ap (λ o. places_of rows ++ o ∷ []) group in
    let n : number ≡ f + length (places_of rows) + 1 = omega (arith, is, length-map rows sale_place) in
    let far : back ≡ distance (f + length (places_of rows) + 1) (last_at g lasts) = was ∙ ap (λ k. distance k (last_at g lasts)) n in
    subst (λ pairs. AreChains f pairs (links ++ back ∷ []) lasts2) (sym all)
    (chains_added f (places_of rows) links lasts lasts2 g back (omega (arith, few, length-map rows sale_place)) far (λ q. new q ∙ ap (λ k. cond (eqb q g) k (last_at q lasts)) n) h)

-- one more sale
pub book_added : (f : ℕ) (accounts : List Account) (b e : Account) (rows : List SaleRow) (y : SaleRow) (links : List ℕ) (dues dues2 : List Due) (lasts lasts2 : List ℕ) (back k : ℕ)
    → IsBook f accounts rows links dues lasts → length rows < 67108864 → y.campaign ≡ k + 1 → k < length accounts
    → (get_or accounts k e).reserved + (get_or accounts k e).spent + charge y.state y.price ≤ (get_or accounts k e).budget
    → b ≡ with_sale y.state y.price (get_or accounts k e)
    → AreDues f (rows ++ y ∷ []) dues2
    → IsLinked lasts lasts2 (sale_place y) (f + length rows + 1) back
    → IsBook f (set accounts k b) (rows ++ y ∷ []) (links ++ back ∷ []) dues2 lasts2
book_added f accounts b e rows y links dues dues2 lasts lasts2 back k h room number there pays is awaited linked =
    let purse : funds_of b ≡ funds_of (get_or accounts k e) = ap funds_of is ∙ with_sale_funds y.state y.price (get_or accounts k e) in
    let campaigns : funds_of_all (set accounts k b) ≡ funds_of_all accounts = same_campaigns accounts k b e there purse in record {
      few = omega (arith, room, length_push rows y);
      counted = h.counted ∙ ap forgotten_of (sym campaigns);
      few_forgotten = h.few_forgotten;
      known = subst (λ n. AreKnown n (rows ++ y ∷ [])) (sym (length-set accounts k b))
          (all_pushed (λ (s : SaleRow). (0 < s.campaign) × (s.campaign ≤ length accounts)) rows y h.known (omega (arith, number), omega (arith, number, there)));
      summed = all_added rows accounts k y b e h.summed number there pays is;
      awaited = awaited;
      chains = chains_linked f rows links lasts lasts2 y (f + length rows + 1) back refl room (sale_place y) refl linked h.chains;
    }

-- a held sale changes to another state, in place
pub book_settled : (f : ℕ) (accounts accounts2 : List Account) (rows : List SaleRow) (i : ℕ) (x : SaleRow) (to : SaleState) (links : List ℕ) (dues : List Due) (lasts : List ℕ)
    → IsBook f accounts rows links dues lasts → i < length rows → get_or rows i x ≡ x → is_held to ≡ false → AreAccounts (set rows i (in_state to x)) accounts2 → funds_of_all accounts2 ≡ funds_of_all accounts
    → IsBook f accounts2 (set rows i (in_state to x)) links dues lasts
book_settled f accounts accounts2 rows i x to links dues lasts h l at other sums same =
    let many : length accounts2 ≡ length accounts = sym (many_campaigns accounts2) ∙ ap length same ∙ many_campaigns accounts in record {
      few = omega (arith, h.few, length-set rows i (in_state to x));
      counted = h.counted ∙ ap forgotten_of (sym same);
      few_forgotten = h.few_forgotten;
      known = subst (λ k. AreKnown k (set rows i (in_state to x))) (sym many) (same_known (length accounts) rows i x to l at h.known);
      summed = sums;
      awaited = dues_moved f rows dues i (in_state to x) x l other (sym (ap (λ (s : SaleRow). s.due) at)) h.awaited;
      chains = subst (λ pairs. AreChains f pairs links lasts) (sym (same_places rows i x to l at)) h.chains;
    }

-- ---- sums, as the accounts have them

-- what is committed is what is reserved and spent
both_of : (c : ℕ) (rows : List SaleRow) → prices (λ (s : SaleRow). is_held_of c s || is_billed_of c s) rows ≡ prices (is_held_of c) rows + prices (is_billed_of c) rows
both_of c [] = refl
both_of c (s ∷ rows) =
    omega (
      arith,
      sum_by-cons (λ (s : SaleRow). pick (is_held_of c s || is_billed_of c s) s.price 0) s rows,
      sum_by-cons (λ (s : SaleRow). pick (is_held_of c s) s.price 0) s rows,
      sum_by-cons (λ (s : SaleRow). pick (is_billed_of c s) s.price 0) s rows,
      both_of c rows,
      by_state (eqb s.campaign c) s.state s.price,
    )
  where
    by_state : (own : Bool) (st : SaleState) (p : ℕ) → pick ((own && is_held st) || (own && is_billed st)) p 0 ≡ pick (own && is_held st) p 0 + pick (own && is_billed st) p 0
    by_state false st p = omega arith
    by_state true Held p = omega arith
    by_state true Billed p = omega arith
    by_state true Lost p = omega arith
    by_state true Expired p = omega arith

pub committed_is : (c : ℕ) (rows : List SaleRow) (a : Account) → IsAccount c rows a → committed_of c a.gone rows ≡ a.reserved + a.spent
committed_is c rows a h = omega (arith, both_of c rows, h.reserved, h.spent)

pub funds_at : (accounts : List Account) (k : ℕ) (d : Account) (e : Funds) → k < length accounts → get_or (funds_of_all accounts) k e ≡ funds_of (get_or accounts k d)
funds_at accounts k d e l = get_or-map funds_of accounts k d e l

-- the account of campaign c
pub account_at : (rows : List SaleRow) (accounts : List Account) (c : ℕ) (a : Account) → AreAccounts rows accounts → 1 ≤ c → c ≤ length accounts → a ≡ get_or accounts (c - 1) a → IsAccount c rows a
account_at rows accounts c a h low high is =
    let number : (c - 1) + 1 ≡ c = omega arith in
    subst (λ n. IsAccount n rows a) number (subst (λ b. IsAccount ((c - 1) + 1) rows b) (sym is) (h (c - 1) a (omega arith)))

-- the purse of campaign c, by its account
pub purse_is : (accounts : List Account) (c : ℕ) (a : Account) (d : Funds) → 1 ≤ c → c ≤ length accounts → a ≡ get_or accounts (c - 1) a → get_or (funds_of_all accounts) (c - 1) d ≡ funds_of a
purse_is accounts c a d low high is = funds_at accounts (c - 1) a d (omega arith) ∙ ap funds_of (sym is)

-- what campaign c can still spend, by its account
pub free_is : (rows : List SaleRow) (accounts : List Account) (c : ℕ) (a : Account) (d : Funds) → AreAccounts rows accounts → 1 ≤ c → c ≤ length accounts → a ≡ get_or accounts (c - 1) a
    → ((get_or (funds_of_all accounts) (c - 1) d).budget ≡ a.budget) × (committed_of c (get_or (funds_of_all accounts) (c - 1) d).gone rows ≡ a.reserved + a.spent)
free_is rows accounts c a d h low high is =
    let same : get_or (funds_of_all accounts) (c - 1) d ≡ funds_of a = purse_is accounts c a d low high is in
    (ap (λ (p : Funds). p.budget) same, ap (λ (p : Funds). committed_of c p.gone rows) same ∙ committed_is c rows a (account_at rows accounts c a h low high is))

abbrev made : ℕ → ℕ → ℕ → ℕ → ℕ → ℕ → Totals
made r s h b l e = record { reserved = r; spent = s; held = h; billed = b; lost = l; expired = e }

totals_from : (a b : Totals) → a.reserved ≡ b.reserved → a.spent ≡ b.spent → a.held ≡ b.held → a.billed ≡ b.billed → a.lost ≡ b.lost → a.expired ≡ b.expired → a ≡ b
totals_from a b p q r s t u =
    ap (λ x. made x a.spent a.held a.billed a.lost a.expired) p ∙ ap (λ x. made b.reserved x a.held a.billed a.lost a.expired) q ∙ ap (λ x. made b.reserved b.spent x a.billed a.lost a.expired) r
    ∙ ap (λ x. made b.reserved b.spent b.held x a.lost a.expired) s ∙ ap (λ x. made b.reserved b.spent b.held b.billed x a.expired) t ∙ ap (λ x. made b.reserved b.spent b.held b.billed b.lost x) u

pub report_is : (rows : List SaleRow) (accounts : List Account) (c : ℕ) (a : Account) (d : Funds) (t : Totals) → AreAccounts rows accounts → 1 ≤ c → c ≤ length accounts → a ≡ get_or accounts (c - 1) a
    → t.reserved ≡ a.reserved → t.spent ≡ a.spent → t.held ≡ a.held → t.billed ≡ a.billed → t.lost ≡ a.lost → t.expired ≡ a.expired → t ≡ totals_of c (get_or (funds_of_all accounts) (c - 1) d).gone rows
report_is rows accounts c a d t h low high is p q r s u v =
    let same : get_or (funds_of_all accounts) (c - 1) d ≡ funds_of a = purse_is accounts c a d low high is in
    let its = account_at rows accounts c a h low high is in
    totals_from t (totals_of c a.gone rows) (p ∙ its.reserved) (q ∙ its.spent) (r ∙ its.held) (s ∙ its.billed) (u ∙ its.lost) (v ∙ its.expired)
    ∙ ap (λ (p : Funds). totals_of c p.gone rows) (sym same)

-- no campaign has committed more than its budget
pub budgets_within : (rows : List SaleRow) (accounts : List Account) → AreAccounts rows accounts → (k : ℕ) (d : Funds) → k < length (funds_of_all accounts)
    → committed_of (k + 1) (get_or (funds_of_all accounts) k d).gone rows ≤ (get_or (funds_of_all accounts) k d).budget
budgets_within rows accounts h k d l =
    let e : Account = fresh 0 none_gone in
    let inside : k < length accounts = omega (arith, l, many_campaigns accounts) in
    let its = h k e inside in
    let within : committed_of (k + 1) (get_or accounts k e).gone rows ≤ (get_or accounts k e).budget = omega (arith, committed_is (k + 1) rows (get_or accounts k e) its, its.within) in
    subst (λ (p : Funds). committed_of (k + 1) p.gone rows ≤ p.budget) (sym (funds_at accounts k e d inside)) within

-- ---- faults

no_state : (st : SaleState) → ◌≡◌ {A = Option SaleState} None (Some st) → ⊥
no_state st e = cc

not_gone : (b : Bool) (x y : Option SaleFault) → cond (b && false) x y ≡ y
not_gone true x y = refl
not_gone false x y = refl

fault_at : (by : SaleState → Option SaleFault) (f : ℕ) (sales : List SaleRow) (n : ℕ) (st : SaleState) (b : Bool) → nat_le n f ≡ b → state_in f sales n ≡ Some st → sale_fault by f sales n ≡ by st
fault_at by f sales n st true e h = absurd (no_state st (sym (ap (λ t. option_map (λ (s : SaleRow). s.state) (cond t None (slice_get sales (n - f - 1)))) e) ∙ h))
fault_at by f sales n st false e h =
    ap (λ t. cond (nat_le 1 n && t) (Some Forgotten) (option_map_or by (state_in f sales n) (Some NoSuchSale))) e ∙ not_gone (nat_le 1 n) (Some Forgotten) (option_map_or by (state_in f sales n) (Some NoSuchSale))
    ∙ ap (λ o. option_map_or by o (Some NoSuchSale)) h

-- a sale that is in the list has the fault of its state
pub sale_fault_is : (by : SaleState → Option SaleFault) (f : ℕ) (sales : List SaleRow) (n : ℕ) (st : SaleState) → state_in f sales n ≡ Some st → sale_fault by f sales n ≡ by st
sale_fault_is by f sales n st h = fault_at by f sales n st (nat_le n f) refl h

-- where there is no such sale, the list stays
pub still_missing : (to : SaleState) (f : ℕ) (sales : List SaleRow) (n : ℕ) → state_in f sales n ≡ None → settled_in to f sales n ≡ sales
still_missing to f sales n h = by_sale (sale_at f sales n) h
  where
    by_sale : (o : Option SaleRow) → option_map (λ (s : SaleRow). s.state) o ≡ None → option_map_or (λ (s : SaleRow). cond (is_held s.state) (slice_set sales (n - f - 1) (in_state to s)) sales) o sales ≡ sales
    by_sale None h = refl
    by_sale (Some s) h = absurd (no_state s.state (sym h))
