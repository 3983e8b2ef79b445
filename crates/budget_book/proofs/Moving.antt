-- One sale changes its state, or one more is made: what that does to the sums.
use Rattle.std.proofs.Common.{◌≡◌, ℕ, ◌+◌, ◌<◌, ◌≤◌, ◌&&◌, inl, inr, eqb, cond, Bool, true, false, List, [], ◌∷◌, ◌++◌, length, get_or, set, refl, sym, ◌∙◌, ap, subst, arith}
use Rattle.std.specs.Prelude.{sum_by, ◌^◌}
use Rattle.std.proofs.lemmas.List.{length-map}
use Rattle.std.proofs.lemmas.Bool.{cases_eq, eq-eqb, ne_eqb}
use Rattle.std.proofs.lemmas.List.{get_or-set_same, get_or-set_other, length-set, map-set, set-get_or, get_or-map}
use Rattle.std.proofs.lemmas.List.Sums.{sum_by-set, sum_by_push, get_or-le-sum_by, count_by-le-length}
use Rattle.budget_book.specs.declared.account.Account.{Account}
use Rattle.budget_book.specs.declared.sales.SaleRow.{SaleRow}
use Rattle.budget_book.specs.declared.sales.SaleState.{SaleState}
use Rattle.budget_book.specs.declared.sales.SaleState.TheVariants.{Held, Billed, Lost, Expired}
use Rattle.budget_book.specs.Sales.{is_held, is_billed, is_lost, is_expired, is_held_of, is_billed_of, is_lost_of, is_expired_of, in_state, gone_count}
use Rattle.budget_book.specs.Accounts.{IsAccount, AreAccounts, settled, with_sale, charge}
use Rattle.budget_book.specs.Book.{Funds, funds_of, funds_of_all, AreGoneFew}

-- what a sale adds to the sum of campaign c over the states that pass
abbrev pub share : (SaleState → Bool) → (SaleRow → ℕ) → ℕ → SaleRow → ℕ
share test amount c s = cond (eqb s.campaign c && test s.state) (amount s) 0

price_in : SaleRow → ℕ
price_in s = s.price

-- a share, by whether the sale is of the campaign and by its state
pub share_is : (test : SaleState → Bool) (amount : SaleRow → ℕ) (c : ℕ) (s : SaleRow) (own : Bool) (st : SaleState) → eqb s.campaign c ≡ own → s.state ≡ st → share test amount c s ≡ cond (own && test st) (amount s) 0
share_is test amount c s own st p q = ap (λ b. cond (b && test s.state) (amount s) 0) p ∙ ap (λ t. cond (own && test t) (amount s) 0) q

-- a sum after the state of one sale changed
sum_moved : (test : SaleState → Bool) (amount : SaleRow → ℕ) (c : ℕ) (rows : List SaleRow) (i : ℕ) (x y : SaleRow) (own : Bool) (from to : SaleState) (n : ℕ)
    → i < length rows → get_or rows i x ≡ x → eqb x.campaign c ≡ own → x.state ≡ from → eqb y.campaign c ≡ own → y.state ≡ to → amount x ≡ n → amount y ≡ n
    → sum_by (share test amount c) (set rows i y) + cond (own && test from) n 0 ≡ sum_by (share test amount c) rows + cond (own && test to) n 0
sum_moved test amount c rows i x y own from to n l at p q p2 q2 a b =
    let old : share test amount c (get_or rows i x) ≡ cond (own && test from) n 0 = ap (share test amount c) at ∙ share_is test amount c x own from p q ∙ ap (λ k. cond (own && test from) k 0) a in
    let new : share test amount c y ≡ cond (own && test to) n 0 = share_is test amount c y own to p2 q2 ∙ ap (λ k. cond (own && test to) k 0) b in
    omega (arith, sum_by-set (share test amount c) rows i y x l, old, new)

-- a sum after one more sale
pub sum_added : (test : SaleState → Bool) (amount : SaleRow → ℕ) (c : ℕ) (rows : List SaleRow) (y : SaleRow) (own : Bool) (to : SaleState)
    → eqb y.campaign c ≡ own → y.state ≡ to → sum_by (share test amount c) (rows ++ y ∷ []) ≡ sum_by (share test amount c) rows + cond (own && test to) (amount y) 0
sum_added test amount c rows y own to p q = sum_by_push (share test amount c) rows y ∙ ap (λ k. sum_by (share test amount c) rows + k) (share_is test amount c y own to p q)

module _ (c : ℕ) (rows : List SaleRow) (i : ℕ) (x : SaleRow) (to : SaleState) (own : Bool) (l : i < length rows) (at : get_or rows i x ≡ x) (p : eqb x.campaign c ≡ own) (q : x.state ≡ Held) where
  -- a sum of prices, and a count, after the held sale x changed to another state
  prices_moved : (test : SaleState → Bool) → sum_by (share test (λ s. s.price) c) (set rows i (in_state to x)) + cond (own && test Held) x.price 0 ≡ sum_by (share test (λ s. s.price) c) rows + cond (own && test to) x.price 0
  prices_moved test = sum_moved test (λ s. s.price) c rows i x (in_state to x) own Held to x.price l at p q p refl refl refl

  count_moved : (test : SaleState → Bool) → sum_by (share test (λ _. 1) c) (set rows i (in_state to x)) + cond (own && test Held) 1 0 ≡ sum_by (share test (λ _. 1) c) rows + cond (own && test to) 1 0
  count_moved test = sum_moved test (λ _. 1) c rows i x (in_state to x) own Held to 1 l at p q p refl refl refl

-- the account of another campaign
other_moved : (c : ℕ) (rows : List SaleRow) (i : ℕ) (x : SaleRow) (to : SaleState) (a : Account) → i < length rows → get_or rows i x ≡ x → eqb x.campaign c ≡ false → x.state ≡ Held → IsAccount c rows a → IsAccount c (set rows i (in_state to x)) a
other_moved c rows i x to a l at p q h = record {
  reserved = omega (arith, prices_moved c rows i x to false l at p q is_held, h.reserved);
  spent = omega (arith, prices_moved c rows i x to false l at p q is_billed, h.spent);
  held = omega (arith, count_moved c rows i x to false l at p q is_held, h.held);
  billed = omega (arith, count_moved c rows i x to false l at p q is_billed, h.billed);
  lost = omega (arith, count_moved c rows i x to false l at p q is_lost, h.lost);
  expired = omega (arith, count_moved c rows i x to false l at p q is_expired, h.expired);
  within = h.within;
  range = h.range;
}

-- what a held sale says of its account
pub held_within : (c : ℕ) (rows : List SaleRow) (i : ℕ) (x : SaleRow) (a : Account) → i < length rows → get_or rows i x ≡ x → eqb x.campaign c ≡ true → x.state ≡ Held → IsAccount c rows a → (x.price ≤ a.reserved) × (1 ≤ a.held)
held_within c rows i x a l at p q h =
    let one : share is_held (λ s. s.price) c (get_or rows i x) ≡ x.price = ap (share is_held (λ s. s.price) c) at ∙ share_is is_held (λ s. s.price) c x true Held p q in
    let two : share is_held (λ _. 1) c (get_or rows i x) ≡ 1 = ap (share is_held (λ _. 1) c) at ∙ share_is is_held (λ _. 1) c x true Held p q in
    (omega (arith, one, get_or-le-sum_by (share is_held (λ s. s.price) c) rows i x l, h.reserved), omega (arith, two, get_or-le-sum_by (share is_held (λ _. 1) c) rows i x l, h.held))

own_moved : (c : ℕ) (rows : List SaleRow) (i : ℕ) (x : SaleRow) (to : SaleState) (a : Account) → i < length rows → get_or rows i x ≡ x → eqb x.campaign c ≡ true → x.state ≡ Held → IsAccount c rows a → IsAccount c (set rows i (in_state to x)) (settled to x.price a)
own_moved c rows i x Held a l at p q h = record {
  reserved = omega (arith, prices_moved c rows i x Held true l at p q is_held, h.reserved);
  spent = omega (arith, prices_moved c rows i x Held true l at p q is_billed, h.spent);
  held = omega (arith, count_moved c rows i x Held true l at p q is_held, h.held);
  billed = omega (arith, count_moved c rows i x Held true l at p q is_billed, h.billed);
  lost = omega (arith, count_moved c rows i x Held true l at p q is_lost, h.lost);
  expired = omega (arith, count_moved c rows i x Held true l at p q is_expired, h.expired);
  within = h.within;
  range = h.range;
}
own_moved c rows i x Billed a l at p q h =
    let (price_in_it, one_in_it) = held_within c rows i x a l at p q h in record {
      reserved = omega (arith, prices_moved c rows i x Billed true l at p q is_held, h.reserved, price_in_it);
      spent = omega (arith, prices_moved c rows i x Billed true l at p q is_billed, h.spent);
      held = omega (arith, count_moved c rows i x Billed true l at p q is_held, h.held, one_in_it);
      billed = omega (arith, count_moved c rows i x Billed true l at p q is_billed, h.billed);
      lost = omega (arith, count_moved c rows i x Billed true l at p q is_lost, h.lost);
      expired = omega (arith, count_moved c rows i x Billed true l at p q is_expired, h.expired);
      within = omega (arith, h.within, price_in_it);
      range = h.range;
    }
own_moved c rows i x Lost a l at p q h =
    let (price_in_it, one_in_it) = held_within c rows i x a l at p q h in record {
      reserved = omega (arith, prices_moved c rows i x Lost true l at p q is_held, h.reserved, price_in_it);
      spent = omega (arith, prices_moved c rows i x Lost true l at p q is_billed, h.spent);
      held = omega (arith, count_moved c rows i x Lost true l at p q is_held, h.held, one_in_it);
      billed = omega (arith, count_moved c rows i x Lost true l at p q is_billed, h.billed);
      lost = omega (arith, count_moved c rows i x Lost true l at p q is_lost, h.lost);
      expired = omega (arith, count_moved c rows i x Lost true l at p q is_expired, h.expired);
      within = omega (arith, h.within, price_in_it);
      range = h.range;
    }
own_moved c rows i x Expired a l at p q h =
    let (price_in_it, one_in_it) = held_within c rows i x a l at p q h in record {
      reserved = omega (arith, prices_moved c rows i x Expired true l at p q is_held, h.reserved, price_in_it);
      spent = omega (arith, prices_moved c rows i x Expired true l at p q is_billed, h.spent);
      held = omega (arith, count_moved c rows i x Expired true l at p q is_held, h.held, one_in_it);
      billed = omega (arith, count_moved c rows i x Expired true l at p q is_billed, h.billed);
      lost = omega (arith, count_moved c rows i x Expired true l at p q is_lost, h.lost);
      expired = omega (arith, count_moved c rows i x Expired true l at p q is_expired, h.expired);
      within = omega (arith, h.within, price_in_it);
      range = h.range;
    }

-- all accounts, after the held sale x of campaign k + 1 changed to another state, and that account with it
pub all_moved : (rows : List SaleRow) (accounts : List Account) (i k : ℕ) (x : SaleRow) (to : SaleState) (b e : Account) → AreAccounts rows accounts → i < length rows → get_or rows i x ≡ x → x.state ≡ Held → x.campaign ≡ k + 1 → k < length accounts
    → b ≡ settled to x.price (get_or accounts k e) → AreAccounts (set rows i (in_state to x)) (set accounts k b)
all_moved rows accounts i k x to b e h l at q number there is j d w =
    let inside : j < length accounts = omega (arith, w, length-set accounts k b) in
    elim (cases_eq j k) [
      | inl same ↦
          let own : eqb x.campaign (j + 1) ≡ true = eq-eqb x.campaign (j + 1) (omega arith) in
          let was : IsAccount (j + 1) rows (get_or accounts j e) = h j e inside in
          let now : IsAccount (j + 1) (set rows i (in_state to x)) (settled to x.price (get_or accounts j e)) = own_moved (j + 1) rows i x to (get_or accounts j e) l at own q was in
          let here : get_or (set accounts k b) j d ≡ settled to x.price (get_or accounts j e) =
          ap (λ n. get_or (set accounts k b) n d) same ∙ get_or-set_same accounts k b d there ∙ is ∙ ap (λ n. settled to x.price (get_or accounts n e)) (sym same) in
          subst (λ a. IsAccount (j + 1) (set rows i (in_state to x)) a) (sym here) now
      | inr other ↦
          let apart : eqb x.campaign (j + 1) ≡ false = ne_eqb x.campaign (j + 1) (λ e. other (omega arith)) in
          let now : IsAccount (j + 1) (set rows i (in_state to x)) (get_or accounts j d) = other_moved (j + 1) rows i x to (get_or accounts j d) l at apart q (h j d inside) in
          subst (λ a. IsAccount (j + 1) (set rows i (in_state to x)) a) (sym (get_or-set_other accounts k j b d other)) now
    ]

-- the account of another campaign, after one more sale
other_added : (c : ℕ) (rows : List SaleRow) (y : SaleRow) (a : Account) → eqb y.campaign c ≡ false → IsAccount c rows a → IsAccount c (rows ++ y ∷ []) a
other_added c rows y a p h = record {
  reserved = omega (arith, sum_added is_held (λ s. s.price) c rows y false y.state p refl, h.reserved);
  spent = omega (arith, sum_added is_billed (λ s. s.price) c rows y false y.state p refl, h.spent);
  held = omega (arith, sum_added is_held (λ _. 1) c rows y false y.state p refl, h.held);
  billed = omega (arith, sum_added is_billed (λ _. 1) c rows y false y.state p refl, h.billed);
  lost = omega (arith, sum_added is_lost (λ _. 1) c rows y false y.state p refl, h.lost);
  expired = omega (arith, sum_added is_expired (λ _. 1) c rows y false y.state p refl, h.expired);
  within = h.within;
  range = h.range;
}

own_added : (c : ℕ) (rows : List SaleRow) (y : SaleRow) (to : SaleState) (a : Account) → eqb y.campaign c ≡ true → y.state ≡ to → a.reserved + a.spent + charge to y.price ≤ a.budget → IsAccount c rows a → IsAccount c (rows ++ y ∷ []) (with_sale to y.price a)
own_added c rows y Held a p q room h = record {
  reserved = omega (arith, sum_added is_held (λ s. s.price) c rows y true Held p q, h.reserved);
  spent = omega (arith, sum_added is_billed (λ s. s.price) c rows y true Held p q, h.spent);
  held = omega (arith, sum_added is_held (λ _. 1) c rows y true Held p q, h.held);
  billed = omega (arith, sum_added is_billed (λ _. 1) c rows y true Held p q, h.billed);
  lost = omega (arith, sum_added is_lost (λ _. 1) c rows y true Held p q, h.lost);
  expired = omega (arith, sum_added is_expired (λ _. 1) c rows y true Held p q, h.expired);
  within = omega (arith, room);
  range = h.range;
}
own_added c rows y Billed a p q room h = record {
  reserved = omega (arith, sum_added is_held (λ s. s.price) c rows y true Billed p q, h.reserved);
  spent = omega (arith, sum_added is_billed (λ s. s.price) c rows y true Billed p q, h.spent);
  held = omega (arith, sum_added is_held (λ _. 1) c rows y true Billed p q, h.held);
  billed = omega (arith, sum_added is_billed (λ _. 1) c rows y true Billed p q, h.billed);
  lost = omega (arith, sum_added is_lost (λ _. 1) c rows y true Billed p q, h.lost);
  expired = omega (arith, sum_added is_expired (λ _. 1) c rows y true Billed p q, h.expired);
  within = omega (arith, room);
  range = h.range;
}
own_added c rows y Lost a p q room h = record {
  reserved = omega (arith, sum_added is_held (λ s. s.price) c rows y true Lost p q, h.reserved);
  spent = omega (arith, sum_added is_billed (λ s. s.price) c rows y true Lost p q, h.spent);
  held = omega (arith, sum_added is_held (λ _. 1) c rows y true Lost p q, h.held);
  billed = omega (arith, sum_added is_billed (λ _. 1) c rows y true Lost p q, h.billed);
  lost = omega (arith, sum_added is_lost (λ _. 1) c rows y true Lost p q, h.lost);
  expired = omega (arith, sum_added is_expired (λ _. 1) c rows y true Lost p q, h.expired);
  within = h.within;
  range = h.range;
}
own_added c rows y Expired a p q room h = record {
  reserved = omega (arith, sum_added is_held (λ s. s.price) c rows y true Expired p q, h.reserved);
  spent = omega (arith, sum_added is_billed (λ s. s.price) c rows y true Expired p q, h.spent);
  held = omega (arith, sum_added is_held (λ _. 1) c rows y true Expired p q, h.held);
  billed = omega (arith, sum_added is_billed (λ _. 1) c rows y true Expired p q, h.billed);
  lost = omega (arith, sum_added is_lost (λ _. 1) c rows y true Expired p q, h.lost);
  expired = omega (arith, sum_added is_expired (λ _. 1) c rows y true Expired p q, h.expired);
  within = h.within;
  range = h.range;
}

-- all accounts, after one more sale of campaign k + 1, and that account with it
pub all_added : (rows : List SaleRow) (accounts : List Account) (k : ℕ) (y : SaleRow) (b e : Account) → AreAccounts rows accounts → y.campaign ≡ k + 1 → k < length accounts
    → (get_or accounts k e).reserved + (get_or accounts k e).spent + charge y.state y.price ≤ (get_or accounts k e).budget
    → b ≡ with_sale y.state y.price (get_or accounts k e) → AreAccounts (rows ++ y ∷ []) (set accounts k b)
all_added rows accounts k y b e h number there room is j d w =
    let inside : j < length accounts = omega (arith, w, length-set accounts k b) in
    elim (cases_eq j k) [
      | inl same ↦
          let own : eqb y.campaign (k + 1) ≡ true = eq-eqb y.campaign (k + 1) number in
          let now : IsAccount (k + 1) (rows ++ y ∷ []) (with_sale y.state y.price (get_or accounts k e)) = own_added (k + 1) rows y y.state (get_or accounts k e) own refl room (h k e there) in
          let here : get_or (set accounts k b) k d ≡ with_sale y.state y.price (get_or accounts k e) = get_or-set_same accounts k b d there ∙ is in
          let got : IsAccount (k + 1) (rows ++ y ∷ []) (get_or (set accounts k b) k d) = subst (λ a. IsAccount (k + 1) (rows ++ y ∷ []) a) (sym here) now in
          subst (λ n. IsAccount (n + 1) (rows ++ y ∷ []) (get_or (set accounts k b) n d)) (sym same) got
      | inr other ↦
          let apart : eqb y.campaign (j + 1) ≡ false = ne_eqb y.campaign (j + 1) (λ e. other (omega arith)) in
          subst (λ a. IsAccount (j + 1) (rows ++ y ∷ []) a) (sym (get_or-set_other accounts k j b d other)) (other_added (j + 1) rows y (get_or accounts j d) apart (h j d inside))
    ]

-- the budgets, and what is gone, stay where an account is replaced by one with the same
pub same_campaigns : (accounts : List Account) (k : ℕ) (b d : Account) → k < length accounts → funds_of b ≡ funds_of (get_or accounts k d) → funds_of_all (set accounts k b) ≡ funds_of_all accounts
same_campaigns accounts k b d l e =
    map-set funds_of accounts k b ∙ ap (set (funds_of_all accounts) k) (e ∙ sym (get_or-map funds_of accounts k d (funds_of d) l)) ∙ set-get_or (funds_of_all accounts) k (funds_of d)

pub settled_purse : (to : SaleState) (price : ℕ) (a : Account) → funds_of (settled to price a) ≡ funds_of a
settled_purse Held price a = refl
settled_purse Billed price a = refl
settled_purse Lost price a = refl
settled_purse Expired price a = refl

pub with_sale_funds : (to : SaleState) (price : ℕ) (a : Account) → funds_of (with_sale to price a) ≡ funds_of a
with_sale_funds Held price a = refl
with_sale_funds Billed price a = refl
with_sale_funds Lost price a = refl
with_sale_funds Expired price a = refl

pub many : (accounts : List Account) → length (funds_of_all accounts) ≡ length accounts
many accounts = search (arith, length-map)

-- what bounds the counts of an account
pub gone_few_at : (accounts : List Account) (k : ℕ) (d : Account) → k < length accounts → AreGoneFew (funds_of_all accounts) → gone_count (get_or accounts k d).gone ≤ 2 ^ 62
gone_few_at accounts k d l h =
    let few : gone_count (get_or (funds_of_all accounts) k (funds_of d)).gone ≤ 2 ^ 62 = h k (funds_of d) (omega (arith, many accounts)) in
    let same : get_or (funds_of_all accounts) k (funds_of d) ≡ funds_of (get_or accounts k d) = get_or-map funds_of accounts k d (funds_of d) l in
    subst (λ (p : Funds). gone_count p.gone ≤ 2 ^ 62) same few

pub counts_fit : (rows : List SaleRow) (accounts : List Account) (k : ℕ) (d : Account) → k < length accounts → length rows ≤ 67108864 → AreAccounts rows accounts → AreGoneFew (funds_of_all accounts)
    → ((get_or accounts k d).billed + 1 < 2 ^ 64) × ((get_or accounts k d).lost + 1 < 2 ^ 64) × ((get_or accounts k d).expired + 1 < 2 ^ 64) × ((get_or accounts k d).held + 1 < 2 ^ 64)
counts_fit rows accounts k d l short h g =
    let few = gone_few_at accounts k d l g in
    let a = h k d l in (
      omega (arith, few, a.billed, count_by-le-length (is_billed_of (k + 1)) rows),
      omega (arith, few, a.lost, count_by-le-length (is_lost_of (k + 1)) rows),
      omega (arith, few, a.expired, count_by-le-length (is_expired_of (k + 1)) rows),
      omega (arith, few, a.held, count_by-le-length (is_held_of (k + 1)) rows),
    )
