-- What a sale takes of a budget, and what all sales of a campaign do.
use Rattle.std.proofs.Common.{◌≡◌, ◌≢◌, ℕ, ◌<◌, ◌≤◌, ◌&&◌, ◌||◌, eqb, cond, Bool, true, false, List, [], ◌∷◌, set, map, refl, sym, arith, Some}
use Rattle.std.specs.Prelude.{nat_le, slice_get, sum_by}
use Rattle.std.proofs.lemmas.Bool.{and_parts, eq-eqb, false≢true, leb-true, ne_eqb}
use Rattle.std.proofs.lemmas.List.Sums.{sum_by-cons}
use Rattle.budget_book.specs.declared.sales.SaleRow.{SaleRow}
use Rattle.budget_book.specs.declared.sales.SaleState.{SaleState}
use Rattle.budget_book.specs.declared.sales.SaleState.TheVariants.{Held, Billed, Lost, Expired}
use Rattle.budget_book.specs.Sales.{expired, expired_at, in_state, is_billed, is_held}
use Rattle.plain_exchange.specs.Consistent.{is_known}
use Rattle.plain_exchange.specs.Effects.{charge_of}
use Rattle.plain_exchange.proofs.Each.{Each}
use Rattle.plain_exchange.proofs.Places.{sum_replaced}

-- what a sale in that state takes, where it is the campaign's own
abbrev taken_in : Bool → SaleState → ℕ → ℕ
taken_in own state price = cond ((own && is_held state) || (own && is_billed state)) price 0

-- what the sale takes of campaign n
abbrev pub taken : ℕ → SaleRow → ℕ
taken n sale = taken_in (eqb sale.campaign n) sale.state sale.price

-- what sales take together
abbrev pub taken_by : ℕ → List SaleRow → ℕ
taken_by n sales = sum_by (taken n) sales

-- ---- one sale

less_where_expired : (own due : Bool) (state : SaleState) (price : ℕ) → taken_in own (cond (is_held state && due) Expired state) price ≤ taken_in own state price
less_where_expired true true Held price = omega arith
less_where_expired true false Held price = omega arith
less_where_expired true due Billed price = omega arith
less_where_expired true due Lost price = omega arith
less_where_expired true due Expired price = omega arith
less_where_expired false true Held price = omega arith
less_where_expired false false Held price = omega arith
less_where_expired false due Billed price = omega arith
less_where_expired false due Lost price = omega arith
less_where_expired false due Expired price = omega arith

less_where_settled : (own : Bool) (from to : SaleState) (price : ℕ) → is_held from ≡ true → taken_in own to price ≤ taken_in own from price
less_where_settled true Held Held price e = omega arith
less_where_settled true Held Billed price e = omega arith
less_where_settled true Held Lost price e = omega arith
less_where_settled true Held Expired price e = omega arith
less_where_settled true Billed to price e = absurd (false≢true e)
less_where_settled true Lost to price e = absurd (false≢true e)
less_where_settled true Expired to price e = absurd (false≢true e)
less_where_settled false Held to price e = omega arith
less_where_settled false Billed to price e = omega arith
less_where_settled false Lost to price e = omega arith
less_where_settled false Expired to price e = omega arith

own_taken : (own : Bool) (state : SaleState) (price : ℕ) → own ≡ true → taken_in own state price ≡ cond (is_held state || is_billed state) price 0
own_taken true state price e = refl
own_taken false state price e = absurd (false≢true e)

other_taken : (own : Bool) (state : SaleState) (price : ℕ) → own ≡ false → taken_in own state price ≡ 0
other_taken true state price e = absurd (false≢true (sym e))
other_taken false state price e = refl

pub taken_of_own : (n : ℕ) (sale : SaleRow) → sale.campaign ≡ n → taken n sale ≡ charge_of sale
taken_of_own n sale e = own_taken (eqb sale.campaign n) sale.state sale.price (eq-eqb sale.campaign n e)

pub taken_of_other : (n : ℕ) (sale : SaleRow) → sale.campaign ≢ n → taken n sale ≡ 0
taken_of_other n sale e = other_taken (eqb sale.campaign n) sale.state sale.price (ne_eqb sale.campaign n e)

-- ---- all sales

pub none_more : {A B : Type 0} (f : B → ℕ) (g : A → B) (h : A → ℕ) → ((x : A) → f (g x) ≤ h x) → (xs : List A) → sum_by f (map g xs) ≤ sum_by h xs
none_more f g h le [] = omega arith
none_more f g h le (x ∷ xs) = omega (arith, sum_by-cons f (g x) (map g xs), sum_by-cons h x xs, le x, none_more f g h le xs)

pub less_when_expired : (n m : ℕ) (sales : List SaleRow) → taken_by n (expired m sales) ≤ taken_by n sales
less_when_expired n m sales = none_more (taken n) (expired_at m) (taken n) (λ sale. less_where_expired (eqb sale.campaign n) (nat_le sale.due m) sale.state sale.price) sales

pub less_when_settled : (n : ℕ) (sales : List SaleRow) (i : ℕ) (sale : SaleRow) (to : SaleState) → slice_get sales i ≡ Some sale → is_held sale.state ≡ true
    → taken_by n (set sales i (in_state to sale)) ≤ taken_by n sales
less_when_settled n sales i sale to at held =
    let moved = sum_replaced (taken n) sales i sale (in_state to sale) at in
    let less : taken n (in_state to sale) ≤ taken n sale = less_where_settled (eqb sale.campaign n) sale.state to sale.price held in
    omega (arith, moved, less)

-- campaigns that are not there have no sales
pub none_taken : (campaigns n : ℕ) (sales : List SaleRow) → campaigns < n → Each (λ sale. is_known campaigns sale ≡ true) sales → taken_by n sales ≡ 0
none_taken campaigns n [] lt h = refl
none_taken campaigns n (sale ∷ sales) lt h =
    let le : sale.campaign ≤ campaigns = leb-true sale.campaign campaigns (and_parts (nat_le 1 sale.campaign) (nat_le sale.campaign campaigns) h.0).1 in
    let none : taken n sale ≡ 0 = taken_of_other n sale (λ e. omega (arith, e, le, lt)) in
    omega (arith, sum_by-cons (taken n) sale sales, none, none_taken campaigns n sales lt h.1)
