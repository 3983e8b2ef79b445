-- What the accounts of all campaigns add up to.
use Rattle.std.proofs.Common.{◌≡◌, inl, inr, ℕ, zero, suc, ◌+◌, ◌-◌, ◌<◌, ◌≤◌, ◌^◌, ◌&&◌, min, eqb, leb, cond, Bool, true, List, [], ◌∷◌, length, map, get_or, take, refl, sym, ◌∙◌, ap, arith, Some, None}
use Rattle.std.specs.Prelude.{count_by, option_map, slice_get, sum_by}
use Rattle.std.specs.List.{list_all}
use Rattle.std.proofs.lemmas.Bool.{and_parts, leb-true, ne_eqb}
use Rattle.std.proofs.lemmas.List.{get_or-map}
use Rattle.std.proofs.lemmas.Option.{get_or_from_slice_get, slice_get-map, slice_get_within}
use Rattle.auction_core.specs.Core.{funds_for, listed_as}
use Rattle.campaign_store.specs.Table as tabled
use Rattle.std.proofs.lemmas.Bool.Decides.{eqb_tells}
use Rattle.std.proofs.lemmas.List.Sums.{count_by-le-length, sum_by-cons, sum_by-le-sum_by}
use Rattle.budget_book.specs.declared.sales.SaleRow.{SaleRow}
use Rattle.budget_book.specs.declared.sales.SaleState.{SaleState}
use Rattle.budget_book.specs.Book.{Funds, forgotten_of}
use Rattle.budget_book.specs.Sales.{gone_count, is_billed, is_expired, is_held, is_lost}
use Rattle.std.proofs.Math.Seq.{take-length}
use Rattle.recovery.specs.declared.counts.Counts.{Counts}
use Rattle.plain_exchange.specs.Consistent.{IsConsistent, is_known}
use Rattle.plain_exchange.specs.State.{Campaign, State, forgotten}

abbrev pub pick : Bool → ℕ → ℕ → ℕ
pick b x y = cond b x y

-- the sum of f over elements that are numbered from n on
abbrev pub over : {A : Type 0} → (ℕ → A → ℕ) → ℕ → List A → ℕ
over f n [] = 0
over f n (x ∷ xs) = f n x + over f (suc n) xs

pub over_more : {A : Type 0} (f : ℕ → A → ℕ) (n : ℕ) (xs : List A) (k : ℕ) (x : A) → slice_get xs k ≡ Some x → over f n (take (suc k) xs) ≡ over f n (take k xs) + f (n + k) x
over_more f n [] k x e = absurd (cc e)
over_more {A} f n (y ∷ xs) zero x e =
    let same : y ≡ x = cc in
    let here : n + 0 ≡ n = omega arith in
    omega (arith, ap (f n) same, ap (λ m. f m x) here)
over_more f n (y ∷ xs) (suc k) x e =
    let here : n + suc k ≡ suc n + k = omega arith in
    omega (arith, over_more f (suc n) xs k x e, ap (λ m. f m x) here)

over_same : {A : Type 0} (f g : ℕ → A → ℕ) (n : ℕ) (xs : List A) → ((m : ℕ) (x : A) → f m x ≡ g m x) → over f n xs ≡ over g n xs
over_same f g n [] h = refl
over_same f g n (x ∷ xs) h = omega (arith, h n x, over_same f g (suc n) xs h)

over_sum : {A : Type 0} (f g : ℕ → A → ℕ) (n : ℕ) (xs : List A) → over (λ m x. f m x + g m x) n xs ≡ over f n xs + over g n xs
over_sum f g n [] = refl
over_sum f g n (x ∷ xs) = omega (arith, over_sum f g (suc n) xs)

pub over_plain : {A : Type 0} (g : A → ℕ) (n : ℕ) (xs : List A) → over (λ m x. g x) n xs ≡ sum_by g xs
over_plain g n [] = refl
over_plain g n (x ∷ xs) = omega (arith, over_plain g (suc n) xs, sum_by-cons g x xs)

over_none : {A : Type 0} (n : ℕ) (xs : List A) → over (λ m x. 0) n xs ≡ 0
over_none n [] = refl
over_none n (x ∷ xs) = omega (arith, over_none (suc n) xs)

-- of numbered elements one has the number k
none_of : {A : Type 0} (b : Bool) (k n : ℕ) (xs : List A) → k < n → over (λ m x. pick (eqb k m && b) 1 0) n xs ≡ 0
none_of b k n [] lt = refl
none_of b k n (x ∷ xs) lt = elim (eqb_tells k n) [
  | inl (e, is) ↦ absurd (omega (arith, lt, is))
  | inr (e, other) ↦ omega (arith, ap (λ t. pick (t && b) 1 0) e, none_of b k (suc n) xs (omega (arith, lt)))
]

one_of : {A : Type 0} (b : Bool) (k n : ℕ) (xs : List A) → n ≤ k → k < n + length xs → over (λ m x. pick (eqb k m && b) 1 0) n xs ≡ pick b 1 0
one_of b k n [] le lt = absurd (omega (arith, le, lt))
one_of b k n (x ∷ xs) le lt = elim (eqb_tells k n) [
  | inl (e, is) ↦ omega (arith, ap (λ t. pick (t && b) 1 0) e, none_of b k (suc n) xs (omega (arith, is)))
  | inr (e, other) ↦ let above : suc n ≤ k = omega (arith, other, le) in
      omega (arith, ap (λ t. pick (t && b) 1 0) e, one_of b k (suc n) xs above (omega (arith, lt)))
]

abbrev of_state : (SaleState → Bool) → ℕ → SaleRow → Bool
of_state test m s = eqb s.campaign m && test s.state

-- each sale is of one campaign
pub all_counted : {A : Type 0} (test : SaleState → Bool) (xs : List A) (sales : List SaleRow) → list_all (is_known (length xs)) sales ≡ true
    → over (λ m x. count_by (λ (s : SaleRow). of_state test m s) sales) 1 xs ≡ count_by (λ (s : SaleRow). test s.state) sales
all_counted test xs [] h = over_none 1 xs
all_counted {A} test xs (s ∷ sales) h =
    let parts = and_parts (is_known (length xs) s) (list_all (is_known (length xs)) sales) h in
    let bounds = and_parts (leb 1 s.campaign) (leb s.campaign (length xs)) parts.0 in
    let low = leb-true 1 s.campaign bounds.0 in
    let high = leb-true s.campaign (length xs) bounds.1 in
    let one = λ (m : ℕ) (x : A). pick (eqb s.campaign m && test s.state) 1 0 in
    let more = λ (m : ℕ) (x : A). count_by (λ (t : SaleRow). of_state test m t) sales in
    let each : (m : ℕ) (x : A) → count_by (λ (t : SaleRow). of_state test m t) (s ∷ sales) ≡ one m x + more m x = λ m x. sum_by-cons (λ (t : SaleRow). pick (of_state test m t) 1 0) s sales in
    over_same (λ (m : ℕ) (x : A). count_by (λ (t : SaleRow). of_state test m t) (s ∷ sales)) (λ m x. one m x + more m x) 1 xs each
    ∙ omega (arith, over_sum one more 1 xs, one_of (test s.state) s.campaign 1 xs low (omega (arith, high)), all_counted test xs sales parts.1, sum_by-cons (λ (t : SaleRow). pick (test t.state) 1 0) s sales)

-- what is gone of a campaign, and those of its sales that pass
abbrev pub counted : (Campaign → ℕ) → (SaleState → Bool) → List SaleRow → ℕ → Campaign → ℕ
counted gone test sales m c = gone c + count_by (λ (s : SaleRow). of_state test m s) sales

pub counted_all : (s : State) (gone : Campaign → ℕ) (test : SaleState → Bool) (x : ℕ) → IsConsistent s → sum_by gone s.campaigns ≤ forgotten s → x ≡ min (over (counted gone test s.sales) 1 s.campaigns) (2 ^ 64 - 1)
    → x ≡ sum_by gone s.campaigns + count_by (λ (sale : SaleRow). test sale.state) s.sales
counted_all s gone test x h less is =
    let all : over (counted gone test s.sales) 1 s.campaigns ≡ sum_by gone s.campaigns + count_by (λ (sale : SaleRow). test sale.state) s.sales =
    omega (arith, over_sum (λ (m : ℕ) (c : Campaign). gone c) (λ m c. count_by (λ (sale : SaleRow). of_state test m sale) s.sales) 1 s.campaigns, over_plain gone 1 s.campaigns, all_counted test s.campaigns s.sales h.known) in
    omega (arith, is, all, less, h.few_forgotten, h.few, count_by-le-length (λ (sale : SaleRow). test sale.state) s.sales)

-- ---- the campaign at a place, in the table and in the book

pub live_at : (cs : List Campaign) (k : ℕ) (c : Campaign) → slice_get cs k ≡ Some c → tabled.campaign_at (map listed_as cs) (k + 1) ≡ Some (listed_as c)
live_at cs k c e =
    let back : (k + 1) - 1 ≡ k = omega arith in
    let there : slice_get (map listed_as cs) ((k + 1) - 1) ≡ Some (listed_as c) = ap (slice_get (map listed_as cs)) back ∙ slice_get-map listed_as cs k ∙ ap (option_map listed_as) e in
    ap (λ b. cond b None (slice_get (map listed_as cs) ((k + 1) - 1))) (ne_eqb (k + 1) 0 (λ z. omega (arith, z))) ∙ there

pub funds_at : (cs : List Campaign) (k : ℕ) (c : Campaign) → slice_get cs k ≡ Some c → get_or (map funds_for cs) ((k + 1) - 1) (funds_for c) ≡ funds_for c
funds_at cs k c e =
    let back : (k + 1) - 1 ≡ k = omega arith in
    ap (λ i. get_or (map funds_for cs) i (funds_for c)) back ∙ get_or-map funds_for cs k c (funds_for c) (slice_get_within cs k c e) ∙ ap funds_for (get_or_from_slice_get cs k c c e)

pub one_there : {A : Type 0} (xs : List A) (k : ℕ) → k < length xs → (x : A) × (slice_get xs k ≡ Some x)
one_there [] k lt = absurd (omega (arith, lt))
one_there (x ∷ xs) zero lt = (x, refl)
one_there (x ∷ xs) (suc k) lt = one_there xs k (omega (arith, lt))

-- ---- a turn of the loop over the campaigns, and its end

abbrev pub most : ℕ
most = 2 ^ 64 - 1

pub one_turn : (f : ℕ → Campaign → ℕ) (cs : List Campaign) (k : ℕ) (c : Campaign) (x y a : ℕ) → slice_get cs k ≡ Some c → x ≡ min (over f 1 (take k cs)) most → y ≡ min (x + a) most → a ≡ f (k + 1) c → y ≡ min (over f 1 (take (k + 1) cs)) most
one_turn f cs k c x y a e is next same =
    let number : k + 1 ≡ 1 + k = omega arith in
    let step : k + 1 ≡ suc k = omega arith in
    let more : over f 1 (take (k + 1) cs) ≡ over f 1 (take (suc k) cs) = ap (λ i. over f 1 (take i cs)) step in
    omega (arith, is, next, same, more, over_more f 1 cs k c e, ap (λ m. f m c) number)

pub all_looked_at : (f : ℕ → Campaign → ℕ) (cs : List Campaign) (k x : ℕ) → k ≡ length cs → x ≡ min (over f 1 (take k cs)) most → x ≡ min (over f 1 cs) most
all_looked_at f cs k x all is = is ∙ ap (λ l. min (over f 1 l) most) (ap (λ i. take i cs) all ∙ take-length cs)

made : ℕ → ℕ → ℕ → ℕ → ℕ → ℕ → ℕ → Counts
made campaigns live sales held billed lost expired = record { campaigns = campaigns; live = live; sales = sales; held = held; billed = billed; lost = lost; expired = expired }

pub same_counts : (a b : Counts) → a.campaigns ≡ b.campaigns → a.live ≡ b.live → a.sales ≡ b.sales → a.held ≡ b.held → a.billed ≡ b.billed → a.lost ≡ b.lost → a.expired ≡ b.expired → a ≡ b
unfolding made
same_counts a b campaigns live sales held billed lost expired =
    ap (λ n. made n a.live a.sales a.held a.billed a.lost a.expired) campaigns
    ∙ ap (λ n. made b.campaigns n a.sales a.held a.billed a.lost a.expired) live
    ∙ ap (λ n. made b.campaigns b.live n a.held a.billed a.lost a.expired) sales
    ∙ ap (λ n. made b.campaigns b.live b.sales n a.billed a.lost a.expired) held
    ∙ ap (λ n. made b.campaigns b.live b.sales b.held n a.lost a.expired) billed
    ∙ ap (λ n. made b.campaigns b.live b.sales b.held b.billed n a.expired) lost
    ∙ ap (λ n. made b.campaigns b.live b.sales b.held b.billed b.lost n) expired

gone_within : (s : State) (gone : Campaign → ℕ) → ((c : Campaign) → gone c ≤ gone_count c.gone) → sum_by gone s.campaigns ≤ forgotten s
gone_within s gone h = sum_by-le-sum_by gone (λ (c : Campaign). gone_count c.gone) s.campaigns h

pub live_counted : (s : State) (x : ℕ) → length s.campaigns ≤ 65536 → x ≡ min (over (λ m (c : Campaign). pick c.live 1 0) 1 s.campaigns) most → x ≡ count_by (λ (c : Campaign). c.live) s.campaigns
live_counted s x few is = omega (arith, is, few, over_plain (λ (c : Campaign). pick c.live 1 0) 1 s.campaigns, count_by-le-length (λ (c : Campaign). c.live) s.campaigns)

pub held_counted : (s : State) (x : ℕ) → IsConsistent s → x ≡ min (over (counted (λ (c : Campaign). 0) is_held s.sales) 1 s.campaigns) most → x ≡ count_by (λ (sale : SaleRow). is_held sale.state) s.sales
held_counted s x h is = omega (arith, counted_all s (λ c. 0) is_held x h (gone_within s (λ c. 0) (λ c. omega arith)) is, over_plain (λ (c : Campaign). 0) 1 s.campaigns, over_none 1 s.campaigns)

pub billed_counted : (s : State) (x : ℕ) → IsConsistent s → x ≡ min (over (counted (λ (c : Campaign). c.gone.billed) is_billed s.sales) 1 s.campaigns) most → x ≡ sum_by (λ (c : Campaign). c.gone.billed) s.campaigns + count_by (λ (sale : SaleRow). is_billed sale.state) s.sales
billed_counted s x h is = counted_all s (λ c. c.gone.billed) is_billed x h (gone_within s (λ c. c.gone.billed) (λ c. omega arith)) is

pub lost_counted : (s : State) (x : ℕ) → IsConsistent s → x ≡ min (over (counted (λ (c : Campaign). c.gone.lost) is_lost s.sales) 1 s.campaigns) most → x ≡ sum_by (λ (c : Campaign). c.gone.lost) s.campaigns + count_by (λ (sale : SaleRow). is_lost sale.state) s.sales
lost_counted s x h is = counted_all s (λ c. c.gone.lost) is_lost x h (gone_within s (λ c. c.gone.lost) (λ c. omega arith)) is

pub expired_counted : (s : State) (x : ℕ) → IsConsistent s → x ≡ min (over (counted (λ (c : Campaign). c.gone.expired) is_expired s.sales) 1 s.campaigns) most → x ≡ sum_by (λ (c : Campaign). c.gone.expired) s.campaigns + count_by (λ (sale : SaleRow). is_expired sale.state) s.sales
expired_counted s x h is = counted_all s (λ c. c.gone.expired) is_expired x h (gone_within s (λ c. c.gone.expired) (λ c. omega arith)) is

pub sales_counted : (s : State) (x : ℕ) → IsConsistent s → x ≡ min (forgotten s + length s.sales) most → x ≡ forgotten s + length s.sales
sales_counted s x h is = omega (arith, is, h.few_forgotten, h.few)

pub forgotten_same : (cs : List Campaign) → forgotten_of (map funds_for cs) ≡ sum_by (λ (c : Campaign). gone_count c.gone) cs
forgotten_same [] = refl
forgotten_same (c ∷ cs) = sum_by-cons (λ (f : Funds). gone_count f.gone) (funds_for c) (map funds_for cs) ∙ ap (λ n. gone_count c.gone + n) (forgotten_same cs) ∙ sym (sum_by-cons (λ (c : Campaign). gone_count c.gone) c cs)
