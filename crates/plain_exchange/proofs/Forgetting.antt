-- Forgetting sales changes the number of no other sale, and keeps a state consistent.
use Rattle.std.proofs.Common.{◌≡◌, ℕ, zero, suc, ◌+◌, ◌-◌, ◌<◌, ◌≤◌, ◌&&◌, ◌||◌, inl, inr, not, eqb, cond, Bool, true, false, List, [], ◌∷◌, length, take, drop, map, refl, sym, ◌∙◌, ap, subst, arith, Option, Some, None, length-drop, length-take}
use Rattle.std.specs.Prelude.{◌↔◌, count_by, is_none, is_some, nat_le, option_map, slice_get, sum_by}
use Rattle.std.specs.List.{enumerate_from, prefix_len}
use Rattle.std.proofs.lemmas.Bool.{and_parts, eq-eqb, false≢true, le-leb, leb-true, lt-leb, ne_eqb, cases_eq, cases_lt}
use Rattle.std.proofs.lemmas.List.{length-map}
use Rattle.std.proofs.lemmas.List.FromFn.{length-enumerate_from}
use Rattle.std.proofs.lemmas.List.Sums.{prefix_len-le-length, sum_by-cons, sum_by-take-drop}
use Rattle.std.proofs.lemmas.Option.{slice_get-map}
use Rattle.budget_book.specs.declared.sales.SaleRow.{SaleRow}
use Rattle.budget_book.specs.declared.sales.SaleState.{SaleState}
use Rattle.budget_book.specs.declared.sales.SaleState.TheVariants.{Held, Billed, Lost, Expired}
use Rattle.budget_book.specs.Sales.{are_settled, forgettable, gone_count, is_billed, is_billed_of, is_expired, is_expired_of, is_held, is_lost, is_lost_of, most_forgotten, prices}
use Rattle.campaign_store.specs.Limits.{passed_limit}
use Rattle.plain_exchange.specs.Consistent.{IsConsistent, is_known}
use Rattle.plain_exchange.specs.State.{Campaign, State, campaign_at, committed, forget, forget_first, forgotten, record_of, sale_numbered, with_gone}
use Rattle.plain_exchange.proofs.Each.{Each, all_of_each, each_of_all, none_some, some_same}
use Rattle.plain_exchange.proofs.Money.{taken, taken_by}
use Rattle.plain_exchange.proofs.Places.{at_place, numbered}

-- ---- fronts

each_taken : {A : Type 0} (P : A → Type 0) (xs : List A) (n : ℕ) → Each P xs → Each P (take n xs)
each_taken P xs zero h = tt
each_taken P [] (suc n) h = tt
each_taken P (x ∷ xs) (suc n) h = (h.0, each_taken P xs n h.1)

each_dropped : {A : Type 0} (P : A → Type 0) (xs : List A) (n : ℕ) → Each P xs → Each P (drop n xs)
each_dropped P xs zero h = h
each_dropped P [] (suc n) h = tt
each_dropped P (x ∷ xs) (suc n) h = each_dropped P xs n h.1

one_in_front : {R : Type 0} (b test : Bool) (n m : ℕ) → test ≡ b → suc n ≤ cond b (1 + m) 0 → (n ≤ m → R) → (test ≡ true) × R
one_in_front true test n m e le h = (e, h (omega (arith, le)))
one_in_front false test n m e le h = absurd (omega (arith, le))

passes_in_front : {A : Type 0} (p : A → Bool) (xs : List A) (n : ℕ) → n ≤ prefix_len p xs → Each (λ x. p x ≡ true) (take n xs)
passes_in_front p xs zero le = tt
passes_in_front p [] (suc n) le = tt
passes_in_front p (x ∷ xs) (suc n) le = one_in_front (p x) (p x) n (prefix_len p xs) refl le (passes_in_front p xs n)

dropped_at : {A : Type 0} (xs : List A) (n i : ℕ) → slice_get (drop n xs) i ≡ slice_get xs (n + i)
dropped_at xs zero i = ap (slice_get xs) (omega arith)
dropped_at [] (suc n) i = refl
dropped_at (x ∷ xs) (suc n) i = let next : suc (n + i) ≡ suc n + i = omega arith in dropped_at xs n i ∙ ap (slice_get (x ∷ xs)) next

-- ---- sums over numbered campaigns

sum_mapped : {A B : Type 0} (f : B → ℕ) (g : A → B) (h k : A → ℕ) → ((x : A) → f (g x) ≡ h x + k x) → (xs : List A) → sum_by f (map g xs) ≡ sum_by h xs + sum_by k xs
sum_mapped f g h k e [] = omega arith
sum_mapped f g h k e (x ∷ xs) = omega (arith, sum_by-cons f (g x) (map g xs), sum_by-cons h x xs, sum_by-cons k x xs, e x, sum_mapped f g h k e xs)

sum_joined : {A : Type 0} (f h k : A → ℕ) → ((x : A) → f x ≡ h x + k x) → (xs : List A) → sum_by f xs ≡ sum_by h xs + sum_by k xs
sum_joined f h k e [] = omega arith
sum_joined f h k e (x ∷ xs) = omega (arith, sum_by-cons f x xs, sum_by-cons h x xs, sum_by-cons k x xs, e x, sum_joined f h k e xs)

sum_numbered : {A : Type 0} (f : A → ℕ) (n : ℕ) (xs : List A) → sum_by (λ (p : ℕ × A). f p.1) (enumerate_from n xs) ≡ sum_by f xs
sum_numbered f n [] = refl
sum_numbered {A} f n (x ∷ xs) = omega (arith, sum_by-cons (λ (p : ℕ × A). f p.1) (n, x) (enumerate_from (n + 1) xs), sum_by-cons f x xs, sum_numbered f (n + 1) xs)

sum_of_none : {A : Type 0} (f : A → ℕ) → ((x : A) → f x ≡ 0) → (xs : List A) → sum_by f xs ≡ 0
sum_of_none f e [] = refl
sum_of_none f e (x ∷ xs) = omega (arith, sum_by-cons f x xs, e x, sum_of_none f e xs)

abbrev one_if : Bool → ℕ
one_if b = cond b 1 0

abbrev is_number : {A : Type 0} → ℕ → ℕ × A → ℕ
is_number k p = one_if (eqb k p.0)

is_own : (k n : ℕ) → k ≡ n → one_if (eqb k n) ≡ 1
is_own k n e = ap one_if (eq-eqb k n e)

is_other : (k n : ℕ) → (k ≡ n → ⊥) → one_if (eqb k n) ≡ 0
is_other k n e = ap one_if (ne_eqb k n e)

-- a number above those that are passed is met once
met_never : {A : Type 0} (k n : ℕ) (xs : List A) → k < n → sum_by (is_number k) (enumerate_from n xs) ≡ 0
met_never k n [] lt = refl
met_never k n (x ∷ xs) lt = omega (arith, sum_by-cons (is_number k) (n, x) (enumerate_from (n + 1) xs), is_other k n (λ e. omega (arith, e, lt)), met_never k (n + 1) xs (omega (arith, lt)))

met_once : {A : Type 0} (k n : ℕ) (xs : List A) → n ≤ k → k < n + length xs → sum_by (is_number k) (enumerate_from n xs) ≡ 1
met_once k n [] le lt = absurd (omega (arith, le, lt))
met_once k n (x ∷ xs) le lt = elim (cases_eq k n) [
  | inl e ↦ omega (arith, sum_by-cons (is_number k) (n, x) (enumerate_from (n + 1) xs), is_own k n e, met_never k (n + 1) xs (omega (arith, e)))
  | inr e ↦ omega (arith, sum_by-cons (is_number k) (n, x) (enumerate_from (n + 1) xs), is_other k n e, met_once k (n + 1) xs (omega (arith, le, e)) (omega (arith, lt)))
]

-- ---- how many are forgotten

-- how many sales of the campaign are no longer held
abbrev settled_count : ℕ → List SaleRow → ℕ
settled_count n sales = count_by (is_billed_of n) sales + count_by (is_lost_of n) sales + count_by (is_expired_of n) sales

settled_one : (own : Bool) (state : SaleState) → not (is_held state) ≡ true → one_if (own && is_billed state) + one_if (own && is_lost state) + one_if (own && is_expired state) ≡ one_if own
settled_one own Held e = absurd (false≢true e)
settled_one true Billed e = refl
settled_one true Lost e = refl
settled_one true Expired e = refl
settled_one false Billed e = refl
settled_one false Lost e = refl
settled_one false Expired e = refl

settled_more : (n : ℕ) (sale : SaleRow) (sales : List SaleRow) → not (is_held sale.state) ≡ true → settled_count n (sale ∷ sales) ≡ one_if (eqb sale.campaign n) + settled_count n sales
settled_more n sale sales e = omega (
  arith,
  sum_by-cons (λ s. one_if (is_billed_of n s)) sale sales,
  sum_by-cons (λ s. one_if (is_lost_of n s)) sale sales,
  sum_by-cons (λ s. one_if (is_expired_of n s)) sale sales,
  settled_one (eqb sale.campaign n) sale.state e,
)

abbrev pub AreSettled : List SaleRow → Type 0
AreSettled sales = Each (λ (s : SaleRow). not (is_held s.state) ≡ true) sales

-- each is one campaign's
all_counted : {A : Type 0} (campaigns : List A) (sales : List SaleRow) → Each (λ s. is_known (length campaigns) s ≡ true) sales → AreSettled sales
    → sum_by (λ (p : ℕ × A). settled_count p.0 sales) (enumerate_from 1 campaigns) ≡ length sales
all_counted campaigns [] known settled = sum_of_none _ (λ p. refl) (enumerate_from 1 campaigns)
all_counted {A} campaigns (sale ∷ sales) known settled =
    let parts = and_parts (nat_le 1 sale.campaign) (nat_le sale.campaign (length campaigns)) known.0 in
    let low = leb-true 1 sale.campaign parts.0 in
    let high = leb-true sale.campaign (length campaigns) parts.1 in
    let split = sum_joined (λ (p : ℕ × A). settled_count p.0 (sale ∷ sales)) (is_number sale.campaign) (λ (p : ℕ × A). settled_count p.0 sales) (λ p. settled_more p.0 sale sales settled.0) (enumerate_from 1 campaigns) in
    omega (arith, split, met_once sale.campaign 1 campaigns low (omega (arith, high)), all_counted campaigns sales known.1 settled.1)

pub known_in : (s : State) → IsConsistent s → Each (λ sale. is_known (length s.campaigns) sale ≡ true) s.sales
known_in s h = each_of_all (is_known (length s.campaigns)) s.sales h.known

-- so many of the first sales can be forgotten
abbrev pub Bounds : ℕ → State → Type 0
Bounds d s = (d ≤ length s.sales) × (d ≤ most_forgotten - forgotten s) × (d ≤ prefix_len (λ (s : SaleRow). not (is_held s.state)) s.sales)

pub first_settled : (d : ℕ) (s : State) → Bounds d s → AreSettled (take d s.sales)
first_settled d s h = passes_in_front (λ (s : SaleRow). not (is_held s.state)) s.sales d h.2

first_length : (d : ℕ) (s : State) → Bounds d s → length (take d s.sales) ≡ d
first_length d s h = omega (arith, length-take d s.sales, h.0)

pub first_counted : (d : ℕ) (s : State) → IsConsistent s → Bounds d s → forgotten (forget_first d s) ≡ forgotten s + d
first_counted d s h b =
    let sales = take d s.sales in
    let split = sum_mapped (λ (c : Campaign). gone_count c.gone) (with_gone sales) (λ (p : ℕ × Campaign). gone_count p.1.gone) (λ (p : ℕ × Campaign). settled_count p.0 sales) (λ p. omega arith) (enumerate_from 1 s.campaigns) in
    omega (
      arith,
      split,
      sum_numbered (λ (c : Campaign). gone_count c.gone) 1 s.campaigns,
      all_counted s.campaigns sales (each_taken (λ x. is_known (length s.campaigns) x ≡ true) s.sales d (known_in s h)) (first_settled d s b),
      first_length d s b,
    )

-- how many sales are forgotten
abbrev pub count : ℕ → State → ℕ
count keep s = forgettable keep (forgotten s) s.sales

abbrev pub front : ℕ → State → List SaleRow
front keep s = take (count keep s) s.sales

pub count_bounds : (keep : ℕ) (s : State) → Bounds (count keep s) s
count_bounds keep s = (omega arith, omega arith, omega arith)

pub front_settled : (keep : ℕ) (s : State) → AreSettled (front keep s)
front_settled keep s = first_settled (count keep s) s (count_bounds keep s)

pub forgotten_more : (keep : ℕ) (s : State) → IsConsistent s → forgotten (forget keep s) ≡ forgotten s + count keep s
forgotten_more keep s h = first_counted (count keep s) s h (count_bounds keep s)

-- ---- numbers

above : (f : ℕ) (sales : List SaleRow) (n : ℕ) → f < n → cond (nat_le n f) None (slice_get sales (n - f - 1)) ≡ slice_get sales (n - f - 1)
above f sales n lt = ap (λ b. cond b None (slice_get sales (n - f - 1))) (lt-leb n f lt)

pub number_kept : (keep : ℕ) (s : State) → IsConsistent s → (n : ℕ) → forgotten (forget keep s) < n → sale_numbered (forget keep s) n ≡ sale_numbered s n
number_kept keep s h n lt =
    let more = forgotten_more keep s h in
    let place : count keep s + (n - forgotten (forget keep s) - 1) ≡ n - forgotten s - 1 = omega (arith, more, lt) in
    above (forgotten (forget keep s)) (drop (count keep s) s.sales) n lt
    ∙ dropped_at s.sales (count keep s) (n - forgotten (forget keep s) - 1)
    ∙ ap (slice_get s.sales) place
    ∙ sym (above (forgotten s) s.sales n (omega (arith, more, lt)))

abbrev pub IsNumbered : State → ℕ → Type 0
IsNumbered s n = is_some (sale_numbered s n) ≡ true

abbrev pub IsGone : State → ℕ → Type 0
IsGone s n = is_none (sale_numbered s n) ≡ true

is_neither : {A : Type 0} (o : Option A) → is_some o ≡ true → is_none o ≡ true → ⊥
is_neither None e k = false≢true e
is_neither (Some x) e k = false≢true k

in_list : (f : ℕ) (sales : List SaleRow) (n : ℕ) → f < n → n ≤ f + length sales → is_some (cond (nat_le n f) None (slice_get sales (n - f - 1))) ≡ true
in_list f sales n lt le = ap is_some (above f sales n lt) ∙ within sales (n - f - 1) (omega (arith, lt, le))
  where
    within : {A : Type 0} (xs : List A) (i : ℕ) → i < length xs → is_some (slice_get xs i) ≡ true
    within [] i lt = absurd (omega (arith, lt))
    within (x ∷ xs) zero lt = refl
    within (x ∷ xs) (suc i) lt = within xs i (omega (arith, lt))

not_above : (f : ℕ) (sales : List SaleRow) (n : ℕ) → n ≤ f → is_none (cond (nat_le n f) None (slice_get sales (n - f - 1))) ≡ true
not_above f sales n le = ap (λ b. is_none (cond b None (slice_get sales (n - f - 1)))) (le-leb n f le)

-- the numbers that are gone are those of the sales that left
pub gone_numbers : (keep : ℕ) (s : State) → IsConsistent s → (n : ℕ) → (IsNumbered s n × IsGone (forget keep s) n) ↔ ((forgotten s < n) × (n ≤ forgotten (forget keep s)))
gone_numbers keep s h n =
    let more = forgotten_more keep s h in (
      λ p. (
        elim (cases_lt (forgotten s) n) [ inl lt ↦ lt | inr le ↦ absurd (is_neither (sale_numbered s n) p.0 (not_above (forgotten s) s.sales n le)) ],
        elim (cases_lt (forgotten (forget keep s)) n) [ inl lt ↦ absurd (is_neither (sale_numbered s n) p.0 (sym (ap is_none (number_kept keep s h n lt)) ∙ p.1)) | inr le ↦ le ],
      ),
      λ p. (
        in_list (forgotten s) s.sales n p.0 (omega (arith, more, p.1, (count_bounds keep s).0)),
        not_above (forgotten (forget keep s)) (drop (count keep s) s.sales) n p.1,
      ),
    )

-- ---- money

settled_taken : (own : Bool) (state : SaleState) (price : ℕ) → not (is_held state) ≡ true → cond (own && is_billed state) price 0 ≡ cond ((own && is_held state) || (own && is_billed state)) price 0
settled_taken own Held price e = absurd (false≢true e)
settled_taken true Billed price e = refl
settled_taken true Lost price e = refl
settled_taken true Expired price e = refl
settled_taken false Billed price e = refl
settled_taken false Lost price e = refl
settled_taken false Expired price e = refl

all_settled_taken : (n : ℕ) (sales : List SaleRow) → AreSettled sales → prices (is_billed_of n) sales ≡ taken_by n sales
all_settled_taken n [] h = refl
all_settled_taken n (sale ∷ sales) h = omega (
  arith,
  sum_by-cons (λ (s : SaleRow). cond (is_billed_of n s) s.price 0) sale sales,
  sum_by-cons (taken n) sale sales,
  settled_taken (eqb sale.campaign n) sale.state sale.price h.0,
  all_settled_taken n sales h.1,
)

-- what is committed stays
first_committed : (d : ℕ) (s : State) (n : ℕ) (c : Campaign) → Bounds d s → committed (forget_first d s) n (with_gone (take d s.sales) (n, c)) ≡ committed s n c
first_committed d s n c b = omega (arith, all_settled_taken n (take d s.sales) (first_settled d s b), sum_by-take-drop (taken n) s.sales d)

-- ---- the state

numbered_at : {A : Type 0} (n : ℕ) (xs : List A) (i : ℕ) → slice_get (enumerate_from n xs) i ≡ option_map (λ x. (n + i, x)) (slice_get xs i)
numbered_at n [] i = refl
numbered_at n (x ∷ xs) zero = let same : n ≡ n + 0 = omega arith in ap (λ (k : ℕ). Some (k, x)) same
numbered_at n (x ∷ xs) (suc i) = let same : (n + 1) + i ≡ n + suc i = omega arith in numbered_at (n + 1) xs i ∙ ap (λ (k : ℕ). option_map (λ y. (k, y)) (slice_get xs i)) same

mapped_some : {A B : Type 0} (f : A → B) (o : Option A) (y : B) → option_map f o ≡ Some y → (x : A) × (o ≡ Some x) × (f x ≡ y)
mapped_some f None y e = absurd (none_some y e)
mapped_some f (Some x) y e = (x, refl, some_same (f x) y e)

-- campaign n is as before but for what is gone
campaign_before : (d : ℕ) (s : State) (n : ℕ) (x : Campaign) → campaign_at (forget_first d s) n ≡ Some x → (c : Campaign) × (campaign_at s n ≡ Some c) × (with_gone (take d s.sales) (n, c) ≡ x)
campaign_before d s n x there =
    let place = at_place (forget_first d s) n x there in
    let g = with_gone (take d s.sales) in
    let found : option_map g (option_map (λ (x : Campaign). (1 + (n - 1), x)) (slice_get s.campaigns (n - 1))) ≡ Some x =
    ap (option_map g) (sym (numbered_at 1 s.campaigns (n - 1))) ∙ sym (slice_get-map g (enumerate_from 1 s.campaigns) (n - 1)) ∙ place.1 in
    let (p, numbered_p, same) = mapped_some g _ x found in
    let (c, at, pair) = mapped_some (λ (x : Campaign). (1 + (n - 1), x)) (slice_get s.campaigns (n - 1)) p numbered_p in
    let number : 1 + (n - 1) ≡ n = omega (arith, place.0) in
    (c, numbered n (slice_get s.campaigns (n - 1)) c place.0 at, ap (λ (k : ℕ). g (k, c)) (sym number) ∙ ap g pair ∙ same)

pub first_money : (d : ℕ) (s : State) (n : ℕ) (before after : Campaign) → Bounds d s → campaign_at s n ≡ Some before → campaign_at (forget_first d s) n ≡ Some after → committed (forget_first d s) n after ≡ committed s n before
first_money d s n before after b there there2 =
    let (c, at, same) = campaign_before d s n after there2 in
    let one : c ≡ before = some_same c before (sym at ∙ there) in
    ap (committed (forget_first d s) n) (sym same) ∙ first_committed d s n c b ∙ ap (committed s n) one

pub money_stays : (keep : ℕ) (s : State) (n : ℕ) (before after : Campaign) → campaign_at s n ≡ Some before → campaign_at (forget keep s) n ≡ Some after → committed (forget keep s) n after ≡ committed s n before
money_stays keep s n before after there there2 = first_money (count keep s) s n before after (count_bounds keep s) there there2

records_kept : (sales : List SaleRow) (n : ℕ) (campaigns : List Campaign) → map record_of (map (with_gone sales) (enumerate_from n campaigns)) ≡ map record_of campaigns
records_kept sales n [] = refl
records_kept sales n (c ∷ campaigns) = ap (λ l. record_of c ∷ l) (records_kept sales (n + 1) campaigns)

pub first_kept : (d : ℕ) (s : State) → IsConsistent s → Bounds d s → IsConsistent (forget_first d s)
first_kept d s h b =
    let sales = take d s.sales in
    let many : length (forget_first d s).campaigns ≡ length s.campaigns = length-map (enumerate_from 1 s.campaigns) (with_gone sales) ∙ length-enumerate_from 1 s.campaigns in
    record {
      solvent = λ n x there.
          let (c, at, same) = campaign_before d s n x there in
          let paid : committed (forget_first d s) n (with_gone sales (n, c)) ≤ c.facts.budget = omega (arith, first_committed d s n c b, h.solvent n c at) in
          subst (λ (x : Campaign). committed (forget_first d s) n x ≤ x.facts.budget) same paid;
      within = ap (λ rs. is_none (passed_limit rs)) (records_kept sales 1 s.campaigns) ∙ h.within;
      known = all_of_each (is_known (length (forget_first d s).campaigns)) (drop d s.sales)
          (subst (λ k. Each (λ x. is_known k x ≡ true) (drop d s.sales)) (sym many) (each_dropped (λ x. is_known (length s.campaigns) x ≡ true) s.sales d (known_in s h)));
      few = omega (arith, length-drop d s.sales, h.few);
      few_forgotten = omega (arith, first_counted d s h b, b.1, h.few_forgotten);
    }

pub forget_kept : (keep : ℕ) (s : State) → IsConsistent s → IsConsistent (forget keep s)
forget_kept keep s h = first_kept (count keep s) s h (count_bounds keep s)

-- those that an effect takes
pub settled_bounds : (n : ℕ) (s : State) → nat_le n most_forgotten ≡ true → are_settled (n - forgotten s) s.sales ≡ true → Bounds (n - forgotten s) s
settled_bounds n s few settled =
    let low : n ≤ most_forgotten = leb-true n most_forgotten few in
    let front : n - forgotten s ≤ prefix_len (λ (s : SaleRow). not (is_held s.state)) s.sales = leb-true (n - forgotten s) (prefix_len (λ (s : SaleRow). not (is_held s.state)) s.sales) settled in
    (omega (arith, front, prefix_len-le-length (λ (s : SaleRow). not (is_held s.state)) s.sales), omega (arith, low), front)
