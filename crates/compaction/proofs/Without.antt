-- Exchanges without their first sales, none of which is held: what changes them changes both alike.
use Rattle.std.proofs.Common.{◌≡◌, ℕ, zero, suc, ◌+◌, ◌-◌, ◌<◌, ◌≤◌, ◌&&◌, inl, inr, not, eqb, cond, Bool, true, false, List, [], ◌∷◌, ◌++◌, length, take, drop, set, map, refl, sym, ◌∙◌, ap, subst, arith, Option, Some, None, length-append, length-drop}
use Rattle.std.specs.Prelude.{nat_le, nat_lt, option_map, slice_get, sum_by}
use Rattle.std.specs.List.{enumerate_from, prefix_len}
use Rattle.std.specs.Option.{option_map_or}
use Rattle.std.proofs.lemmas.Bool.{and_left, and_parts, cases_Bool, cases_lt, false≢true, le-leb, leb-false, leb-true, lt-leb, ne_eqb, not-true}
use Rattle.std.proofs.lemmas.List.{drop-append-le, drop-drop, drop-map, drop-set-add, drop-take, length-map, length-set, take-append-drop, take-append-le, take-set-le, take-take}
use Rattle.std.proofs.lemmas.List.Sums.{prefix_len-le-length, sum_by-append, sum_by-cons}
use Rattle.std.proofs.lemmas.Option.{slice_get-map}
use Rattle.budget_book.specs.declared.sales.Gone.{Gone}
use Rattle.budget_book.specs.declared.sales.SaleRow.{SaleRow}
use Rattle.budget_book.specs.declared.sales.SaleState.{SaleState}
use Rattle.budget_book.specs.declared.sales.SaleState.TheVariants.{Held, Billed, Lost, Expired}
use Rattle.budget_book.specs.Sales.{due_count, expired, expired_at, gone_with, in_state, is_billed, is_billed_of, is_due, is_expired, is_expired_of, is_held, is_lost, is_lost_of, most_forgotten}
use Rattle.compaction.specs.Trimming.{CanBeGone}
use Rattle.plain_exchange.specs.Consistent.{IsConsistent, is_known}
use Rattle.plain_exchange.specs.State.{Campaign, State, campaign_at, committed, forget_first, forgotten, free, most_sales, sale_numbered, swept, with_campaign, with_campaigns, with_gone, with_sale, with_sales}
use Rattle.plain_exchange.specs.Step.{none_gone}
use Rattle.plain_exchange.proofs.Each.{Each, none_some, some_same}
use Rattle.plain_exchange.proofs.Forgetting.{AreSettled, Bounds, first_counted, first_money, first_settled, known_in}
use Rattle.plain_exchange.proofs.Keeping.{sale_place, there_is}
use Rattle.plain_exchange.proofs.Places.{at_place, numbered}

-- ---- fronts in which no sale is held

abbrev is_settled : SaleRow → Bool
is_settled s = not (is_held s.state)

pub record IsFront (n : ℕ) (sales : List SaleRow) : Type 0 where
  pub there : n ≤ length sales
  pub settled : AreSettled (take n sales)

pub bounds_of : (n : ℕ) (s : State) → CanBeGone n s → Bounds n s
bounds_of n s g =
    let front : n ≤ prefix_len is_settled s.sales = leb-true n (prefix_len is_settled s.sales) g.settled in
    (omega (arith, front, prefix_len-le-length is_settled s.sales), omega (arith, g.few), front)

pub front_in : (n : ℕ) (s : State) → CanBeGone n s → IsFront n s.sales
front_in n s g = let b = bounds_of n s g in record { there = b.0; settled = first_settled n s b }

pub front_by : (n : ℕ) (s : State) → Bounds n s → IsFront n s.sales
front_by n s b = record { there = b.0; settled = first_settled n s b }

one_passes : (b : Bool) (n m : ℕ) → b ≡ true → n ≤ m → suc n ≤ cond b (1 + m) 0
one_passes true n m e le = omega (arith, le)
one_passes false n m e le = absurd (false≢true e)

pub front_passes : (sales : List SaleRow) (n : ℕ) → n ≤ length sales → AreSettled (take n sales) → n ≤ prefix_len is_settled sales
front_passes sales zero le h = omega arith
front_passes [] (suc n) le h = absurd (omega (arith, le))
front_passes (x ∷ sales) (suc n) le h = one_passes (is_settled x) n (prefix_len is_settled sales) h.0 (front_passes sales n (omega (arith, le)) h.1)

pub front_settled : (n : ℕ) (sales : List SaleRow) → IsFront n sales → nat_le n (prefix_len is_settled sales) ≡ true
front_settled n sales f = le-leb n (prefix_len is_settled sales) (front_passes sales n f.there f.settled)

pub gone_by : (n : ℕ) (s : State) → IsFront n s.sales → forgotten s + n ≤ most_forgotten → CanBeGone n s
gone_by n s f few = record { settled = front_settled n s.sales f; few = few }

-- the front of another list that begins alike
same_front : (n : ℕ) (old new : List SaleRow) → length old ≤ length new → take n new ≡ take n old → IsFront n old → IsFront n new
same_front n old new long same f = record { there = omega (arith, long, f.there); settled = subst AreSettled (sym same) f.settled }

each_dropped : {A : Type 0} (P : A → Type 0) (xs : List A) (n : ℕ) → Each P xs → Each P (drop n xs)
each_dropped P xs zero h = h
each_dropped P [] (suc n) h = tt
each_dropped P (x ∷ xs) (suc n) h = each_dropped P xs n h.1

each_taken : {A : Type 0} (P : A → Type 0) (xs : List A) (n : ℕ) → Each P xs → Each P (take n xs)
each_taken P xs zero h = tt
each_taken P [] (suc n) h = tt
each_taken P (x ∷ xs) (suc n) h = (h.0, each_taken P xs n h.1)

-- what is left of a front behind some sales
pub front_behind : (a b : ℕ) (sales : List SaleRow) → IsFront a sales → IsFront (a - b) (drop b sales)
front_behind a b sales f = record {
  there = omega (arith, length-drop b sales, f.there);
  settled = elim (cases_lt b a) [
    | inl lt ↦
        let whole : b + (a - b) ≡ a = omega (arith, lt) in
        let same : drop b (take a sales) ≡ take (a - b) (drop b sales) = ap (λ j. drop b (take j sales)) (sym whole) ∙ drop-take b (a - b) sales in
        subst AreSettled same (each_dropped (λ (s : SaleRow). not (is_held s.state) ≡ true) (take a sales) b f.settled)
    | inr le ↦
        let none : 0 ≡ a - b = omega (arith, le) in
        subst (λ j. AreSettled (take j (drop b sales))) none tt
  ];
}

-- ---- expiry

stays_in : (st : SaleState) (due : Bool) → not (is_held st) ≡ true → cond (is_held st && due) Expired st ≡ st
stays_in Held due e = absurd (false≢true e)
stays_in Billed due e = refl
stays_in Lost due e = refl
stays_in Expired due e = refl

stays : (m : ℕ) (sale : SaleRow) → not (is_held sale.state) ≡ true → expired_at m sale ≡ sale
stays m sale e = ap (λ st. in_state st sale) (stays_in sale.state (nat_le sale.due m) e)

front_expired : (m : ℕ) (sales : List SaleRow) (n : ℕ) → AreSettled (take n sales) → take n (expired m sales) ≡ take n sales
front_expired m sales zero h = refl
front_expired m [] (suc n) h = refl
front_expired m (x ∷ sales) (suc n) h = ap (λ (y : SaleRow). y ∷ take n (expired m sales)) (stays m x h.0) ∙ ap (λ l. x ∷ l) (front_expired m sales n h.1)

abbrev one_if : Bool → ℕ
one_if b = cond b 1 0

-- none of them is due
pub due_behind : (m : ℕ) (sales : List SaleRow) (n : ℕ) → AreSettled (take n sales) → due_count m (drop n sales) ≡ due_count m sales
due_behind m sales zero h = refl
due_behind m [] (suc n) h = refl
due_behind m (x ∷ sales) (suc n) h =
    let waits : one_if (is_due m x) ≡ 0 = ap one_if (and_left (is_held x.state) (nat_le x.due m) (not-true (is_held x.state) h.0)) in
    omega (arith, waits, sum_by-cons (λ s. one_if (is_due m s)) x sales, due_behind m sales n h.1)

pub gone_swept : (m n : ℕ) (s : State) → CanBeGone n s → CanBeGone n (swept m s)
gone_swept m n s g =
    let f = front_in n s g in
    gone_by n (swept m s) (same_front n s.sales (expired m s.sales) (omega (arith, length-map s.sales (expired_at m))) (front_expired m s.sales n f.settled) f) g.few

-- ---- what is gone of a campaign

abbrev gone_of : ℕ → ℕ → ℕ → ℕ → Gone
gone_of spent billed lost expired = record { spent = spent; billed = billed; lost = lost; expired = expired }

same_gone : (a b c d x y z w : ℕ) → a ≡ x → b ≡ y → c ≡ z → d ≡ w → gone_of a b c d ≡ gone_of x y z w
same_gone a b c d x y z w p q r s = ap (λ k. gone_of k b c d) p ∙ ap (λ k. gone_of x k c d) q ∙ ap (λ k. gone_of x y k d) r ∙ ap (λ k. gone_of x y z k) s

abbrev spent_in : ℕ → SaleRow → ℕ
spent_in k s = cond (is_billed_of k s) s.price 0

gone_none : (k : ℕ) (g : Gone) → gone_with k g [] ≡ g
gone_none k g = same_gone (g.spent + 0) (g.billed + 0) (g.lost + 0) (g.expired + 0) g.spent g.billed g.lost g.expired (omega arith) (omega arith) (omega arith) (omega arith)

gone_both : (k : ℕ) (g : Gone) (xs ys : List SaleRow) → gone_with k (gone_with k g xs) ys ≡ gone_with k g (xs ++ ys)
gone_both k g xs ys = same_gone _ _ _ _ _ _ _ _
    (omega (arith, sum_by-append (spent_in k) xs ys))
    (omega (arith, sum_by-append (λ s. one_if (is_billed_of k s)) xs ys))
    (omega (arith, sum_by-append (λ s. one_if (is_lost_of k s)) xs ys))
    (omega (arith, sum_by-append (λ s. one_if (is_expired_of k s)) xs ys))

none_in : (f : SaleRow → ℕ) (campaigns : ℕ) → ((s : SaleRow) → s.campaign ≤ campaigns → f s ≡ 0) → (sales : List SaleRow) → Each (λ s. is_known campaigns s ≡ true) sales → sum_by f sales ≡ 0
none_in f campaigns e [] h = refl
none_in f campaigns e (x ∷ sales) h =
    let le : x.campaign ≤ campaigns = leb-true x.campaign campaigns (and_parts (nat_le 1 x.campaign) (nat_le x.campaign campaigns) h.0).1 in
    omega (arith, sum_by-cons f x sales, e x le, none_in f campaigns e sales h.1)

-- a campaign that is not there yet has no sales
gone_new : (campaigns k : ℕ) (sales : List SaleRow) → campaigns < k → Each (λ s. is_known campaigns s ≡ true) sales → gone_with k none_gone sales ≡ none_gone
gone_new campaigns k sales lt h =
    let other : (s : SaleRow) → s.campaign ≤ campaigns → eqb s.campaign k ≡ false = λ s le. ne_eqb s.campaign k (λ e. omega (arith, e, le, lt)) in
    same_gone _ _ _ _ 0 0 0 0
    (let n = none_in (spent_in k) campaigns (λ s le. ap (λ b. cond (b && is_billed s.state) s.price 0) (other s le)) sales h in omega (arith, n))
    (let n = none_in (λ s. one_if (is_billed_of k s)) campaigns (λ s le. ap (λ b. one_if (b && is_billed s.state)) (other s le)) sales h in omega (arith, n))
    (let n = none_in (λ s. one_if (is_lost_of k s)) campaigns (λ s le. ap (λ b. one_if (b && is_lost s.state)) (other s le)) sales h in omega (arith, n))
    (let n = none_in (λ s. one_if (is_expired_of k s)) campaigns (λ s le. ap (λ b. one_if (b && is_expired s.state)) (other s le)) sales h in omega (arith, n))

-- ---- sales that are forgotten in two turns, or not at all

abbrev state_with : List Campaign → List SaleRow → State
state_with campaigns sales = record { campaigns = campaigns; sales = sales }

all_none : (k : ℕ) (cs : List Campaign) → map (with_gone []) (enumerate_from k cs) ≡ cs
all_none k [] = refl
all_none k (c ∷ cs) =
    ap (λ (x : Campaign). x ∷ map (with_gone []) (enumerate_from (k + 1) cs)) (ap (λ g. record c { gone = g }) (gone_none k c.gone))
    ∙ ap (λ l. c ∷ l) (all_none (k + 1) cs)

pub first_none : (s : State) → forget_first 0 s ≡ s
first_none s = ap (λ cs. state_with cs s.sales) (all_none 1 s.campaigns)

all_both : (k : ℕ) (xs ys : List SaleRow) (cs : List Campaign) → map (with_gone ys) (enumerate_from k (map (with_gone xs) (enumerate_from k cs))) ≡ map (with_gone (xs ++ ys)) (enumerate_from k cs)
all_both k xs ys [] = refl
all_both k xs ys (c ∷ cs) =
    ap (λ (x : Campaign). x ∷ map (with_gone ys) (enumerate_from (k + 1) (map (with_gone xs) (enumerate_from (k + 1) cs)))) (ap (λ g. record c { gone = g }) (gone_both k c.gone xs ys))
    ∙ ap (λ l. with_gone (xs ++ ys) (k, c) ∷ l) (all_both (k + 1) xs ys cs)

take_both : (a b : ℕ) (xs : List SaleRow) → take a xs ++ take b (drop a xs) ≡ take (a + b) xs
take_both a b xs =
    ap (λ l. l ++ take b (drop a xs)) (sym (take-take a (a + b) xs (omega arith)))
    ∙ ap (λ l. take a (take (a + b) xs) ++ l) (sym (drop-take a b xs))
    ∙ take-append-drop a (take (a + b) xs)

pub first_both : (a b : ℕ) (s : State) → forget_first b (forget_first a s) ≡ forget_first (a + b) s
first_both a b s =
    ap (λ cs. state_with cs (drop b (drop a s.sales))) (all_both 1 (take a s.sales) (take b (drop a s.sales)) s.campaigns ∙ ap (λ l. map (with_gone l) (enumerate_from 1 s.campaigns)) (take_both a b s.sales))
    ∙ ap (λ l. state_with (map (with_gone (take (a + b) s.sales)) (enumerate_from 1 s.campaigns)) l) (drop-drop b a s.sales)

-- ---- changes of an exchange, and of the same without its first sales

-- other sales behind a front that stays
first_sales : (n : ℕ) (s : State) (sales left : List SaleRow) → take n sales ≡ take n s.sales → drop n sales ≡ left
    → state_with (map (with_gone (take n s.sales)) (enumerate_from 1 s.campaigns)) left ≡ forget_first n (state_with s.campaigns sales)
first_sales n s sales left front behind =
    ap (λ l. state_with (map (with_gone l) (enumerate_from 1 s.campaigns)) left) (sym front)
    ∙ ap (λ l. state_with (map (with_gone (take n sales)) (enumerate_from 1 s.campaigns)) l) (sym behind)

pub first_swept : (m n : ℕ) (s : State) → IsFront n s.sales → swept m (forget_first n s) ≡ forget_first n (swept m s)
first_swept m n s f = first_sales n s (expired m s.sales) (expired m (drop n s.sales)) (front_expired m s.sales n f.settled) (drop-map (expired_at m) n s.sales)

pub first_sold : (n : ℕ) (s : State) (more : List SaleRow) → IsFront n s.sales → with_sales (forget_first n s) more ≡ forget_first n (with_sales s more)
first_sold n s more f = first_sales n s (s.sales ++ more) (drop n s.sales ++ more) (take-append-le n s.sales more f.there) (drop-append-le n s.sales more f.there)

pub front_sold : (n : ℕ) (s : State) (more : List SaleRow) → IsFront n s.sales → IsFront n (s.sales ++ more)
front_sold n s more f = same_front n s.sales (s.sales ++ more) (omega (arith, length-append s.sales more)) (take-append-le n s.sales more f.there) f

-- ---- campaigns

numbered_at : {A : Type 0} (n : ℕ) (xs : List A) (i : ℕ) → slice_get (enumerate_from n xs) i ≡ option_map (λ x. (n + i, x)) (slice_get xs i)
numbered_at n [] i = refl
numbered_at n (x ∷ xs) zero = let same : n ≡ n + 0 = omega arith in ap (λ (k : ℕ). Some (k, x)) same
numbered_at n (x ∷ xs) (suc i) = let same : (n + 1) + i ≡ n + suc i = omega arith in numbered_at (n + 1) xs i ∙ ap (λ (k : ℕ). option_map (λ y. (k, y)) (slice_get xs i)) same

-- campaign k without the first sales
abbrev pub bare : ℕ → State → ℕ → Campaign → Campaign
bare n s k c = with_gone (take n s.sales) (k, c)

pub first_campaign : (n : ℕ) (s : State) (k : ℕ) (c : Campaign) → campaign_at s k ≡ Some c → campaign_at (forget_first n s) k ≡ Some (bare n s k c)
first_campaign n s k c there =
    let place = at_place s k c there in
    let number : 1 + (k - 1) ≡ k = omega (arith, place.0) in
    numbered k (slice_get (forget_first n s).campaigns (k - 1)) (bare n s k c) place.0
    (slice_get-map (with_gone (take n s.sales)) (enumerate_from 1 s.campaigns) (k - 1)
    ∙ ap (option_map (with_gone (take n s.sales))) (numbered_at 1 s.campaigns (k - 1))
    ∙ ap (λ o. option_map (with_gone (take n s.sales)) (option_map (λ (x : Campaign). (1 + (k - 1), x)) o)) place.1
    ∙ ap (λ (j : ℕ). Some (bare n s j c)) number)

pub first_committed : (n : ℕ) (s : State) (k : ℕ) (c : Campaign) → CanBeGone n s → campaign_at s k ≡ Some c → committed (forget_first n s) k (bare n s k c) ≡ committed s k c
first_committed n s k c g there = first_money n s k c (bare n s k c) (bounds_of n s g) there (first_campaign n s k c there)

-- what is free of a budget is free without them
pub first_pays : (test : Bool → ℕ → Bool) (n : ℕ) (s : State) (k : ℕ) → CanBeGone n s → option_map_or (λ (c : Campaign). test c.live (free s k c)) (campaign_at s k) false ≡ true
    → option_map_or (λ (c : Campaign). test c.live (free (forget_first n s) k c)) (campaign_at (forget_first n s) k) false ≡ true
first_pays test n s k g pays =
    let (c, there, passes) = there_is (λ (c : Campaign). test c.live (free s k c)) (campaign_at s k) pays in
    ap (λ o. option_map_or (λ (x : Campaign). test x.live (free (forget_first n s) k x)) o false) (first_campaign n s k c there)
    ∙ ap (λ paid. test c.live (c.facts.budget - paid)) (first_committed n s k c g there)
    ∙ passes

pub first_room : (n : ℕ) (s : State) → nat_lt (length s.sales) most_sales ≡ true → nat_lt (length (drop n s.sales)) most_sales ≡ true
first_room n s e =
    let room : suc (length s.sales) ≤ most_sales = leb-true (suc (length s.sales)) most_sales e in
    le-leb (suc (length (drop n s.sales))) most_sales (omega (arith, room, length-drop n s.sales))

all_set : (g : ℕ × Campaign → Campaign) (k i : ℕ) (cs : List Campaign) (d : Campaign) → map g (enumerate_from k (set cs i d)) ≡ set (map g (enumerate_from k cs)) i (g (k + i, d))
all_set g k i [] d = refl
all_set g k zero (c ∷ cs) d = let same : k ≡ k + 0 = omega arith in ap (λ (j : ℕ). g (j, d) ∷ map g (enumerate_from (k + 1) cs)) same
all_set g k (suc i) (c ∷ cs) d =
    let same : (k + 1) + i ≡ k + suc i = omega arith in
    ap (λ l. g (k, c) ∷ l) (all_set g (k + 1) i cs d ∙ ap (λ (j : ℕ). set (map g (enumerate_from (k + 1) cs)) i (g (j, d))) same)

pub first_changed : (n : ℕ) (s : State) (k : ℕ) (d : Campaign) → 1 ≤ k → with_campaign (forget_first n s) k (bare n s k d) ≡ forget_first n (with_campaign s k d)
first_changed n s k d low =
    let number : 1 + (k - 1) ≡ k = omega (arith, low) in
    let g = with_gone (take n s.sales) in
    ap (λ cs. state_with cs (drop n s.sales)) (sym (all_set g 1 (k - 1) s.campaigns d ∙ ap (λ (j : ℕ). set (map g (enumerate_from 1 s.campaigns)) (k - 1) (g (j, d))) number))

all_push : (g : ℕ × Campaign → Campaign) (k : ℕ) (cs : List Campaign) (d : Campaign) → map g (enumerate_from k (cs ++ d ∷ [])) ≡ map g (enumerate_from k cs) ++ g (k + length cs, d) ∷ []
all_push g k [] d = let same : k ≡ k + 0 = omega arith in ap (λ (j : ℕ). g (j, d) ∷ []) same
all_push g k (c ∷ cs) d =
    let same : (k + 1) + length cs ≡ k + length (c ∷ cs) = omega arith in
    ap (λ l. g (k, c) ∷ l) (all_push g (k + 1) cs d ∙ ap (λ (j : ℕ). map g (enumerate_from (k + 1) cs) ++ g (j, d) ∷ []) same)

pub first_added : (n : ℕ) (s : State) (d : Campaign) → IsConsistent s → d.gone ≡ none_gone → with_campaigns (forget_first n s) (d ∷ []) ≡ forget_first n (with_campaigns s (d ∷ []))
first_added n s d h none =
    let known = each_taken (λ x. is_known (length s.campaigns) x ≡ true) s.sales n (known_in s h) in
    let new : gone_with (1 + length s.campaigns) d.gone (take n s.sales) ≡ d.gone =
    ap (λ g. gone_with (1 + length s.campaigns) g (take n s.sales)) none ∙ gone_new (length s.campaigns) (1 + length s.campaigns) (take n s.sales) (omega arith) known ∙ sym none in
    let same : bare n s (1 + length s.campaigns) d ≡ d = ap (λ g. record d { gone = g }) new in
    ap (λ cs. state_with cs (drop n s.sales)) (ap (λ (x : Campaign). (forget_first n s).campaigns ++ x ∷ []) (sym same) ∙ sym (all_push (with_gone (take n s.sales)) 1 s.campaigns d))

-- ---- a sale that is held

-- it stands behind those of which none is
held_behind : (sales : List SaleRow) (n p : ℕ) (sale : SaleRow) → AreSettled (take n sales) → slice_get sales p ≡ Some sale → is_held sale.state ≡ true → n ≤ p
held_behind sales zero p sale h at held = omega arith
held_behind [] (suc n) p sale h at held = absurd (none_some sale at)
held_behind (x ∷ sales) (suc n) zero sale h at held = absurd (false≢true (ap not (sym held) ∙ sym (ap (λ (y : SaleRow). not (is_held y.state)) (some_same x sale at)) ∙ h.0))
held_behind (x ∷ sales) (suc n) (suc p) sale h at held = omega (arith, held_behind sales n p sale h.1 at held)

dropped_at : {A : Type 0} (xs : List A) (n i : ℕ) → slice_get (drop n xs) i ≡ slice_get xs (n + i)
dropped_at xs zero i = ap (slice_get xs) (omega arith)
dropped_at [] (suc n) i = refl
dropped_at (x ∷ xs) (suc n) i = let next : suc (n + i) ≡ suc n + i = omega arith in dropped_at xs n i ∙ ap (slice_get (x ∷ xs)) next

above_gone : (f k : ℕ) (o : Option SaleRow) (sale : SaleRow) → cond (nat_le k f) None o ≡ Some sale → f < k
above_gone f k o sale e = elim (cases_Bool (nat_le k f)) [
  | inl y ↦ absurd (none_some sale (sym (ap (λ b. cond b None o) y) ∙ e))
  | inr n ↦ leb-false k f n
]

-- where a sale that is held stands, in the whole list and without the first ones
pub record StandsBehind (n : ℕ) (s : State) (k : ℕ) (sale : SaleRow) : Type 0 where
  pub behind : n ≤ k - forgotten s - 1
  pub place : n + (k - forgotten (forget_first n s) - 1) ≡ k - forgotten s - 1
  pub there : sale_numbered (forget_first n s) k ≡ Some sale

pub stands_behind : (n : ℕ) (s : State) (k : ℕ) (sale : SaleRow) → IsConsistent s → CanBeGone n s → sale_numbered s k ≡ Some sale → is_held sale.state ≡ true → StandsBehind n s k sale
stands_behind n s k sale h g there held =
    let at = sale_place s k sale there in
    let low = above_gone (forgotten s) k (slice_get s.sales (k - forgotten s - 1)) sale there in
    let behind = held_behind s.sales n (k - forgotten s - 1) sale (front_in n s g).settled at held in
    let counted = first_counted n s h (bounds_of n s g) in
    let place : n + (k - forgotten (forget_first n s) - 1) ≡ k - forgotten s - 1 = omega (arith, counted, low, behind) in
    record {
      behind = behind;
      place = place;
      there =
          ap (λ b. cond b None (slice_get (drop n s.sales) (k - forgotten (forget_first n s) - 1))) (lt-leb k (forgotten (forget_first n s)) (omega (arith, counted, low, behind)))
          ∙ dropped_at s.sales n (k - forgotten (forget_first n s) - 1)
          ∙ ap (slice_get s.sales) place
          ∙ at;
    }

pub first_settled_one : (n : ℕ) (s : State) (k : ℕ) (sale to : SaleRow) → StandsBehind n s k sale → with_sale (forget_first n s) k to ≡ forget_first n (with_sale s k to)
first_settled_one n s k sale to b =
    let at = k - forgotten (forget_first n s) - 1 in
    first_sales n s (set s.sales (k - forgotten s - 1) to) (set (drop n s.sales) at to)
    (take-set-le n s.sales (k - forgotten s - 1) to b.behind)
    (ap (λ i. drop n (set s.sales i to)) (sym b.place) ∙ drop-set-add n s.sales at to)

pub front_settled_one : (n : ℕ) (s : State) (i : ℕ) (to : SaleRow) → n ≤ i → IsFront n s.sales → IsFront n (set s.sales i to)
front_settled_one n s i to le f = same_front n s.sales (set s.sales i to) (omega (arith, length-set s.sales i to)) (take-set-le n s.sales i to le) f
